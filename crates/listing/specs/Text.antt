-- Text in ASCII: numbers in decimal, and the words of the printed lines. (01, "Orders, station files, program"; "Numbers are in base ten".)
use Rattle.std.specs.Prelude.{ℕ, zero, suc, ◌+◌, ◌/◌, ◌%◌, cond, List, [], ◌∷◌, ◌++◌, ltb}
use Prim.Native.Char.{code}
use Prim.Native.String.{String, [] as []ₛ, ◌∷◌ as ◌∷ₛ◌}

-- a text by the codes of its characters
abbrev pub ascii : String → List ℕ
ascii []ₛ = []
ascii (c ∷ₛ s) = code c ∷ ascii s

-- the digits of n in base ten, the most significant first, with no zero in front; k is a bound on their count
unfoldable pub digits_within : ℕ → ℕ → List ℕ
digits_within zero n = []
digits_within (suc k) n = cond (ltb n 10) ((48 + n) ∷ []) (digits_within k (n / 10) ++ ((48 + n % 10) ∷ []))

-- every number that is printed is below 2 to the 64th, and has at most twenty digits
unfoldable pub decimal : ℕ → List ℕ
decimal n = digits_within 20 n

-- a number behind some text
unfoldable pub labelled : List ℕ → ℕ → List ℕ
labelled text n = text ++ decimal n

-- the end of a line, and what stands between two numbers of a line
abbrev pub line_end : List ℕ
line_end = ascii "\n"

abbrev pub space : List ℕ
space = ascii " "

-- Texts of the trial trays and texts with a fault, by computation.
use Prim.Native.Nat.{ℕ}
use Prim.Native.Char.{code}
use Prim.Native.String.{String}
use mathlib.Core.Path.{◌≡◌, refl}
use mathlib.Core.List.{List, [], ◌∷◌, ◌++◌}
use lib.ListN.{replicate}
use Rattle.plans.specs.Word.{binary_word, unary_word}
use Rattle.grammar.specs.Character.{opening, closing}
use Rattle.grammar.specs.States.{step, finish}
use Rattle.grammar.specs.Reading.{Parse, Plan, Fault, read_from, read_text}

codes : String → List ℕ
codes String.[] = []
codes (String.◌∷◌ c s) = code c ∷ codes s

-- the texts of the trays, under their tables (n = 4)
read : String → Parse
unfolding codes
read s = read_text 4 (codes s)

-- a text that is read, and one that is refused
record Row : Type 0 where
  text : String
  answer : Parse

abbrev ◌▹◌ : String → Parse → Row
t ▹ a = record { text = t; answer = a }

infix 5 ◌▹◌
rows : List Row
rows =
    ("(1 # 2)" ▹ Plan (1 ∷ 2 ∷ 66 ∷ []))
    ∷ ("H0((1 # 2))" ▹ Plan (1 ∷ 2 ∷ 66 ∷ 80 ∷ []))
    ∷ ("T(1+4)" ▹ Plan (1 ∷ 4 ∷ 64 ∷ 70 ∷ []))
    ∷ ("1.2+2.1+3" ▹ Plan (1 ∷ 2 ∷ 65 ∷ 2 ∷ 1 ∷ 65 ∷ 64 ∷ 3 ∷ 64 ∷ []))
    ∷ ("(1 < 2.4)" ▹ Plan (1 ∷ 2 ∷ 4 ∷ 65 ∷ 69 ∷ []))
    ∷ ("H7((1 [ (2 | 3)))" ▹ Plan (1 ∷ 2 ∷ 3 ∷ 68 ∷ 67 ∷ 87 ∷ []))
    ∷ ("1.2.3" ▹ Plan (1 ∷ 2 ∷ 65 ∷ 3 ∷ 65 ∷ []))
    ∷ ("1.(2.3)" ▹ Plan (1 ∷ 2 ∷ 3 ∷ 65 ∷ 65 ∷ []))
    ∷ ("((0))" ▹ Plan (0 ∷ []))
    -- a character that can't go on
    ∷ ("01" ▹ Fault 61 1)
    ∷ ("1(2)" ▹ Fault 61 1)
    ∷ ("1 + 2" ▹ Fault 61 1)
    ∷ ("(1 # 2 # 3)" ▹ Fault 61 6)
    ∷ ("(1  # 2)" ▹ Fault 61 3)
    ∷ ("T(1 # 2)" ▹ Fault 61 3)
    ∷ ("H8(1)" ▹ Fault 61 1)
    ∷ ("(1))" ▹ Fault 61 3)
    -- a text that ends too early
    ∷ ("" ▹ Fault 61 0)
    ∷ ("1+" ▹ Fault 61 2)
    ∷ ("T" ▹ Fault 61 1)
    ∷ ("(1 # 2" ▹ Fault 61 6)
    -- an action above n
    ∷ ("45" ▹ Fault 61 0)
    ∷ ("(1 # 123456789012345678901234567890x)" ▹ Fault 61 5)
    ∷ []

answers : List Row → List Parse
unfolding read
answers [] = []
answers (r ∷ rs) = read r.text ∷ answers rs

expected : List Row → List Parse
expected [] = []
expected (r ∷ rs) = r.answer ∷ expected rs

all_right : answers rows ≡ expected rows
unfolding answers expected rows read codes read_text read_from step finish binary_word unary_word
all_right = refl

-- the brackets of `T(` and the like count, 200 are allowed, and the place is the bracket's
deep_allowed : read_text 4 (replicate 199 opening ++ codes "T(1)" ++ replicate 199 closing) ≡ Plan (1 ∷ 70 ∷ [])
unfolding read_text read_from step finish codes unary_word
deep_allowed = refl

deep-refused : read_text 4 (replicate 200 opening ++ codes "T(x") ≡ Fault 62 201
unfolding read_text read_from step finish codes
deep-refused = refl

-- The blocks of a station file: what each must be, and how one is made. (01, "Orders, station files, program"; refusals 52 to 54; request 106.)
use Rattle.std.specs.Prelude.{◌≡◌, ℕ, zero, suc, ◌+◌, ◌*◌, ◌/◌, ◌%◌, Bool, true, cond, ◌&&◌, List, [], ◌∷◌, ◌++◌, length, take, drop, ◌==◌, nat_le, nat_lt, slice_index}
use Rattle.std.proofs.Math.Option.{Option}
use Rattle.refusals.specs.declared.Refusal.{Refusal}
use Rattle.refusals.specs.Refusal.{refuse_unless, or_else}
use Rattle.areas.specs.Area.{padded}

-- "two bytes to a word, low first": word k of the block b, from 0
unfoldable pub word : List ℕ → ℕ → ℕ
word b k = slice_index b (2 * k) + 256 * slice_index b (2 * k + 1)

-- "block number, kind (1 tables, 2 plan), count used, two bytes each, low first"
unfoldable pub number_of : List ℕ → ℕ
number_of b = word b 0

unfoldable pub kind_of : List ℕ → ℕ
kind_of b = word b 1

unfoldable pub count_of : List ℕ → ℕ
count_of b = word b 2

-- "504 of content"
unfoldable pub content : List ℕ → List ℕ
content b = take 504 (drop 6 b)

-- the content that is used, and the filling behind it
unfoldable pub used : List ℕ → List ℕ
used b = take (count_of b) (content b)

unfoldable pub filling : List ℕ → List ℕ
filling b = drop (count_of b) (content b)

-- the sum of the m words from word k on
unfoldable pub words_sum : List ℕ → ℕ → ℕ → ℕ
words_sum b k zero = 0
words_sum b k (suc m) = word b k + words_sum b (suc k) m

-- "last, the sum of the 255 words before it, wrapping at 65,536": the sum that is due, and whether it stands there
abbrev pub sum_due : List ℕ → ℕ
sum_due b = words_sum b 0 255 % 65536

unfoldable pub sum_right : List ℕ → Bool
sum_right b = word b 255 == sum_due b

-- "zero past the count"
unfoldable pub all_zero : List ℕ → Bool
all_zero [] = true
all_zero (v ∷ vs) = v == 0 && all_zero vs

-- "Blocks 0 to 3 hold 504 each and block 4 holds 289 of tables; plan blocks follow, all full but the last (1 to 504)":
-- the kind of block i, and whether block i of n may have the count c
abbrev pub kind_due : ℕ → ℕ
kind_due i = cond (nat_lt i 5) 1 2

unfoldable pub count_right : ℕ → ℕ → ℕ → Bool
count_right n i c =
    cond (nat_lt i 4) (c == 504)
    (cond (i == 4) (c == 289)
    (cond (suc i == n) (nat_le 1 c && nat_le c 504)
    (c == 504)))

-- "kind, count or filling" of block i of n
unfoldable pub use_right : ℕ → ℕ → List ℕ → Bool
use_right n i b = kind_of b == kind_due i && (count_right n i (count_of b) && all_zero (filling b))

-- "52 sum, 53 number, 54 kind, count or filling": of block i of n
unfoldable pub block_refusal : ℕ → ℕ → List ℕ → Option Refusal
block_refusal n i b =
    or_else (refuse_unless (sum_right b) 52)
    (or_else (refuse_unless (number_of b == i) 53)
    (refuse_unless (use_right n i b) 54))

-- "two bytes each, low first": a number below 65,536
unfoldable pub two_bytes : ℕ → List ℕ
two_bytes n = n % 256 ∷ n / 256 ∷ []

-- "block number, kind (1 tables, 2 plan), count used …; 504 of content, zero past the count": the 510 bytes before the sum
unfoldable pub unsummed : ℕ → ℕ → List ℕ → List ℕ
unsummed number kind held = two_bytes number ++ (two_bytes kind ++ (two_bytes (length held) ++ padded held 504))

-- "last, the sum of the 255 words before it": 510 bytes and their sum
unfoldable pub with_sum : List ℕ → List ℕ
with_sum b = b ++ two_bytes (sum_due b)

-- a whole block, of its number, its kind and what it holds
unfoldable pub block_of : ℕ → ℕ → List ℕ → List ℕ
block_of number kind held = with_sum (unsummed number kind held)

-- What block i of n must be, in one statement: the block of that number and kind, with a count that block i may have.
-- (The contract of `judge_block` says that a block of bytes is refused nothing exactly when it is this.)
pub record RightBlock (n i : ℕ) (b : List ℕ) : Type 0 where
  pub held : List ℕ
  pub count : count_right n i (length held) ≡ true
  pub made : b ≡ block_of i (kind_due i) held

-- Blocks by computation: the bytes of one, a sum that wraps, and the refusals of blocks that differ from a right one.
use Rattle.std.proofs.Common.{◌≡◌, ℕ, Bool, true, ◌&&◌, eqb, List, [], ◌∷◌, ◌++◌, drop, set, replicate, refl}
use Rattle.refusals.specs.Refusal.{reported}
use Rattle.areas.specs.Area.{padded}
use Rattle.blocks.specs.Block.{word, number_of, kind_of, count_of, content, filling, words_sum, sum_right, all_zero, count_right, use_right, block_refusal}
use Rattle.blocks.specs.Block.{two_bytes, unsummed, with_sum, block_of}

-- the plan of trial tray 1
plan : List ℕ
plan = 1 ∷ 2 ∷ 66 ∷ []

-- its block: number 5, kind 2, count 3, the words, 501 zeros, and 5 + 2 + 3 + 513 + 66 = 589 = 77 + 2 × 256
plan-block : block_of 5 2 plan ≡ 5 ∷ 0 ∷ 2 ∷ 0 ∷ 3 ∷ 0 ∷ 1 ∷ 2 ∷ 66 ∷ (replicate 501 0 ++ (77 ∷ 2 ∷ []))
unfolding plan block_of with_sum unsummed two_bytes padded words_sum word
plan-block = refl

-- a full block whose sum wraps 252 times: 5 + 2 + 504 + 252 × 65,535 is 259 = 3 + 256 past 252 × 65,536
full_block : drop 510 (block_of 5 2 (replicate 504 255)) ≡ 3 ∷ 1 ∷ []
unfolding block_of with_sum unsummed two_bytes padded words_sum word
full_block = refl

-- a block with a count of its own
counted : ℕ → ℕ → ℕ → List ℕ → List ℕ
counted number kind count held = with_sum (two_bytes number ++ two_bytes kind ++ two_bytes count ++ padded held 504)

-- block i of n, and the number that it is refused with
record Case : Type 0 where
  n : ℕ
  i : ℕ
  block : List ℕ
  refusal : ℕ

case : ℕ → ℕ → List ℕ → ℕ → Case
case n i b k = record { n = n; i = i; block = b; refusal = k }

cases : List Case
unfolding counted plan case
cases =
    -- a last block that is full, with a sum that wraps
    case 6 5 (block_of 5 2 (replicate 504 255)) 0
    -- a wrong sum and a wrong number; a wrong number and a wrong kind
    ∷ case 6 5 (set (block_of 6 2 plan) 6 9) 52
    ∷ case 6 5 (block_of 6 1 plan) 53
    -- a count of 0; block 4 with a byte of filling
    ∷ case 6 5 (block_of 5 2 []) 54
    ∷ case 6 4 (counted 4 1 289 (replicate 290 1)) 54
    ∷ []

right : List Case → Bool
unfolding block_refusal
right [] = true
right (c ∷ cs) = eqb (reported (block_refusal c.n c.i c.block) []).number c.refusal && right cs

block_cases : right cases ≡ true
unfolding right cases case counted block_of with_sum unsummed two_bytes padded plan block_refusal sum_right word words_sum number_of kind_of count_of content filling all_zero count_right use_right
block_cases = refl

-- A block that is not refused by 52 to 54: each test that it passed, and how much it may hold.
use Rattle.std.proofs.Common.{◌≡◌, ℕ, suc, ◌≤◌, Bool, true, false, cond, ◌&&◌, eqb, ltb, leb, List, length, take, drop, arith, length-take, eqb-true, leb-true}
use mathlib.Core.Option.{none}
use Rattle.refusals.specs.Refusal.{refuse_unless, or_else}
use Rattle.refusals.proofs.Judging.{none_of_both}
use Rattle.blocks.specs.Block.{content, count_of, used, number_of, sum_right, count_right, filling, kind_of, kind_due, all_zero, use_right, block_refusal}
use Rattle.blocks.proofs.Answers.{met, both}

pub count_small : (n i c : ℕ) → count_right n i c ≡ true → c ≤ 504
unfolding count_right
count_small n i c = go (ltb i 4) (eqb i 4) (eqb (suc i) n)
  where
    full : (m : ℕ) → eqb c m ≡ true → m ≤ 504 → c ≤ 504
    full m e h = let q = eqb-true c m e in omega arith

    go : (x y z : Bool) → cond x (eqb c 504) (cond y (eqb c 289) (cond z (leb 1 c && leb c 504) (eqb c 504))) ≡ true → c ≤ 504
    go true y z e = full 504 e (omega arith)
    go false true z e = full 289 e (omega arith)
    go false false true e = leb-true c 504 (both (leb 1 c) (leb c 504) e).1
    go false false false e = full 504 e (omega arith)

-- a block holds at most 504 bytes
pub used-short : (b : List ℕ) → length (used b) ≤ 504
unfolding used content
used-short b = omega (arith, length-take (count_of b) (take 504 (drop 6 b)), length-take 504 (drop 6 b))

-- a block that is not refused
pub record Right (n i : ℕ) (b : List ℕ) : Type 0 where
  pub sum : sum_right b ≡ true
  pub number : eqb (number_of b) i ≡ true
  pub kind : eqb (kind_of b) (kind_due i) ≡ true
  pub count : count_right n i (count_of b) ≡ true
  pub zeros : all_zero (filling b) ≡ true

pub block-right : (n i : ℕ) (b : List ℕ) → block_refusal n i b ≡ none → Right n i b
unfolding block_refusal use_right
block-right n i b e =
    let first = (none_of_both (refuse_unless (sum_right b) 52) (or_else (refuse_unless (eqb (number_of b) i) 53) (refuse_unless (use_right n i b) 54))).0 e in
    let second = (none_of_both (refuse_unless (eqb (number_of b) i) 53) (refuse_unless (use_right n i b) 54)).0 first.1 in
    let third = both (eqb (kind_of b) (kind_due i)) (count_right n i (count_of b) && all_zero (filling b)) (met 54 (use_right n i b) second.1) in
    let fourth = both (count_right n i (count_of b)) (all_zero (filling b)) third.1 in
    record {
      sum = met 52 (sum_right b) first.0;
      number = met 53 (eqb (number_of b) i) second.0;
      kind = third.0;
      count = fourth.0;
      zeros = fourth.1;
    }

-- What a file has that is not refused by 51 to 54: how many blocks, the count of each, and how long the tables and the plan are.
use Prim.Native.Nat.{ℕ, zero, suc, ◌-◌, ◌*◌, ◌%◌, ◌≤◌, ◌<◌}
use mathlib.Core.Path.{◌≡◌, ◌∙◌}
use mathlib.Core.Bool.{true, ◌&&◌}
use mathlib.Core.List.{List}
use mathlib.Core.Option.{none}
use native.Mathlib.Omega.{arith}
use lib.ListN.{length, length-append}
use lib.Dec.{eqb, leb}
use borrow.Author.Tests.{eqb-true, leb-true}
use Rattle.refusals.specs.Refusal.{refuse_unless}
use Rattle.refusals.proofs.Judging.{none_of_both}
use Rattle.tables.specs.Search.{first_from}
use Rattle.blocks.specs.Block.{count_of, used, count_right}
use Rattle.stations.specs.File.{blocks, block, length_right, held, joined, tables_held, plan_held, form_refusal}
use Rattle.blocks.proofs.Answers.{met, both}
use Rattle.blocks.proofs.Reading.{length-used}
use Rattle.blocks.proofs.Right.{Right, block-right, count_small, used-short}
use Rattle.stations.proofs.Files.{nowhere, at, block-long}

pub held-short : (f : List ℕ) (i m : ℕ) → length (held f i m) ≤ 504 * m
unfolding joined
held-short f i zero = omega arith
held-short f i (suc m) = omega (arith, length-append (used (block f i)) (held f (suc i) m), used-short (block f i), held-short f (suc i) m)

module _ (f : List ℕ) (sound : form_refusal f ≡ none) where
  pub length_met : (length_right f ≡ true) × (first_from (at f) 0 (blocks f) ≡ none)
  unfolding form_refusal
  length_met =
      let h = (none_of_both (refuse_unless (length_right f) 51) (first_from (at f) 0 (blocks f))).0 sound in
      (met 51 (length_right f) h.0, h.1)

  pub few : (6 ≤ blocks f) × (blocks f ≤ 38)
  unfolding length_right
  few =
      let h = both (leb 6 (blocks f)) (leb (blocks f) 38) (both (eqb (length f % 512) 0) (leb 6 (blocks f) && leb (blocks f) 38) length_met.0).1 in
      (leb-true 6 (blocks f) h.0, leb-true (blocks f) 38 h.1)

  pub right_at : (i : ℕ) → i < blocks f → Right (blocks f) i (block f i)
  right_at i h = block-right (blocks f) i (block f i) (nowhere (at f) 0 (blocks f) i (omega arith) (omega arith) length_met.1)

  pub count_sound : (i : ℕ) → i < blocks f → count_of (block f i) ≤ 504
  count_sound i h = count_small (blocks f) i (count_of (block f i)) (right_at i h).count

  pub used-long : (i : ℕ) → i < blocks f → length (used (block f i)) ≡ count_of (block f i)
  used-long i h = length-used (block f i) (count_sound i h) (block-long f i h)

  pub tables-long : length (tables_held f) ≡ 2305
  unfolding tables_held joined count_right
  tables-long =
      let h = few.0 in
      let a = used-long 0 (omega arith) ∙ eqb-true (count_of (block f 0)) 504 (right_at 0 (omega arith)).count in
      let b = used-long 1 (omega arith) ∙ eqb-true (count_of (block f 1)) 504 (right_at 1 (omega arith)).count in
      let c = used-long 2 (omega arith) ∙ eqb-true (count_of (block f 2)) 504 (right_at 2 (omega arith)).count in
      let d = used-long 3 (omega arith) ∙ eqb-true (count_of (block f 3)) 504 (right_at 3 (omega arith)).count in
      let e = used-long 4 (omega arith) ∙ eqb-true (count_of (block f 4)) 289 (right_at 4 (omega arith)).count in
      simp (length-append, a, b, c, d, e)

  pub plan_fits : length (plan_held f) ≤ 16632
  unfolding plan_held
  plan_fits = let h = few.1 in omega (arith, held-short f 5 (blocks f - 5))

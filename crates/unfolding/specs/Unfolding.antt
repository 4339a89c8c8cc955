-- The unfolding: its answer and what it leaves in the list and the areas. (01, "Unfolding" and "Turned back by how far it had come".)
use Prim.Native.Nat.{ℕ}
use Rattle.std.specs.Prelude.{cond, length, eqb, ltb, Result, Ok, Err}
use mathlib.Core.List.{List}
use Rattle.std.proofs.Math.Option.{Option, none, some}
use Rattle.refusals.specs.declared.Place.TheVariants.{Nowhere}
use Rattle.refusals.specs.declared.Refusal.{Refusal}
use Rattle.refusals.specs.Refusal.{refuse, or_else}
use Rattle.areas.specs.Area.{padded}
use Rattle.tables.specs.Tables.{Tables}
use Rattle.plans.specs.Judging.{plan_refusal}
use Rattle.unfolding.specs.declared.Unfolded.{Unfolded}
use Rattle.unfolding.specs.declared.Unfolded.TheVariants.{Finished, Stopped}
use Rattle.areas.specs.Reached.{capacity, even?, area_a, area_b}
use Rattle.rewritings.specs.Moves.{bytes_of}
use Rattle.rewritings.specs.Runs.{Run, run_of}

-- everything that an unfolding answers and leaves
pub record UnfoldOutcome : Type 0 where
  pub answer : Result Unfolded Refusal
  pub list : List ℕ
  pub a : List ℕ
  pub b : List ℕ

abbrev pub unfolded : Run → Result Unfolded Refusal
unfolded r = cond (eqb r.number 0) (Ok (Finished r.steps (length r.plan))) (Ok (Stopped r.number r.steps (length r.plan)))

-- "The answer has the steps made; they are exactly the records in the list … All bytes past a plan, in either area, and past the records
-- are zero."
abbrev pub settled : Run → List ℕ → List ℕ → List ℕ → UnfoldOutcome
settled r list a b =
    record {
      answer = unfolded r;
      list = padded (bytes_of r.moves) (length list);
      a = area_a (even? r.steps) r.plan r.before (length a);
      b = area_b (even? r.steps) r.plan r.before (length b);
    }

-- 1 to 8, 11 to 14, then "15 plan longer than C"
unfoldable pub unfold_refusal : Tables → List ℕ → ℕ → Option Refusal
unfold_refusal t plan c = or_else (plan_refusal t plan) (cond (ltb c (length plan)) (refuse 15 Nowhere) none)

-- "Areas and lists keep their bytes" where what was handed in is turned back
abbrev pub unless_refused : Option Refusal → Run → List ℕ → List ℕ → List ℕ → UnfoldOutcome
unless_refused (some f) r list a b = record { answer = Err f; list = list; a = a; b = b }
unless_refused none r list a b = settled r list a b

unfoldable pub unfold_outcome : Tables → List ℕ → ℕ → List ℕ → List ℕ → List ℕ → UnfoldOutcome
unfolding run_of unfold_refusal capacity
unfold_outcome t plan m list a b =
    unless_refused (unfold_refusal t plan (capacity a b)) (run_of t plan m (length list) (capacity a b)) list a b

-- What the answer of a run reports, and that the plan reached and the rewriting are read off the areas and the list that it leaves.
use Rattle.std.specs.Prelude.{Result, Ok, Err}
use Prim.Native.Nat.{ℕ, ◌≤◌, ◌*◌}
use mathlib.Core.Path.{◌≡◌, refl, sym}
use mathlib.Core.Bool.{Bool, true, false, cond}
use mathlib.Core.List.{List}
use mathlib.Core.Option.{none, some}
use mathlib.Core.Logic.{◌↔◌}
use lib.ListN.{length, take}
use lib.Seq.{take_at}
use lib.Dec.{eqb, ltb}
use borrow.Author.Tests.{ltb-false, le-ltb, eqb-true, eqb-false}
use Rattle.refusals.specs.declared.Refusal.{Refusal}
use Rattle.refusals.proofs.Judging.{none_of_both}
use Rattle.areas.specs.Area.{padded}
use Rattle.areas.specs.Reached.{even?, area_a, area_b, reached_part}
use Rattle.tables.specs.Tables.{Tables}
use Rattle.plans.specs.Judging.{plan_refusal}
use Rattle.plans.specs.Accepted.{AcceptedPlan}
use Rattle.plans.proofs.Options.{never}
use Rattle.plans.proofs.Accepted.{accepted-plan}
use Rattle.rewritings.specs.Moves.{bytes_of}
use Rattle.rewritings.specs.Runs.{Run}
use Rattle.unfolding.specs.declared.Unfolded.{Unfolded}
use Rattle.unfolding.specs.declared.Unfolded.TheVariants.{Finished, Stopped}
use Rattle.unfolding.specs.Unfolding.{unfolded, unfold_refusal}
use Rattle.demands.specs.Reports.{Reports, finished, stopped, own_rewriting}

pub take-padded : (w : List ℕ) (n : ℕ) → take (length w) (padded w n) ≡ w
unfolding padded
take-padded w n = take_at w _ (length w) refl

-- the plan reached stands in its area
pub reached_is : (e : Bool) (w v : List ℕ) (n m : ℕ) → reached_part e (length w) (area_a e w v n) (area_b e w v m) ≡ w
unfolding reached_part area_a area_b
reached_is true w v n m = take-padded w n
reached_is false w v n m = take-padded w m

-- an unfolding is refused nothing exactly where the plan is accepted and the areas can hold it
pub unfold_accepts : (t : Tables) (plan : List ℕ) (c : ℕ) → (unfold_refusal t plan c ≡ none) ↔ (AcceptedPlan t plan × (length plan ≤ c))
unfolding unfold_refusal
unfold_accepts t plan c = (
  λ e.
      let h = (none_of_both (plan_refusal t plan) _).0 e in
      ((accepted-plan t plan).0 h.0, go (ltb c (length plan)) _ refl h.1),
  λ h. (none_of_both (plan_refusal t plan) _).1 ((accepted-plan t plan).1 h.0, rw (le-ltb c (length plan) h.1)),
)
  where
    go : (x : Bool) (f : Refusal) → ltb c (length plan) ≡ x → cond x (some f) none ≡ none → length plan ≤ c
    go true f q e = never (sym e)
    go false f q e = ltb-false c (length plan) q

-- what an answer reports
pub data Shown (o : Result Unfolded Refusal) (s z : ℕ) : Type 0 where
  shown-finished : o ≡ Ok (Finished s z) → Shown o s z
  shown-stopped : (k : ℕ) → o ≡ Ok (Stopped k s z) → Shown o s z

pub shown : {o : Result Unfolded Refusal} {s z : ℕ} → Reports o s z → Shown o s z
shown finished = shown-finished refl
shown (stopped {number = k}) = shown-stopped k refl

pub not_refused : {s z : ℕ} {A : Type 0} (f : Refusal) → Shown (Err f) s z → A
not_refused f (shown-finished e) = absurd (cc)
not_refused f (shown-stopped k e) = absurd (cc)

pub reports_run : (r : Run) → Reports (unfolded r) r.steps (length r.plan)
reports_run r = go (eqb r.number 0)
  where
    go : (x : Bool)
        → Reports (cond x (Ok (Finished r.steps (length r.plan))) (Ok (Stopped r.number r.steps (length r.plan)))) r.steps (length r.plan)
    go true = finished
    go false = stopped

-- the steps and the size of a run's answer, and whether it says finished or stopped
pub record Told (r : Run) (s z : ℕ) : Type 0 where
  pub steps_told : s ≡ r.steps
  pub size_told : z ≡ length r.plan
  pub finished_told : (unfolded r ≡ Ok (Finished s z)) ↔ (r.number ≡ 0)
  pub stopped_told : (k : ℕ) → unfolded r ≡ Ok (Stopped k s z) → (r.number ≡ k) × (r.number ≡ 0 → ⊥)

pub told : (r : Run) (s z : ℕ) → Shown (unfolded r) s z → Told r s z
told r s z h = go (eqb r.number 0) refl h
  where
    go : (x : Bool) → eqb r.number 0 ≡ x
        → Shown (cond x (Ok (Finished r.steps (length r.plan))) (Ok (Stopped r.number r.steps (length r.plan)))) s z → Told r s z
    go true q (shown-finished e) =
        record {
          steps_told = cc;
          size_told = cc;
          finished_told = (λ i. eqb-true r.number 0 q, λ i. rw q e);
          stopped_told = λ k i. let never = rw q at i in absurd (cc);
        }
    go true q (shown-stopped k e) = absurd (cc)
    go false q (shown-finished e) = absurd (cc)
    go false q (shown-stopped k e) =
        record {
          steps_told = cc;
          size_told = cc;
          finished_told = (λ i. let never = rw q at i in absurd (cc), λ i. absurd (eqb-false r.number 0 q i));
          stopped_told = λ j i. let same = rw q at i in (cc, eqb-false r.number 0 q);
        }

-- what an answer reports is read off the areas and the list
pub reached_told : (r : Run) (s z n k : ℕ) → Told r s z
    → reached_part (even? s) z (area_a (even? r.steps) r.plan r.before n) (area_b (even? r.steps) r.plan r.before k) ≡ r.plan
reached_told r s z n k h = rw (h.steps_told, h.size_told) (reached_is (even? r.steps) r.plan r.before n k)

pub own_told : (r : Run) (s z n : ℕ) → Told r s z → length (bytes_of r.moves) ≡ 3 * r.steps
    → own_rewriting s (padded (bytes_of r.moves) n) ≡ bytes_of r.moves
unfolding own_rewriting
own_told r s z n h l = rw (h.steps_told, ← l) (take-padded (bytes_of r.moves) n)

-- The number behind `end` is 0, with some path counted, or 34 or 36, with none; and a plan that the program reads is never refused by the unfolding.
use Prim.Native.Nat.{ℕ, ◌+◌, ◌*◌, ◌≤◌}
use native.Mathlib.Omega.{arith}
use mathlib.Core.Path.{◌≡◌, refl, ◌∙◌, ap}
use mathlib.Core.Bool.{◌&&◌}
use mathlib.Core.List.{List}
use mathlib.Core.Option.{Option, none, some}
use lib.ListN.{length}
use lib.Dec.{leb}
use borrow.Author.Tests.{le-ltb}
use Rattle.refusals.specs.Refusal.{refuse_unless}
use Rattle.refusals.specs.declared.Refusal.{Refusal}
use Rattle.refusals.proofs.Judging.{none_of_both}
use Rattle.tables.specs.Tables.{Tables, actions}
use Rattle.plans.specs.declared.Counts.{Counts}
use Rattle.plans.specs.Orders.{no_paths}
use Rattle.plans.specs.Judging.{plan_refusal}
use Rattle.plans.proofs.Accepted.{accepted-plan, basic_plan}
use Rattle.plans.proofs.Orders.{some_counted}
use Rattle.stations.specs.File.{form_refusal, held_refusal, file_refusal, tables_held, plan_held}
use Rattle.stations.proofs.Reading.{areas-fit}
use Rattle.paths.proofs.Counts.{counts-claimed}
use Rattle.unfolding.specs.Unfolding.{unfold_refusal}
use Rattle.demands.specs.Reports.{allowance_spent, list_full, next_too_long}
use Rattle.demands.proofs.Claims.{reached_accepted, finished-basic}
use Rattle.demands.proofs.Running.{Ends, no_law-fits, stops, run_ends}
use Rattle.listing.specs.Listing.{unless_refused, run_listing, plan_listing, listing}
use Rattle.listing.specs.Endings.{EndNumber, finished, steps_spent, plan_too_long, file_run, file_counts, Endings, ended, refused}

-- a list that takes every step allowed is never full: 34 comes before 35
pub ends-numbered : {t : Tables} {m l c k n : ℕ} {w : List ℕ} {q : Counts} → 3 * m ≤ l → Ends t m l c w k n → (n ≡ 0 → 1 ≤ q.orders + q.stuck)
    → ((n ≡ 0 → ⊥) → q ≡ no_paths) → EndNumber n q
ends-numbered h (no_law-fits e) f g = finished (f refl)
ends-numbered h (stops (allowance_spent s e i)) f g = rw (g (λ z. omega arith)) steps_spent
ends-numbered h (stops (list_full s e i j)) f g = absurd (omega arith)
ends-numbered h (stops (next_too_long s e i j k)) f g = rw (g (λ z. omega arith)) plan_too_long

module _ (t : Tables) (c : ℕ) where
  -- 15 cannot come of a plan that is as long as the areas at most
  pub no_further_refusal : (plan : List ℕ) → length plan ≤ c → plan_refusal t plan ≡ none → unfold_refusal t plan c ≡ none
  unfolding unfold_refusal
  no_further_refusal plan h e = rw (e, le-ltb c (length plan) h)

module _ (f : List ℕ) where
  -- a file that is not refused holds a plan that is not refused and fits
  sound : file_refusal f 2305 8192 ≡ none → (length (plan_held f) ≤ 8192) × (plan_refusal (tables_held f) (plan_held f) ≡ none)
  unfolding file_refusal held_refusal
  sound e =
      let h = ((none_of_both (form_refusal f) (held_refusal (tables_held f) (plan_held f) 2305 8192)).0 e).1 in (
        (areas-fit (tables_held f) (plan_held f) 2305 8192 h).1,
        ((none_of_both (refuse_unless (leb 2305 2305 && leb (length (plan_held f)) 8192) 55) (plan_refusal (tables_held f) (plan_held f))).0 h).1,
      )

  unfolds : file_refusal f 2305 8192 ≡ none → unfold_refusal (tables_held f) (plan_held f) 8192 ≡ none
  unfolds e = let h = sound e in no_further_refusal (tables_held f) 8192 (plan_held f) h.0 h.1

  -- the unfolding finished exactly where the plan reached is basic, and only there some path is counted
  number-right : file_refusal f 2305 8192 ≡ none → EndNumber (file_run f).number (file_counts f)
  number-right e =
      let h = sound e in
      let p = (accepted-plan (tables_held f) (plan_held f)).0 h.1 in
      let few = p.lawful.well_formed.few_actions in
      let reached = reached_accepted (tables_held f) (plan_held f) 5000 15000 8192 p h.0 (omega arith) in
      let b = finished-basic (tables_held f) (plan_held f) 5000 15000 8192 p h.0 (omega arith) in
      ends-numbered (omega arith) (run_ends (tables_held f) (plan_held f) 5000 15000 8192)
      (λ z. some_counted (actions (tables_held f)) few (file_run f).plan ((basic_plan (tables_held f) (file_run f).plan).1 (b.0 z)).1)
      (λ z. (counts-claimed (tables_held f) (file_run f).plan ((accepted-plan (tables_held f) (file_run f).plan).1 reached)).not_basic (λ q. z (b.1 q)))

  by_refusal : (o : Option Refusal) → file_refusal f 2305 8192 ≡ o → listing f ≡ unless_refused o (plan_listing (tables_held f) (plan_held f))
  unfolding listing
  by_refusal o e = ap (λ (o : Option Refusal). unless_refused o (plan_listing (tables_held f) (plan_held f))) e

  run_listed : file_refusal f 2305 8192 ≡ none → plan_listing (tables_held f) (plan_held f) ≡ run_listing (tables_held f) (file_run f)
  unfolding plan_listing
  run_listed e = ap (λ (o : Option Refusal). unless_refused o (run_listing (tables_held f) (file_run f))) (unfolds e)

  -- every listing
  pub endings : Endings f
  endings = go (file_refusal f 2305 8192) refl
    where
      go : (o : Option Refusal) → file_refusal f 2305 8192 ≡ o → Endings f
      go none e = ended e (number-right e) (by_refusal none e ∙ run_listed e)
      go (some r) e = refused r e (by_refusal (some r) e)

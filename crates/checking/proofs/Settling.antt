-- After a replay: the areas hold the outcome of the check.
use Rattle.std.specs.Prelude.{Result, Ok, Err}
use Rattle.refusals.specs.declared.Refusal.{Refusal}
use Prim.Native.Nat.{ℕ, ◌-◌}
use native.Mathlib.Omega.{arith}
use mathlib.Core.Path.{◌≡◌, refl, sym, ◌∙◌, ap}
use mathlib.Core.Bool.{Bool, true, false, cond}
use mathlib.Core.List.{List, []}
use lib.ListN.{length, take, replicate}
use lib.Seq.{take_at}
use borrow.Author.Tests.{ne_eqb, eq-eqb}
use Rattle.areas.specs.Area.{padded}
use Rattle.tables.specs.Tables.{Tables}
use Rattle.laws.specs.Laws.{same_bytes}
use Rattle.areas.specs.Reached.{area_a, area_b}
use Rattle.areas.specs.Storing.{before, Stored}
use Rattle.steps.specs.Working.{plan_in, fault_number}
use Rattle.checking.specs.declared.Checked.{Checked}
use Rattle.checking.specs.declared.Checked.TheVariants.{Accepted, TurnedBack}
use Rattle.buffer.specs.declared.State.{State}
use Rattle.steps.specs.declared.Fault.{Fault}
use Rattle.steps.specs.declared.Fault.TheVariants.{DoesNotFit, TooLong}
use Rattle.steps.specs.declared.NotMade.{NotMade}
use Rattle.checking.specs.Checking.{CheckOutcome, Replay, checked, settled, replay_of}
use Rattle.checking.specs.Turns.{compared, number_of, state_of, Replayed}
use Rattle.rewritings.specs.Records.{records_of}

-- the plan stands first in its area
area-plan : (even : Bool) (w v : List ℕ) (m n : ℕ) → take (length w) (cond even (area_a even w v m) (area_b even w v n)) ≡ w
unfolding area_a area_b padded
area-plan true w v m n = take_at w (replicate (m - length w) 0) (length w) refl
area-plan false w v m n = take_at w (replicate (n - length w) 0) (length w) refl

-- the replay as it ended, with the end compared
abbrev ended : List ℕ → List ℕ → List ℕ → List ℕ → Result State NotMade → Replay
ended claimed left right old r =
    record {
      number = compared (number_of r) (plan_in left right (state_of r)) claimed;
      steps = (state_of r).made.steps;
      plan = plan_in left right (state_of r);
      before = before (state_of r).made (plan_in left right (state_of r)) old;
    }

-- what stops a replay has a number
fault_some : (f : Fault) → fault_number f ≡ 0 → ⊥
fault_some DoesNotFit e = omega arith
fault_some TooLong e = omega arith

-- the outcome of a check, where the rewriting is replayed and the plans are stored
module _ (t : Tables) (c : ℕ) (start claimed rewriting w v : List ℕ) (left starts right old : List ℕ) (r : Result State NotMade) (a b a' b' : List ℕ) (size : ℕ)
    (is_w : w ≡ start) (is_v : v ≡ []) (p : Replayed t c (records_of rewriting) 0 w v left starts right old r)
    (q : Stored a b a' b' (state_of r).made (plan_in left right (state_of r)) old size) where
  pub reached_plan : take size (cond (state_of r).made.even a' b') ≡ plan_in left right (state_of r)
  reached_plan = rw (q.in_a, q.in_b, q.plan_size) (area-plan (state_of r).made.even (plan_in left right (state_of r)) _ (length a) (length b))

  settle : (answer : Result Checked Refusal) → answer ≡ checked (ended claimed left right old r) → ◌≡◌ {A = CheckOutcome} (record { answer = answer; a = a'; b = b' }) (settled (replay_of t start claimed rewriting c) a b)
  unfolding replay_of
  settle answer e =
      let o : replay_of t start claimed rewriting c ≡ ended claimed left right old r = rw (is_w, is_v) at (p.outcome claimed) in
      rw (o, ← p.kept.parity) (cc (e, q.in_a, q.in_b))

  pub settle_stopped : (e : NotMade) → r ≡ Err e
      → ◌≡◌ {A = CheckOutcome} (record { answer = Ok (TurnedBack (fault_number e.fault) (state_of r).made.steps size); a = a'; b = b' }) (settled (replay_of t start claimed rewriting c) a b)
  unfolding compared
  settle_stopped e h =
      let z : number_of r ≡ fault_number e.fault = ap number_of h in
      let some_number : number_of r ≡ 0 → ⊥ = λ q. fault_some e.fault (sym z ∙ q) in
      settle _ (rw (← z, ne_eqb (number_of r) 0 some_number, ne_eqb (number_of r) 0 some_number, q.plan_size) refl)

  pub settle_same : (s : State) → r ≡ Ok s → same_bytes (take size (cond (state_of r).made.even a' b')) claimed ≡ true
      → ◌≡◌ {A = CheckOutcome} (record { answer = Ok (Accepted (state_of r).made.steps size); a = a'; b = b' }) (settled (replay_of t start claimed rewriting c) a b)
  unfolding compared
  settle_same s h e = settle _ (rw (eq-eqb (number_of r) 0 (ap number_of h), rw reached_plan at e, q.plan_size) refl)

  pub settle_differs : (s : State) → r ≡ Ok s → same_bytes (take size (cond (state_of r).made.even a' b')) claimed ≡ false
      → ◌≡◌ {A = CheckOutcome} (record { answer = Ok (TurnedBack 33 (state_of r).made.steps size); a = a'; b = b' }) (settled (replay_of t start claimed rewriting c) a b)
  unfolding compared
  settle_differs s h e = settle _ (rw (eq-eqb (number_of r) 0 (ap number_of h), rw reached_plan at e, q.plan_size) refl)

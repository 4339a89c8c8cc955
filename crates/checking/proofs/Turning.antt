-- One turn of a replay on a plan under work, by a step of either direction: what is left to replay has the outcome of the whole.
use Prim.Native.Nat.{ℕ, ◌+◌, ◌-◌, ◌≤◌, ◌<◌}
use native.Mathlib.Numerals.{add-one}
use native.Mathlib.Omega.{arith}
use mathlib.Core.Path.{◌≡◌, refl, sym, ◌∙◌, subst}
use mathlib.Core.List.{List, [], ◌∷◌}
use mathlib.Core.Option.{Option, none, some}
use Rattle.std.specs.Prelude.{Result, Ok, Err}
use lib.ListN.{length, take, drop}
use borrow.Author.Tests.{lt-ltb, le-ltb}
use Rattle.areas.specs.Area.{most_words}
use Rattle.areas.specs.Storing.{before, Kept}
use Rattle.tables.specs.Tables.{Tables, actions}
use Rattle.plans.specs.Judging.{words_refusal}
use Rattle.laws.specs.Laws.{highest_law}
use Rattle.laws.specs.Step.{step, step_back}
use Rattle.rewritings.specs.Records.{Recorded, forward, backward, records_of}
use Rattle.buffer.specs.declared.State.{State}
use Rattle.steps.specs.declared.Fault.{Fault}
use Rattle.steps.specs.declared.Fault.TheVariants.{DoesNotFit, TooLong}
use Rattle.steps.specs.declared.NotMade.{NotMade}
use Rattle.steps.specs.Working.{plan_in, Working, fault_number, Same, Stepping, done, fails, long}
use Rattle.checking.specs.Turns.{compared, Replayed}
use Rattle.checking.specs.Checking.{step_of, unknown_law, left_refusal, replay}
use Rattle.rewritings.proofs.Reading.{StepRead, BackRead}
use Rattle.checking.proofs.Judging.{known_first, law-back, left-forward, left_first}

-- a replay opened once
module _ (t : Tables) (c : ℕ) (claimed : List ℕ) (r : Recorded) (rs : List Recorded) (k : ℕ) (w v : List ℕ) where
  replay-made : (next : List ℕ) → step_of t r w ≡ some next → length next ≤ c → replay t c claimed (r ∷ rs) k w v ≡ replay t c claimed rs (k + 1) next w
  unfolding replay
  replay-made next e h = rw (add-one k, e, le-ltb c (length next) h)

  replay-fails : step_of t r w ≡ none → replay t c claimed (r ∷ rs) k w v ≡ record { number = 31; steps = k; plan = w; before = v }
  unfolding replay
  replay-fails e = rw e

  replay-long : (next : List ℕ) → step_of t r w ≡ some next → c < length next
      → replay t c claimed (r ∷ rs) k w v ≡ record { number = 32; steps = k; plan = w; before = v }
  unfolding replay
  replay-long next e h = rw (e, lt-ltb c (length next) h)

-- the rewriting is replayed up to a position: the rest has the outcome of the whole, which began with plan w and the plan v before it
pub record Going (t : Tables) (c : ℕ) (rewriting w v : List ℕ) (at : ℕ) (left starts right old : List ℕ) (s : State) : Type 0 where
  pub working : Working t left starts right s
  pub kept : Kept c (plan_in left right s) old s.made
  pub old_long : length old ≡ most_words
  pub few : s.made.steps ≤ at
  pub known : unknown_law s.made.steps (records_of (drop at rewriting)) ≡ none
  pub passing : left_refusal (actions t) s.made.steps (records_of (drop at rewriting)) ≡ none
  pub rest : (claimed : List ℕ)
      → replay t c claimed (records_of (drop at rewriting)) s.made.steps (plan_in left right s) (before s.made (plan_in left right s) old)
      ≡ replay t c claimed (records_of rewriting) 0 w v

module _ (t : Tables) (c : ℕ) (rewriting w v : List ℕ) (at : ℕ) (left starts right old : List ℕ) (s : State)
    (g : Going t c rewriting w v at left starts right old s) where
  -- no record is left
  pub turn_end : records_of (drop at rewriting) ≡ [] → Replayed t c (records_of rewriting) 0 w v left starts right old (Ok s)
  unfolding replay compared
  turn_end e = record { working = g.working; kept = g.kept; outcome = λ claimed. sym (g.rest claimed) ∙ rw e refl }

  -- the next record, of either direction
  pub record Turn (r : Recorded) (next : ℕ) : Type 0 where
    pub after : at < next
    pub records : records_of (drop at rewriting) ≡ r ∷ records_of (drop next rewriting)
    pub known_on : unknown_law (s.made.steps + 1) (records_of (drop next rewriting)) ≡ none
    pub passing_on : left_refusal (actions t) (s.made.steps + 1) (records_of (drop next rewriting)) ≡ none

  module _ (k q next : ℕ) (r : StepRead rewriting at k q next) where
    pub law-next : (1 ≤ k) × (k ≤ highest_law) × (unknown_law (s.made.steps + 1) (records_of (drop next rewriting)) ≡ none)
    law-next = known_first s.made.steps (record { law = k; place = q }) (records_of (drop next rewriting)) (rw r.records at g.known)

    pub step-turn : Turn (forward (record { law = k; place = q })) next
    step-turn =
        record {
          after = r.after;
          records = r.records;
          known_on = law-next.2;
          passing_on = sym (left-forward (actions t) s.made.steps (record { law = k; place = q }) (records_of (drop next rewriting))) ∙ rw r.records at g.passing;
        }

  module _ (k q from next : ℕ) (r : BackRead rewriting at k q from next) where
    abbrev carried : List ℕ
    carried = take (next - from) (drop from rewriting)

    pub left-next : (words_refusal (actions t) (take (next - from) (drop from rewriting)) ≡ none) × (left_refusal (actions t) (s.made.steps + 1) (records_of (drop next rewriting)) ≡ none)
    left-next = left_first (actions t) s.made.steps (record { law = k; place = q }) (records_of (drop next rewriting)) carried (rw r.records at g.passing)

    pub back-turn : Turn (backward (record { law = k; place = q }) (take (next - from) (drop from rewriting))) next
    back-turn =
        record {
          after = omega (arith, r.after, r.words-there);
          records = r.records;
          known_on = sym (law-back s.made.steps (record { law = k; place = q }) (records_of (drop next rewriting)) carried) ∙ rw r.records at g.known;
          passing_on = left-next.1;
        }

  module _ (r : Recorded) (next : ℕ) (u : Turn r next) (left' starts' right' old' : List ℕ) where
    abbrev given : Option (List ℕ)
    given = step_of t r (plan_in left right s)

    after-done : {s' : State} → length old' ≡ length old → Stepping t given c left starts right old left' starts' right' old' s (Ok s')
        → Going t c rewriting w v next left' starts' right' old' s'
    after-done as_long (done x n e h made) =
        record {
          working = made.working;
          kept = rw made.next_plan made.kept;
          old_long = as_long ∙ g.old_long;
          few = omega (arith, made.next_steps, g.few, u.after);
          known = rw made.next_steps u.known_on;
          passing = rw made.next_steps u.passing_on;
          rest = λ claimed.
              rw (made.next_plan, made.next_before, made.next_steps)
              (sym (replay-made t c claimed r (records_of (drop next rewriting)) s.made.steps (plan_in left right s) (before s.made (plan_in left right s) old) n e h)
              ∙ rw u.records at (g.rest claimed));
        }

    -- the state is moved alone
    stopped : (s' : State) (fault : Fault) → Same t left starts right left' starts' right' s s' → old' ≡ old
        → ((claimed : List ℕ) → compared (fault_number fault) (plan_in left right s) claimed ≡ fault_number fault)
        → ((claimed : List ℕ) → replay t c claimed (records_of (drop at rewriting)) s.made.steps (plan_in left right s) (before s.made (plan_in left right s) old)
        ≡ record { number = fault_number fault; steps = s.made.steps; plan = plan_in left right s; before = before s.made (plan_in left right s) old })
        → Replayed t c (records_of rewriting) 0 w v left' starts' right' old' (Err (record { fault = fault; state = s' }))
    stopped s' fault same e o f =
        record {
          working = same.working;
          kept = rw (same.same_plan, e, same.same_step) g.kept;
          outcome = λ claimed.
              rw (same.same_plan, e, o claimed, same.same_step)
              (sym (g.rest claimed) ∙ f claimed);
        }

    after-stopped : {e : NotMade} → Stepping t given c left starts right old left' starts' right' old' s (Err e)
        → Replayed t c (records_of rewriting) 0 w v left' starts' right' old' (Err e)
    unfolding compared
    after-stopped (fails s' e same o) =
        stopped s' DoesNotFit same o (λ claimed. refl)
        (λ claimed. rw u.records (replay-fails t c claimed r (records_of (drop next rewriting)) s.made.steps (plan_in left right s) (before s.made (plan_in left right s) old) e))
    after-stopped (long s' n e h same o) =
        stopped s' TooLong same o (λ claimed. refl)
        (λ claimed. rw u.records (replay-long t c claimed r (records_of (drop next rewriting)) s.made.steps (plan_in left right s) (before s.made (plan_in left right s) old) n e h))

    -- by what a step of a rewriting answers
    module _ (r' : Result State NotMade) (p : Stepping t given c left starts right old left' starts' right' old' s r') where
      pub turn-done : (s' : State) → length old' ≡ length old → r' ≡ Ok s' → Going t c rewriting w v next left' starts' right' old' s'
      turn-done s' as_long e = after-done as_long (subst (Stepping t given c left starts right old left' starts' right' old' s) e p)

      pub turn-stopped : (e : NotMade) → r' ≡ Err e → Replayed t c (records_of rewriting) 0 w v left' starts' right' old' (Err e)
      turn-stopped e q = after-stopped (subst (Stepping t given c left starts right old left' starts' right' old' s) q p)

-- what the step of a record gives is what the law gives in its direction
pub forward_of : (t : Tables) (k p c : ℕ) (left starts right old left' starts' right' old' : List ℕ) (s : State) (r : Result State NotMade)
    → Stepping t (step t k p (plan_in left right s)) c left starts right old left' starts' right' old' s r
    → Stepping t (step_of t (forward (record { law = k; place = p })) (plan_in left right s)) c left starts right old left' starts' right' old' s r
unfolding step_of
forward_of t k p c left starts right old left' starts' right' old' s r h = h

pub backward_of : (t : Tables) (k p c : ℕ) (carried left starts right old left' starts' right' old' : List ℕ) (s : State) (r : Result State NotMade)
    → Stepping t (step_back t k p carried (plan_in left right s)) c left starts right old left' starts' right' old' s r
    → Stepping t (step_of t (backward (record { law = k; place = p }) carried) (plan_in left right s)) c left starts right old left' starts' right' old' s r
unfolding step_of
backward_of t k p c taken left starts right old left' starts' right' old' s r h = h

-- What the unfolding and the checker answer, in 01's numbers, and what is claimed of them, from their outcomes.
use Rattle.std.specs.Prelude.{Result, Ok, Err, Some, None}
use Prim.Native.Nat.{ℕ, ◌*◌}
use mathlib.Core.Path.{◌≡◌, refl, sym, ◌∙◌, ap, subst}
use mathlib.Core.Bool.{Bool, true, false, cond}
use mathlib.Core.List.{List, [], ◌∷◌}
use mathlib.Core.Option.{Option, none, some}
use lib.ListN.{length}
use lib.Dec.{eqb}
use borrow.Author.Tests.{eqb-true}
use Rattle.refusals.specs.declared.Refusal.{Refusal}
use Rattle.refusals.specs.Refusal.{Report}
use Rattle.tables.specs.Tables.{Tables}
use Rattle.areas.specs.Area.{padded}
use Rattle.areas.specs.Reached.{capacity, even?, reached_part}
use Rattle.rewritings.specs.Moves.{bytes_of}
use Rattle.unfolding.specs.declared.Unfolded.{Unfolded}
use Rattle.unfolding.specs.declared.Unfolded.TheVariants.{Finished, Stopped}
use Rattle.rewritings.specs.Runs.{Run, run_of}
use Rattle.unfolding.specs.Unfolding.{unfolded, unfold_refusal, unfold_outcome, UnfoldOutcome}
use Rattle.unfolding.specs.Unfolding as unfolding_of
use Rattle.checking.specs.declared.Checked.{Checked}
use Rattle.checking.specs.declared.Checked.TheVariants.{Accepted, TurnedBack}
use Rattle.checking.specs.Checking.{Replay, replay_of, checked, check_refusal, check_outcome, CheckOutcome}
use Rattle.checking.specs.Checking as checking_of
use Rattle.demands.specs.Reports.{unfold_given, Reports, finished, stopped, own_rewriting}
use Rattle.demands.specs.Claims.{check_given, UnfoldClaims, CheckClaims, StepClaims}
use Rattle.demands.proofs.Running.{run-records-long}
use Rattle.demands.proofs.Reports.{take-padded, reached_is, reports_run}
use Rattle.demands.proofs.Claims.{unfold_claims, check_claims}
use Rattle.demands.proofs.Single.{step-claims}
use Rattle.aberulwy.specs.Rewriting.{unfold_report, unfold_reported, check_report, check_reported, own_report, own_reported}
use Rattle.aberulwy.specs.Rewriting.{reported_run, reported_replay, reported_own, OwnOutcome, BothOutcome, own_outcome, check_own, both_outcome, OwnAccepted}

run_numbers : (r : Run) → unfold_report (unfolded r) ≡ record { number = r.number; place = 0; values = r.steps ∷ length r.plan ∷ [] }
run_numbers r = go (eqb r.number 0) refl
  where
    go : (b : Bool) → eqb r.number 0 ≡ b
        → unfold_report (cond b (Ok (Finished r.steps (length r.plan))) (Ok (Stopped r.number r.steps (length r.plan))))
        ≡ record { number = r.number; place = 0; values = r.steps ∷ length r.plan ∷ [] }
    go true e = ap (λ (k : ℕ). record { number = k; place = 0; values = r.steps ∷ length r.plan ∷ [] }) (sym (eqb-true r.number 0 e))
    go false e = refl

replay_numbers : (r : Replay) → check_report (checked r) ≡ record { number = r.number; place = 0; values = r.steps ∷ length r.plan ∷ [] }
replay_numbers r = go (eqb r.number 0) refl
  where
    go : (b : Bool) → eqb r.number 0 ≡ b
        → check_report (cond b (Ok (Accepted r.steps (length r.plan))) (Ok (TurnedBack r.number r.steps (length r.plan))))
        ≡ record { number = r.number; place = 0; values = r.steps ∷ length r.plan ∷ [] }
    go true e = ap (λ (k : ℕ). record { number = k; place = 0; values = r.steps ∷ length r.plan ∷ [] }) (sym (eqb-true r.number 0 e))
    go false e = refl

-- the outcome of an unfolding carries everything that its contract says
module _ (t : Tables) (plan : List ℕ) (m : ℕ) (list a b : List ℕ) where
  unfold_numbers : unfold_report (unfold_outcome t plan m list a b).answer ≡ unfold_reported t plan m list a b
  unfolding unfold_outcome
  unfold_numbers = go (unfold_refusal t plan (capacity a b))
    where
      go : (o : Option Refusal) → unfold_report (unfolding_of.unless_refused o (run_of t plan m (length list) (capacity a b)) list a b).answer
          ≡ reported_run o (run_of t plan m (length list) (capacity a b))
      go none = run_numbers (run_of t plan m (length list) (capacity a b))
      go (some f) = refl

  pub unfold_contract : (o : UnfoldOutcome) → o ≡ unfold_outcome t plan m list a b
      → (o ≡ unfold_outcome t plan m list a b)
      × (unfold_report o.answer ≡ unfold_reported t plan m list a b)
      × UnfoldClaims (unfold_given t plan m list a b) o
  unfold_contract o e = (
    e,
    ap (λ (x : UnfoldOutcome). unfold_report x.answer) e ∙ unfold_numbers,
    subst (UnfoldClaims (unfold_given t plan m list a b)) (sym e) (unfold_claims t plan m list a b),
  )

-- and so does that of a check
module _ (t : Tables) (start claimed rewriting a b : List ℕ) where
  check_numbers : check_report (check_outcome t start claimed rewriting a b).answer
      ≡ check_reported t start claimed rewriting a b
  unfolding check_outcome
  check_numbers = go (check_refusal t start claimed rewriting (capacity a b))
    where
      go : (o : Option Refusal) → check_report (checking_of.unless_refused o (replay_of t start claimed rewriting (capacity a b)) a b).answer
          ≡ reported_replay o (replay_of t start claimed rewriting (capacity a b))
      go none = replay_numbers (replay_of t start claimed rewriting (capacity a b))
      go (some f) = refl

  pub check_contract : (o : CheckOutcome) → o ≡ check_outcome t start claimed rewriting a b
      → (o ≡ check_outcome t start claimed rewriting a b)
      × (check_report o.answer ≡ check_reported t start claimed rewriting a b)
      × CheckClaims (check_given t start claimed rewriting a b) o
      × StepClaims (check_given t start claimed rewriting a b) o
  check_contract o e = (
    e,
    ap (λ (x : CheckOutcome). check_report x.answer) e ∙ check_numbers,
    subst (CheckClaims (check_given t start claimed rewriting a b)) (sym e) (check_claims t start claimed rewriting a b),
    subst (StepClaims (check_given t start claimed rewriting a b)) (sym e) (step-claims t start claimed rewriting a b),
  )

-- both calls, one after the other: what they leave is both outcomes, and the check of the own rewriting accepts
module _ (t : Tables) (plan : List ℕ) (m : ℕ) (list a b c d : List ℕ) where
  own-answer : (o : UnfoldOutcome) {x : Result Unfolded Refusal} {s z : ℕ} → Reports x s z
      → check_own t plan o x c d ≡ own_outcome (check_outcome t plan (reached_part (even? s) z o.a o.b) (own_rewriting s o.list) c d)
  unfolding check_own
  own-answer o finished = refl
  own-answer o stopped = refl

  records-kept : (r : Run) (n : ℕ) → length (bytes_of r.moves) ≡ 3 * r.steps
      → own_rewriting r.steps (padded (bytes_of r.moves) n) ≡ bytes_of r.moves
  unfolding own_rewriting
  records-kept r n h = rw (← h) (take-padded (bytes_of r.moves) n)

  -- the areas and the list hold what the run reached and recorded, and that is what the check is handed
  own_replayed : (r : Run) → length (bytes_of r.moves) ≡ 3 * r.steps
      → own_report (check_own t plan (unfolding_of.settled r list a b) (unfolded r) c d).answer
      ≡ some (reported_replay (check_refusal t plan r.plan (bytes_of r.moves) (capacity c d)) (replay_of t plan r.plan (bytes_of r.moves) (capacity c d)))
  own_replayed r h =
      rw (own-answer (unfolding_of.settled r list a b) (reports_run r), reached_is (even? r.steps) r.plan r.before (length a) (length b), records-kept r (length list) h)
      (ap (λ (x : Report). some x) (check_numbers t plan r.plan (bytes_of r.moves) c d))

  own_numbers : own_report (check_own t plan (unfold_outcome t plan m list a b) (unfold_outcome t plan m list a b).answer c d).answer
      ≡ own_reported t plan m list a b c d
  unfolding unfold_outcome check_own
  own_numbers = go (unfold_refusal t plan (capacity a b))
    where
      go : (o : Option Refusal)
          → own_report (check_own t plan (unfolding_of.unless_refused o (run_of t plan m (length list) (capacity a b)) list a b)
          (unfolding_of.unless_refused o (run_of t plan m (length list) (capacity a b)) list a b).answer c d).answer
          ≡ reported_own o t plan (run_of t plan m (length list) (capacity a b)) (capacity c d)
      go none = own_replayed (run_of t plan m (length list) (capacity a b)) (run-records-long t plan m (length list) (capacity a b))
      go (some f) = refl

  -- what is left, in 01's numbers, and what is claimed of it
  abbrev Left : UnfoldOutcome → OwnOutcome → Type 0
  Left o w =
      (◌≡◌ {A = BothOutcome} (record { unfolded = o; own = w }) (both_outcome t plan m list a b c d))
      × ((unfold_report o.answer ≡ unfold_reported t plan m list a b) × (own_report w.answer ≡ own_reported t plan m list a b c d))
      × UnfoldClaims (unfold_given t plan m list a b) o
      × OwnAccepted o.answer w.answer a b c d

  both_contract : (o : UnfoldOutcome) (w : OwnOutcome) → o ≡ unfold_outcome t plan m list a b → w ≡ check_own t plan o o.answer c d → Left o w
  unfolding both_outcome
  both_contract o w e h =
      let u = unfold_contract t plan m list a b o e in (
        ap (λ (x : OwnOutcome). record { unfolded = o; own = x }) h
            ∙ ap (λ (x : UnfoldOutcome). record { unfolded = x; own = check_own t plan x x.answer c d }) e,
        (
          u.1,
          ap (λ (x : OwnOutcome). own_report x.answer) h
              ∙ (ap (λ (x : UnfoldOutcome). own_report (check_own t plan x x.answer c d).answer) e ∙ own_numbers),
        ),
        u.2,
        record {
          accepts = λ s z r i j.
              ap (λ (x : OwnOutcome). x.answer) (h ∙ own-answer o r)
              ∙ ap (λ (x : Result Checked Refusal). Some x) (u.2.own_rewriting_accepted s z r c d i j);
        },
      )

  -- the unfolding answered u, which reports so many steps and words, and its own rewriting was checked
  pub both_checked : {x : Result Unfolded Refusal} {u : Unfolded} {s k : ℕ} (l y z : List ℕ) → x ≡ Ok u → Reports (Ok u) s k
      → record { answer = x; list = l; a = y; b = z } ≡ unfold_outcome t plan m list a b
      → (v : CheckOutcome) → v ≡ check_outcome t plan (reached_part (even? s) k y z) (own_rewriting s l) c d
      → Left (record { answer = Ok u; list = l; a = y; b = z }) (own_outcome v)
  both_checked {u = u} l y z q r e v h =
      let o : UnfoldOutcome = record { answer = Ok u; list = l; a = y; b = z } in
      both_contract o (own_outcome v) (rw q at e) (ap own_outcome h ∙ sym (own-answer o r))

  -- it was refused
  pub both_refused : {x : Result Unfolded Refusal} {f : Refusal} (l y z : List ℕ) → x ≡ Err f
      → record { answer = x; list = l; a = y; b = z } ≡ unfold_outcome t plan m list a b
      → Left (record { answer = x; list = l; a = y; b = z }) (record { answer = None; a = c; b = d })
  unfolding check_own
  both_refused {x} l y z q e =
      both_contract (record { answer = x; list = l; a = y; b = z }) (record { answer = None; a = c; b = d }) e (rw q)

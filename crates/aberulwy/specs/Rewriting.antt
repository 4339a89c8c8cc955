-- The answers of the unfolding and of the checker in document 01's numbers. (01, "Unfolding" and "Checking".)
use Prim.Native.Nat.{ℕ}
use Rattle.std.specs.Prelude.{◌≡◌, Result, Ok, Err, Some, None, Option as Maybe}
use mathlib.Core.List.{List, [], ◌∷◌}
use Rattle.std.proofs.Math.Option.{Option, none, some}
use Rattle.std.proofs.Math.ListN.{length}
use Rattle.tables.specs.Tables.{Tables}
use Rattle.areas.specs.Reached.{capacity, even?, reached_part}
use Rattle.rewritings.specs.Moves.{bytes_of}
use Rattle.refusals.specs.declared.Refusal.{Refusal}
use Rattle.refusals.specs.Refusal.{Report, refused_report}
use Rattle.unfolding.specs.declared.Unfolded.{Unfolded}
use Rattle.unfolding.specs.declared.Unfolded.TheVariants.{Finished, Stopped}
use Rattle.rewritings.specs.Runs.{Run, run_of}
use Rattle.unfolding.specs.Unfolding.{unfold_refusal, unfold_outcome, UnfoldOutcome}
use Rattle.checking.specs.declared.Checked.{Checked}
use Rattle.checking.specs.declared.Checked.TheVariants.{Accepted, TurnedBack}
use Rattle.checking.specs.Checking.{Replay, replay_of, check_refusal, check_outcome, CheckOutcome}
use Rattle.demands.specs.Reports.{Reports, own_rewriting}

-- each case of an unfolding's answer: 0, or 34 to 36, with the steps made and the length of the plan reached; or a refusal
abbrev pub unfold_report : Result Unfolded Refusal → Report
unfold_report (Ok (Finished steps size)) = record { number = 0; place = 0; values = steps ∷ size ∷ [] }
unfold_report (Ok (Stopped number steps size)) = record { number = number; place = 0; values = steps ∷ size ∷ [] }
unfold_report (Err r) = refused_report r

-- each case of a check's answer: 0, or 31 to 33, with the steps made and the length of the plan reached; or a refusal
abbrev pub check_report : Result Checked Refusal → Report
check_report (Ok (Accepted steps size)) = record { number = 0; place = 0; values = steps ∷ size ∷ [] }
check_report (Ok (TurnedBack number steps size)) = record { number = number; place = 0; values = steps ∷ size ∷ [] }
check_report (Err r) = refused_report r

-- what is reported of a run, or of a replay, unless something is refused before it
abbrev pub reported_run : Option Refusal → Run → Report
reported_run none r = record { number = r.number; place = 0; values = r.steps ∷ length r.plan ∷ [] }
reported_run (some f) r = refused_report f

abbrev pub reported_replay : Option Refusal → Replay → Report
reported_replay none r = record { number = r.number; place = 0; values = r.steps ∷ length r.plan ∷ [] }
reported_replay (some f) r = refused_report f

-- the same by what is given: an unfolding, and a check
abbrev pub unfold_reported : Tables → List ℕ → ℕ → List ℕ → List ℕ → List ℕ → Report
unfold_reported t plan m list a b =
    reported_run (unfold_refusal t plan (capacity a b)) (run_of t plan m (length list) (capacity a b))

abbrev pub check_reported : Tables → List ℕ → List ℕ → List ℕ → List ℕ → List ℕ → Report
check_reported t start claimed rewriting a b =
    reported_replay (check_refusal t start claimed rewriting (capacity a b)) (replay_of t start claimed rewriting (capacity a b))

-- each case of the check of an unfolding's own rewriting: the check's report, and none where nothing was checked
abbrev pub own_report : Maybe (Result Checked Refusal) → Option Report
own_report (Some x) = some (check_report x)
own_report None = none

-- what is reported of that check, with at most c words to a plan: none where the unfolding is refused; else what is reported of the replay of the
-- records of the run's steps, from the given plan to the plan that the run reached
abbrev pub reported_own : Option Refusal → Tables → List ℕ → Run → ℕ → Option Report
reported_own none t plan r c =
    some (reported_replay (check_refusal t plan r.plan (bytes_of r.moves) c) (replay_of t plan r.plan (bytes_of r.moves) c))
reported_own (some f) t plan r c = none

-- the same by what is given to the unfolding, and the areas c and d of the check
abbrev pub own_reported : Tables → List ℕ → ℕ → List ℕ → List ℕ → List ℕ → List ℕ → List ℕ → Option Report
own_reported t plan m list a b c d =
    reported_own (unfold_refusal t plan (capacity a b)) t plan (run_of t plan m (length list) (capacity a b)) (capacity c d)

-- the check of an unfolding's own rewriting, and everything that both answer and leave
pub record OwnOutcome : Type 0 where
  pub answer : Maybe (Result Checked Refusal)
  pub a : List ℕ
  pub b : List ℕ

pub record BothOutcome : Type 0 where
  pub unfolded : UnfoldOutcome
  pub own : OwnOutcome

abbrev pub own_outcome : CheckOutcome → OwnOutcome
own_outcome o = record { answer = Some o.answer; a = o.a; b = o.b }

-- "The checker is handed it with the same tables, the given plan as start plan, the plan reached as claimed end plan, and areas": what the check
-- comes to after an unfolding with this answer that left o. Nothing is checked where the unfolding was refused.
unfoldable pub check_own : Tables → List ℕ → UnfoldOutcome → Result Unfolded Refusal → List ℕ → List ℕ → OwnOutcome
check_own t plan o (Ok (Finished steps size)) c d =
    own_outcome (check_outcome t plan (reached_part (even? steps) size o.a o.b) (own_rewriting steps o.list) c d)
check_own t plan o (Ok (Stopped number steps size)) c d =
    own_outcome (check_outcome t plan (reached_part (even? steps) size o.a o.b) (own_rewriting steps o.list) c d)
check_own t plan o (Err r) c d = record { answer = None; a = c; b = d }

unfoldable pub both_outcome : Tables → List ℕ → ℕ → List ℕ → List ℕ → List ℕ → List ℕ → List ℕ → BothOutcome
both_outcome t plan m list a b c d =
    record {
      unfolded = unfold_outcome t plan m list a b;
      own = check_own t plan (unfold_outcome t plan m list a b) (unfold_outcome t plan m list a b).answer c d;
    }

-- "given the same tables and areas of the same lengths, the checker accepts the unfolding's own rewriting, whole"
pub record OwnAccepted (unfolded : Result Unfolded Refusal) (own : Maybe (Result Checked Refusal)) (a b c d : List ℕ) : Type 0 where
  pub accepts : (steps size : ℕ) → Reports unfolded steps size → length c ≡ length a → length d ≡ length b → own ≡ Some (Ok (Accepted steps size))

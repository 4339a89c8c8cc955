-- What writing a file comes to, by what judging finds.
use Rattle.std.specs.Prelude.{Result, Ok, Err, ⊤}
use Prim.Native.Nat.{ℕ, ◌≤◌, ◌<◌}
use mathlib.Core.Path.{◌≡◌, refl, sym, ◌∙◌}
use mathlib.Core.List.{List, [], ◌∷◌}
use mathlib.Core.Option.{Option, none, some}
use lib.ListN.{length}
use lib.Dec.{ltb}
use borrow.Author.Tests.{lt-ltb, le-ltb, ltb-false}
use Rattle.refusals.specs.declared.Place.TheVariants.{Nowhere}
use Rattle.refusals.specs.declared.Refusal.{Refusal}
use Rattle.refusals.specs.Refusal.{refuse, refuse_if, judged, reported}
use Rattle.refusals.proofs.Judging.{accepted_none, refused_some, none_of_both, not_met}
use Rattle.plans.specs.Judging.{plan_refusal}
use Rattle.plans.specs.Accepted.{AcceptedPlan}
use Rattle.plans.proofs.Accepted.{accepted-plan}
use Rattle.writing.specs.Writing.{station_file, file_length, write_refusal, WriteOutcome, written_unless, write_outcome, written_report}

module _ (t ws : List ℕ) (n : ℕ) where
  pub write_accepted : write_refusal t ws n ≡ none → (plan_refusal t ws ≡ none) × (file_length (length ws) ≤ n)
  unfolding write_refusal
  write_accepted e =
      let h = (none_of_both (plan_refusal t ws) (refuse_if (ltb n (file_length (length ws))) 74)).0 e in
      (h.0, ltb-false n (file_length (length ws)) (not_met (ltb n (file_length (length ws))) 74 h.1))

  pub accepted_write : plan_refusal t ws ≡ none → file_length (length ws) ≤ n → write_refusal t ws n ≡ none
  unfolding write_refusal
  accepted_write e h = rw (e, le-ltb n (file_length (length ws)) h)

  -- "an area shorter than the file gets 74"
  pub short-refused : plan_refusal t ws ≡ none → n < file_length (length ws) → write_refusal t ws n ≡ refuse 74 Nowhere
  unfolding write_refusal
  short-refused e h = rw (e, lt-ltb n (file_length (length ws)) h)

  -- "Tables and plan are checked by 1 to 14 first"
  pub plan-refused : {r : Refusal} → plan_refusal t ws ≡ some r → write_refusal t ws n ≡ some r
  unfolding write_refusal
  plan-refused e = rw e

-- what an area and a plan that are not refused are
pub record Room (t ws : List ℕ) (n : ℕ) : Type 0 where
  pub none : write_refusal t ws n ≡ none
  pub plan : AcceptedPlan t ws
  pub room : file_length (length ws) ≤ n

pub room-judged : {t ws : List ℕ} {n : ℕ} {j : Result ⊤ Refusal} → j ≡ judged (write_refusal t ws n) → j ≡ Ok tt → Room t ws n
room-judged {t} {ws} {n} e q =
    let i = accepted_none (write_refusal t ws n) (sym e ∙ q) in
    let h = write_accepted t ws n i in
    record { none = i; plan = (accepted-plan t ws).0 h.0; room = h.1 }

pub not_written : (t ws a : List ℕ) {r : Refusal} → write_refusal t ws (length a) ≡ some r
    → ◌≡◌ {A = WriteOutcome} (record { answer = Err r; area = a }) (write_outcome t ws a)
unfolding write_outcome
not_written t ws a e = rw e

pub refused-unwritten : (t ws a : List ℕ) {j : Result ⊤ Refusal} {r : Refusal} {answer : Result ℕ Refusal} → j ≡ judged (write_refusal t ws (length a)) → j ≡ Err r
    → answer ≡ Err r → ◌≡◌ {A = WriteOutcome} (record { answer = answer; area = a }) (write_outcome t ws a)
refused-unwritten t ws a {r = r} e q f = rw f (not_written t ws a (refused_some (write_refusal t ws (length a)) r (sym e ∙ q)))

-- the answer in numbers
pub written_numbers : (t ws a : List ℕ)
    → written_report (write_outcome t ws a).answer ≡ reported (write_refusal t ws (length a)) (file_length (length ws) ∷ [])
unfolding write_outcome
written_numbers t ws a = go (write_refusal t ws (length a))
  where
    go : (o : Option Refusal) → written_report (written_unless o (file_length (length ws)) (station_file t ws) a).answer ≡ reported o (file_length (length ws) ∷ [])
    go none = refl
    go (some r) = refl

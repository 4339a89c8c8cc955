-- What reading a file comes to, by what judging it finds; and what the arrays hold that its blocks were copied into.
use Rattle.std.specs.Prelude.{Result, Ok, Err, ⊤}
use Prim.Native.Nat.{ℕ, ◌+◌, ◌≤◌}
use mathlib.Core.Path.{◌≡◌, refl, sym, ◌∙◌}
use mathlib.Core.Bool.{◌&&◌}
use mathlib.Core.List.{List, [], ◌∷◌, append-nil}
use mathlib.Core.Option.{Option, none, some}
use native.Mathlib.Omega.{arith}
use lib.ListN.{length, take, drop_of_length-le}
use lib.Dec.{leb}
use borrow.Author.Tests.{leb-true}
use Rattle.refusals.specs.declared.Refusal.{Refusal}
use Rattle.refusals.specs.Refusal.{refuse_unless, judged, reported}
use Rattle.refusals.proofs.Judging.{accepted_none, refused_some, none_of_both}
use Rattle.areas.specs.Area.{overwrite, padded}
use Rattle.areas.proofs.Area.{take-overwrite}
use Rattle.plans.specs.Judging.{plan_refusal}
use Rattle.stations.specs.File.{tables_held, plan_held, form_refusal, held_refusal, file_refusal, StationOutcome, unless_refused, station_outcome, station_report}
use Rattle.blocks.proofs.Answers.{met, both}

-- an array that the words fill, and the front of one that they do not
pub filled : (d w : List ℕ) → length w ≡ length d → overwrite d 0 w ≡ w
unfolding overwrite
filled d w h =
    let l : length d ≤ 0 + length w = omega arith in
    rw (drop_of_length-le d l, append-nil w)

pub front : (d w : List ℕ) (k : ℕ) → k ≡ length w → take k (overwrite d 0 w) ≡ w
front d w k e =
    let q : k ≡ 0 + length w = omega arith in
    rw q (take-overwrite d 0 w (omega arith))

module _ (ht hp : List ℕ) (a b : ℕ) where
  -- areas that are not refused are long enough
  pub areas-fit : held_refusal ht hp a b ≡ none → (2305 ≤ a) × (length hp ≤ b)
  unfolding held_refusal
  areas-fit e =
      let h = both (leb 2305 a) (leb (length hp) b)
      (met 55 (leb 2305 a && leb (length hp) b) ((none_of_both (refuse_unless (leb 2305 a && leb (length hp) b) 55) (plan_refusal ht hp)).0 e).0) in
      (leb-true 2305 a h.0, leb-true (length hp) b h.1)

-- nor are they where a judge has accepted
pub areas-accepted : (ht hp t p : List ℕ) {j : Result ⊤ Refusal} → j ≡ judged (held_refusal ht hp (length t) (length p)) → j ≡ Ok tt
    → (2305 ≤ length t) × (length hp ≤ length p)
areas-accepted ht hp t p e q = areas-fit ht hp (length t) (length p) (accepted_none (held_refusal ht hp (length t) (length p)) (sym e ∙ q))

-- the outcome by the answer of a judge
module _ {j : Result ⊤ Refusal} (o : Option Refusal) (e : j ≡ judged o) (ht hp t p : List ℕ) where
  pub untouched : {x : Refusal} {answer : Result ℕ Refusal} → j ≡ Err x → answer ≡ Err x
      → ◌≡◌ {A = StationOutcome} (record { answer = answer; tables = t; plan = p }) (unless_refused o ht hp t p)
  untouched {x} q r = rw (r, refused_some o x (sym e ∙ q))

  pub written : {t' p' : List ℕ} → j ≡ Ok tt → t' ≡ padded ht (length t) → p' ≡ padded hp (length p)
      → ◌≡◌ {A = StationOutcome} (record { answer = Ok (length hp); tables = t'; plan = p' }) (unless_refused o ht hp t p)
  written q a b = rw (accepted_none o (sym e ∙ q), a, b)

-- the form of a file where a judge has accepted it
pub sound : (f : List ℕ) {j : Result ⊤ Refusal} → j ≡ judged (form_refusal f) → j ≡ Ok tt → form_refusal f ≡ none
sound f e q = accepted_none (form_refusal f) (sym e ∙ q)

module _ (f t p : List ℕ) where
  pub form-refused : {r : Refusal} {answer : Result ℕ Refusal} → form_refusal f ≡ some r → answer ≡ Err r
      → ◌≡◌ {A = StationOutcome} (record { answer = answer; tables = t; plan = p }) (station_outcome f t p)
  unfolding file_refusal station_outcome
  form-refused e q = rw (e, q)

  pub form-accepted : {ht hp : List ℕ} → form_refusal f ≡ none → ht ≡ tables_held f → hp ≡ plan_held f
      → unless_refused (held_refusal ht hp (length t) (length p)) ht hp t p ≡ station_outcome f t p
  unfolding file_refusal station_outcome
  form-accepted e a b = rw (a, b, e)

-- the answer in 01's numbers
pub station_reported : (f t p : List ℕ) → station_report (station_outcome f t p).answer ≡ reported (file_refusal f (length t) (length p)) (length (plan_held f) ∷ [])
unfolding station_outcome
station_reported f t p = go (file_refusal f (length t) (length p))
  where
    go : (o : Option Refusal) → station_report (unless_refused o (tables_held f) (plan_held f) t p).answer ≡ reported o (length (plan_held f) ∷ [])
    go none = refl
    go (some r) = refl

-- A judgement of a plan and then of something more: the plan's own refusal first, and else the answer of what follows.
use Prim.Native.Nat.{ℕ, ◌≤◌}
use mathlib.Core.Path.{◌≡◌, refl}
use mathlib.Core.List.{List}
use mathlib.Core.Option.{Option}
use lib.ListN.{length}
use Rattle.std.specs.Prelude.{Ok, Err, ⊤}
use Rattle.areas.specs.Area.{most_words}
use Rattle.refusals.specs.declared.Refusal.{Refusal}
use Rattle.refusals.specs.Refusal.{judged, or_else}
use Rattle.refusals.proofs.Judging.{accepted_none, refused_some}
use Rattle.tables.specs.Tables.{Tables, actions}
use Rattle.plans.specs.Judging.{plan_refusal}
use Rattle.plans.proofs.Accepted.{plan-accepted_iff, few_actions, accepted-length}

pub judged-first : (a b : Option Refusal) {r : Refusal} → judged a ≡ Err r → judged (or_else a b) ≡ Err r
judged-first a b {r} e = rw (refused_some a r e) refl

pub judged-next : (a b : Option Refusal) {u : ⊤} → judged a ≡ Ok u → judged (or_else a b) ≡ judged b
judged-next a b e = rw (accepted_none a e) refl

-- what the test for basic plans asks of an accepted plan
pub judged_few : (t : Tables) (plan : List ℕ) {u : ⊤} → judged (plan_refusal t plan) ≡ Ok u → actions t ≤ 31
judged_few t plan e = few_actions t ((plan-accepted_iff t plan).0 (accepted_none _ e)).0

pub judged-length : (t : Tables) (plan : List ℕ) {u : ⊤} → judged (plan_refusal t plan) ≡ Ok u → length plan ≤ most_words
judged-length t plan e = let k = (plan-accepted_iff t plan).0 (accepted_none _ e) in accepted-length _ (few_actions t k.0) plan k.1

pub ruleset judging = (judged-first, judged-next, judged_few, judged-length)

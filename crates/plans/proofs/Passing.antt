-- A call that judges passes on the refusal of the call before it, and else answers as the call after it.
use mathlib.Core.Path.{◌≡◌, sym, ◌∙◌}
use mathlib.Core.Option.{Option}
use Rattle.std.specs.Prelude.{Result, Ok, Err, ⊤}
use Rattle.refusals.specs.declared.Refusal.{Refusal}
use Rattle.refusals.specs.Refusal.{judged, or_else}
use Rattle.refusals.proofs.Judging.{accepted_none, refused_some}

module _ (a b : Option Refusal) {j answer : Result ⊤ Refusal} (first : j ≡ judged a) where
  -- what is refused first is refused
  pub passed_on : (r : Refusal) → j ≡ Err r → answer ≡ Err r → answer ≡ judged (or_else a b)
  passed_on r e f = rw (f, refused_some a r (sym first ∙ e))

  -- where nothing is, the second call answers
  pub passed : (u : ⊤) → j ≡ Ok u → answer ≡ judged b → answer ≡ judged (or_else a b)
  passed u e f = rw (f, accepted_none a (sym first ∙ e))

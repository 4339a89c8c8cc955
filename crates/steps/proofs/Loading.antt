-- Before a replay: a plan just loaded is ready to work on.
use Prim.Native.Nat.{ℕ, ◌-◌, ◌≤◌}
use native.Mathlib.Omega.{arith}
use mathlib.Core.Path.{◌≡◌, refl, sym, subst}
use mathlib.Core.List.{List, []}
use mathlib.Core.Option.{none}
use lib.ListN.{length, drop}
use Rattle.tables.specs.Tables.{Tables, actions}
use Rattle.tables.specs.Lawful.{Lawful}
use Rattle.tables.proofs.Lawful.{accepted_iff_lawful}
use Rattle.plans.specs.Judging.{plan_refusal}
use Rattle.plans.proofs.Accepted.{plan-accepted_iff}
use Rattle.areas.specs.Storing.{before, Kept}
use Rattle.areas.proofs.Storing.{kept_none}
use Rattle.buffer.specs.declared.State.{State}
use Rattle.buffer.specs.Buffer.{whole, Held}
use Rattle.buffer.specs.Moves.{loaded}
use Rattle.buffer.proofs.Whole.{held-loaded}
use Rattle.steps.specs.Working.{plan_in, Working}
use Rattle.areas.specs.Area.{most_words}

-- a plan just loaded
module _ (start left right : List ℕ) (s : State) (is : s ≡ loaded (length start)) (there : drop (most_words - length start) right ≡ start) where
  pub loaded-plan : plan_in left right s ≡ start
  unfolding whole
  loaded-plan = subst (λ (z : State). plan_in left right z ≡ start) (sym is) there

  pub loaded-before : (old : List ℕ) → before s.made (plan_in left right s) old ≡ []
  unfolding before
  loaded-before old = subst (λ (z : State). before z.made (plan_in left right s) old ≡ []) (sym is) refl

  pub loaded-working : (t : Tables) (starts : List ℕ) → plan_refusal t start ≡ none → length left ≡ most_words → length starts ≡ most_words → length right ≡ most_words → Working t left starts right s
  loaded-working t starts ok a b d =
      record {
        held = subst (λ (z : State). Held (actions t) left starts right z.read z.rest) (sym is) (held-loaded (actions t) left starts right (most_words - length start) a b d (omega arith));
        accepted = rw loaded-plan ((plan-accepted_iff t start).0 ok).1;
      }

  pub loaded-kept : (c : ℕ) (old : List ℕ) → length start ≤ c → Kept c (plan_in left right s) old s.made
  loaded-kept c old short =
      subst (λ (z : State). Kept c (plan_in left right s) old z.made) (sym is) (kept_none c (plan_in left right s) old (rw loaded-plan short))

pub lawful : (t : Tables) (start : List ℕ) → plan_refusal t start ≡ none → Lawful t
lawful t start ok = (accepted_iff_lawful t).0 ((plan-accepted_iff t start).0 ok).0

-- What an answer that judges says of the refusal behind it.
use Prim.Native.Nat.{ℕ}
use native.Mathlib.Omega.{arith}
use mathlib.Core.Path.{◌≡◌, refl, sym, ◌∙◌, ap}
use mathlib.Core.Bool.{Bool, true, false}
use mathlib.Core.List.{[]}
use mathlib.Core.Logic.{◌↔◌}
use mathlib.Core.Option.{Option, none, some}
use Rattle.refusals.specs.declared.Refusal.{Refusal}
use Rattle.std.specs.Prelude.{Result, Ok, Err, ⊤}
use Rattle.refusals.specs.Refusal.{refuse_if, or_else, judged, report, reported}

never {ℓ} : {C : Type ℓ} {r : Refusal} → ◌≡◌ {A = Option Refusal} none (some r) → C
never e = let q : ◌≡◌ {A = ℕ} 0 1 = cc in absurd (omega arith)

pub accepted_none : (o : Option Refusal) → judged o ≡ Ok tt → o ≡ none
accepted_none none e = refl
accepted_none (some r) e = let q : ◌≡◌ {A = ℕ} 0 1 = cc in absurd (omega arith)

pub refused_some : (o : Option Refusal) (r : Refusal) → judged o ≡ Err r → o ≡ some r
refused_some none r e = let q : ◌≡◌ {A = ℕ} 0 1 = cc in absurd (omega arith)
refused_some (some f) r e = cc

-- a call that judges accepts exactly what is refused nothing
pub accepts_iff : (o : Option Refusal) (r : Result ⊤ Refusal) (P : Type 0) → r ≡ judged o → (o ≡ none) ↔ P → (r ≡ Ok tt) ↔ P
accepts_iff o r P e h = (λ q. h.0 (accepted_none o (sym e ∙ q)), λ p. e ∙ ap judged (h.1 p))

-- there is no first refusal of two exactly where there is none of either
pub none_of_both : (a b : Option Refusal) → (or_else a b ≡ none) ↔ ((a ≡ none) × (b ≡ none))
none_of_both none b = (λ e. (refl, e), λ e. e.1)
none_of_both (some r) b = (λ e. never (sym e), λ e. never (sym e.0))

-- a refusal by a test is none only where the test fails
pub not_met : (b : Bool) (k : ℕ) → refuse_if b k ≡ none → b ≡ false
not_met true k e = never (sym e)
not_met false k e = refl

-- a judgement in 01's numbers
pub report-judged : (o : Option Refusal) → report (judged o) ≡ reported o []
report-judged none = refl
report-judged (some r) = refl

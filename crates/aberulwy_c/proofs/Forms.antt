-- What is claimed of bringing a plan to its form holds of the answer that the numbers tell: every refusal is 1 to 74.
use Rattle.std.specs.Prelude.{Result, Ok, Err}
use Prim.Native.Nat.{ℕ}
use native.Mathlib.Omega.{arith}
use mathlib.Core.Path.{◌≡◌, sym, ap}
use mathlib.Core.Bool.{not}
use mathlib.Core.List.{List}
use mathlib.Core.Option.{Option, none, some}
use lib.ListN.{length}
use lib.Dec.{ltb}
use Rattle.refusals.specs.Refusal.{refuse_if}
use Rattle.refusals.specs.declared.Refusal.{Refusal}
use Rattle.tables.specs.Tables.{Tables, actions}
use Rattle.plans.specs.Basic.{basic_words?}
use Rattle.plans.specs.Judging.{plan_refusal}
use Rattle.fixing.specs.Outcome.{basic_refusal, fixed_form, form_refusal, fixed_unless, FormOutcome, form_outcome, fixed_report}
use Rattle.fixing.specs.Claims.{FormClaims}
use Rattle.aberulwy_c.specs.Handing.{Answered}
use Rattle.aberulwy_c.specs.Seen.{FormFixedAs, fixed, refused, FormSeen}
use Rattle.aberulwy_c.proofs.Numbers.{plan_numbers}
use Rattle.aberulwy_c.proofs.Ranges.{Range, widened, Numbered, numbered_or, numbered-if}

-- the numbers of refusals
abbrev Number : ℕ → Type 0
Number = Range 74

module _ (t : Tables) (ws a : List ℕ) where
  form_range : Numbered Number (form_refusal t ws (length a))
  unfolding form_refusal basic_refusal
  form_range =
      numbered_or Number (basic_refusal t ws) _
      (numbered_or Number (plan_refusal t ws) (refuse_if (not (basic_words? (actions t) ws)) 70) (plan_numbers Number (widened 74 (omega arith)) t ws)
      (numbered-if Number (not (basic_words? (actions t) ws)) 70 (omega arith, omega arith)))
      (numbered-if Number (ltb (length a) (length (fixed_form t ws))) 74 (omega arith, omega arith))

  not_fixed_range : (r : Refusal) → (form_outcome t ws a).answer ≡ Err r → Number r.number
  unfolding form_outcome
  not_fixed_range r = go (form_refusal t ws (length a)) form_range
    where
      go : (o : Option Refusal) → Numbered Number o → (fixed_unless o (fixed_form t ws) a).answer ≡ Err r → Number r.number
      go none x e = absurd (cc)
      go (some g) x e = let q : g ≡ r = cc in rw (← q) x

  fixed_as : (x : Result ℕ Refusal) → (form_outcome t ws a).answer ≡ x → {n q v w : ℕ} → Answered (fixed_report x) n q v w → FormFixedAs x n q v
  fixed_as (Ok size) e h = rw (h.number, h.place, h.first) (fixed size)
  fixed_as (Err r) e h = let i = not_fixed_range r e in rw (h.number, h.place, h.first) (refused r i.0 i.1)

  pub form-seen : {x : Result ℕ Refusal} {a' : List ℕ} {n q v w : ℕ} → record { answer = x; area = a' } ≡ form_outcome t ws a
      → FormClaims t ws a (record { answer = x; area = a' }) → Answered (fixed_report x) n q v w → FormSeen t ws a a' n q v
  form-seen {x} e k h = record { answer = x; seen = fixed_as x (sym (ap (λ (o : FormOutcome). o.answer) e)) h; claims = k }

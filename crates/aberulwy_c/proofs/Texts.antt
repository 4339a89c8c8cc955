-- What is claimed of reading a text holds of the answer that the numbers tell: every refusal of it is 1 to 63.
use Rattle.std.specs.Prelude.{Result, Ok, Err}
use Prim.Native.Nat.{ℕ}
use native.Mathlib.Omega.{arith}
use mathlib.Core.Path.{◌≡◌, refl, sym, ap}
use mathlib.Core.Bool.{◌&&◌}
use mathlib.Core.List.{List}
use mathlib.Core.Option.{Option, none, some}
use lib.ListN.{length}
use lib.Dec.{leb}
use Rattle.refusals.specs.declared.Place.TheVariants.{Nowhere}
use Rattle.refusals.specs.declared.Refusal.{Refusal}
use Rattle.refusals.specs.Refusal.{refuse}
use Rattle.areas.specs.Area.{most_words}
use Rattle.tables.specs.Tables.{Tables, actions}
use Rattle.tables.specs.Judging.{table_refusal}
use Rattle.grammar.specs.Reading.{Parse, Plan, Fault, read_text}
use Rattle.grammar.proofs.Places.{read_number}
use Rattle.texts.specs.Text.{found_refusal, plan_of, text_refusal, TextOutcome, unless_refused, text_outcome, text_report}
use Rattle.texts.specs.Claims.{TextClaims}
use Rattle.aberulwy_c.specs.Handing.{Answered}
use Rattle.aberulwy_c.specs.Seen.{TextReadAs, read, refused, TextSeen}
use Rattle.aberulwy_c.proofs.Numbers.{table_numbers}
use Rattle.aberulwy_c.proofs.Ranges.{Range, widened, Numbered, numbered_or, numbered-cond}

-- the numbers of refusals of a text
abbrev Number : ℕ → Type 0
Number = Range 63

range_found : (n area : ℕ) (text : List ℕ) (p : Parse) → read_text n text ≡ p → Numbered Number (found_refusal area p)
range_found n area text (Fault k q) e = let i = read_number n text k q e in (omega (arith, i.0), omega (arith, i.1))
range_found n area text (Plan w) e =
    numbered-cond Number (leb (length w) area && leb (length w) most_words) none (refuse 63 Nowhere) tt (omega arith, omega arith)

module _ (t : Tables) (text area : List ℕ) where
  range : Numbered Number (text_refusal t text (length area))
  unfolding text_refusal
  range = numbered_or Number (table_refusal t) _ (table_numbers Number (widened 63 (omega arith)) t) (range_found (actions t) (length area) text (read_text (actions t) text) refl)

  refused_range : (f : Refusal) → (text_outcome t text area).answer ≡ Err f → Number f.number
  unfolding text_outcome
  refused_range f = go (text_refusal t text (length area)) range
    where
      go : (o : Option Refusal) → Numbered Number o → (unless_refused o (plan_of (read_text (actions t) text)) area).answer ≡ Err f → Number f.number
      go none r e = absurd (cc)
      go (some g) r e = let q : g ≡ f = cc in rw (← q) r

  read_as : (x : Result ℕ Refusal) → (text_outcome t text area).answer ≡ x → {n p v w : ℕ} → Answered (text_report x) n p v w → TextReadAs x n p v
  read_as (Ok size) e h = rw (h.number, h.place, h.first) (read size)
  read_as (Err f) e h = let r = refused_range f e in rw (h.number, h.place, h.first) (refused f r.0 r.1)

  pub text_seen : {x : Result ℕ Refusal} {left : List ℕ} {n p v w : ℕ} → record { answer = x; plan = left } ≡ text_outcome t text area
      → TextClaims t text area (record { answer = x; plan = left }) → Answered (text_report x) n p v w → TextSeen t text area left n p v
  text_seen {x} e k h = record { answer = x; seen = read_as x (sym (ap (λ (o : TextOutcome). o.answer) e)) h; claims = k }

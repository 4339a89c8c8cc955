-- What reading a text answers and leaves, by what was found.
use Rattle.std.specs.Prelude.{Ok}
use Prim.Native.Nat.{ℕ, ◌≤◌, ◌<◌}
use native.Mathlib.Omega.{arith}
use mathlib.Core.Path.{◌≡◌, refl, sym, ap, ◌∙◌}
use mathlib.Core.Bool.{Bool, true, false, cond, ◌&&◌}
use mathlib.Core.List.{List, [], ◌∷◌}
use mathlib.Core.Option.{Option, none, some}
use lib.ListN.{length, take, drop}
use lib.Seq.{take_at}
use lib.Dec.{leb}
use borrow.Author.Tests.{le-leb, lt-leb}
use Rattle.refusals.specs.declared.Place.TheVariants.{Nowhere, Byte}
use Rattle.refusals.specs.declared.Refusal.{Refusal}
use Rattle.refusals.specs.Refusal.{refuse, or_else, reported}
use Rattle.areas.specs.Area.{most_words, padded}
use Rattle.tables.specs.Tables.{Tables, actions}
use Rattle.tables.specs.Judging.{table_refusal}
use Rattle.grammar.specs.Reading.{Parse, Plan, Fault, read_text}
use Rattle.texts.specs.Text.{found_refusal, plan_of, text_refusal, TextOutcome, refused_outcome, read_outcome, unless_refused, text_outcome, text_report, text_reported}
use Rattle.texts.specs.Readers.{ReadWhole}
use Rattle.texts.proofs.Storing.{stored_all}

module _ (t : Tables) (text area : List ℕ) where
  -- the outcome where the tables are accepted, by what was found
  abbrev found_outcome : Parse → TextOutcome
  found_outcome p = unless_refused (found_refusal (length area) p) (plan_of p) area

  pub outcome-tables : (r : Refusal) → table_refusal t ≡ some r → refused_outcome r area ≡ text_outcome t text area
  unfolding text_outcome text_refusal
  outcome-tables r e = sym (ap (λ (o : Option Refusal). unless_refused (or_else o (found_refusal (length area) (read_text (actions t) text))) (plan_of (read_text (actions t) text)) area) e)

  outcome_found : table_refusal t ≡ none → (p : Parse) → read_text (actions t) text ≡ p → found_outcome p ≡ text_outcome t text area
  unfolding text_outcome text_refusal
  outcome_found e p f =
      sym
      (ap (λ (o : Option Refusal). unless_refused (or_else o (found_refusal (length area) (read_text (actions t) text))) (plan_of (read_text (actions t) text)) area) e
      ∙ ap (λ p. found_outcome p) f)

  pub outcome-fault : table_refusal t ≡ none → (k q : ℕ) → read_text (actions t) text ≡ Fault k q
      → ◌≡◌ {A = TextOutcome} (refused_outcome (record { number = k; place = Byte q }) area) (text_outcome t text area)
  outcome-fault e k q f = outcome_found e (Fault k q) f

  pub outcome-read : table_refusal t ≡ none → (w : List ℕ) → read_text (actions t) text ≡ Plan w → length w ≤ length area → length w ≤ most_words
      → ◌≡◌ {A = TextOutcome} (read_outcome w area) (text_outcome t text area)
  outcome-read e w f g h =
      let fits : leb (length w) (length area) && leb (length w) most_words ≡ true = rw (le-leb (length w) (length area) g, le-leb (length w) most_words h) in
      sym (ap (λ (b : Bool). unless_refused (cond b none (refuse 63 Nowhere)) w area) fits) ∙ outcome_found e (Plan w) f

  -- the same where m words, that stand in `held`, were put into the area
  pub outcome-put : table_refusal t ≡ none → (w : List ℕ) → read_text (actions t) text ≡ Plan w → (m : ℕ) → length w ≡ m → m ≤ length area → m ≤ most_words
      → (held area' : List ℕ) → held ≡ w → area' ≡ padded held (length area) → ◌≡◌ {A = TextOutcome} (record { answer = Ok m; plan = area' }) (text_outcome t text area)
  outcome-put e w f m c g h held area' i j = rw (j, i, ← c) (outcome-read e w f (rw c g) (rw c h))

  outcome-long : table_refusal t ≡ none → (w : List ℕ) → read_text (actions t) text ≡ Plan w → leb (length w) (length area) && leb (length w) most_words ≡ false
      → ◌≡◌ {A = TextOutcome} (refused_outcome (record { number = 63; place = Nowhere }) area) (text_outcome t text area)
  outcome-long e w f g = sym (ap (λ (b : Bool). unless_refused (cond b none (refuse 63 Nowhere)) w area) g) ∙ outcome_found e (Plan w) f

  pub outcome-past-area : table_refusal t ≡ none → (w : List ℕ) → read_text (actions t) text ≡ Plan w → length area < length w
      → ◌≡◌ {A = TextOutcome} (refused_outcome (record { number = 63; place = Nowhere }) area) (text_outcome t text area)
  outcome-past-area e w f g = outcome-long e w f (rw (lt-leb (length w) (length area) g))

  pub outcome-past-most : table_refusal t ≡ none → (w : List ℕ) → read_text (actions t) text ≡ Plan w → most_words < length w
      → ◌≡◌ {A = TextOutcome} (refused_outcome (record { number = 63; place = Nowhere }) area) (text_outcome t text area)
  outcome-past-most e w f g = outcome-long e w f (rw (lt-leb (length w) most_words g) (either (leb (length w) (length area))))
    where
      either : (b : Bool) → b && false ≡ false
      either true = refl
      either false = refl

-- how many words there are, and where they stand in the array
pub held_many : {n : ℕ} {text array array' : List ℕ} {m : ℕ} (x : ReadWhole n text array array' m) → length x.out ≡ m
held_many x = omega (arith, x.stored.counted)

pub held-words : {n : ℕ} {text array array' : List ℕ} {m : ℕ} (x : ReadWhole n text array array' m) → m ≤ length array → take m array' ≡ x.out
held-words {array} {array'} {m} x h =
    let w = x.out in
    let c : m ≡ length w = sym (held_many x) in
    let i = stored_all x.stored (omega arith) in
    rw (i.1, c) (take_at w (drop (length w) array) (length w) refl)

-- the answer in numbers
pub text_numbers : (t : Tables) (text area : List ℕ) → text_report (text_outcome t text area).answer ≡ text_reported t text area
unfolding text_outcome
text_numbers t text area = by_refusal (text_refusal t text (length area))
  where
    by_refusal : (r : Option Refusal)
        → text_report (unless_refused r (plan_of (read_text (actions t) text)) area).answer ≡ reported r (length (plan_of (read_text (actions t) text)) ∷ [])
    by_refusal none = refl
    by_refusal (some r) = refl

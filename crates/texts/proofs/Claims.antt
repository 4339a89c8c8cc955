-- The claims about reading a text hold of its outcome.
use Rattle.std.specs.Prelude.{Result, Ok, Err}
use Prim.Native.Nat.{ℕ, ◌-◌, ◌≤◌, ◌<◌}
use native.Mathlib.Omega.{arith}
use mathlib.Core.Path.{◌≡◌, refl, sym, ap, ◌∙◌, subst}
use mathlib.Core.Bool.{Bool, true, false}
use mathlib.Core.List.{List}
use mathlib.Core.Logic.{◌⊎◌, inl, inr}
use mathlib.Core.Option.{Option, none, some}
use lib.ListN.{length, take, replicate}
use lib.Seq.{take_at}
use lib.Dec.{leb}
use borrow.Author.Tests.{leb-true, leb-false}
use Rattle.refusals.specs.declared.Place.TheVariants.{Nowhere, Byte}
use Rattle.refusals.specs.declared.Refusal.{Refusal}
use Rattle.areas.specs.Area.{most_words, padded}
use Rattle.tables.specs.Tables.{Tables, actions}
use Rattle.tables.specs.Judging.{table_refusal}
use Rattle.tables.specs.Lawful.{Lawful}
use Rattle.tables.proofs.Lawful.{accepted_iff_lawful}
use Rattle.plans.specs.Accepted.{AcceptedPlan}
use Rattle.grammar.specs.Fault.{FirstFault}
use Rattle.grammar.specs.Typed.{typed}
use Rattle.grammar.specs.Reading.{Parse, Plan, Fault, read_text}
use Rattle.grammar.proofs.Complete.{one_plan_only}
use Rattle.grammar.proofs.Exact.{read_exactly}
use Rattle.grammar.proofs.Places.{refused_exactly}
use Rattle.grammar.proofs.Shallow.{plan-typed}
use Rattle.texts.specs.Text.{TextOutcome, refused_outcome, read_outcome, text_outcome}
use Rattle.texts.specs.Claims.{IsRead, TooLong, EnoughLevels, Ended, TextClaims}
use Rattle.texts.specs.Claims as claims
use Rattle.texts.proofs.Outcomes.{outcome-tables, outcome-fault, outcome-read, outcome-past-area, outcome-past-most}

-- answers that differ, and answers that are the same
answers : {o o' : TextOutcome} → o ≡ o' → o.answer ≡ o'.answer
answers e = ap (λ (o : TextOutcome). o.answer) e

read-refused : {C : Type 0} {size : ℕ} {r : Refusal} → Ok size ≡ Err r → C
read-refused e = let z : ◌≡◌ {A = ℕ} 0 1 = cc in absurd (omega arith)

same_refusal : {r s : Refusal} → ◌≡◌ {A = Result ℕ Refusal} (Err r) (Err s) → r ≡ s
same_refusal e = cc

byte_nowhere : {C : Type 0} {q : ℕ} → Byte q ≡ Nowhere → C
byte_nowhere e = let z : ◌≡◌ {A = ℕ} 0 1 = cc in absurd (omega arith)

same_byte : {p q : ℕ} → Byte p ≡ Byte q → p ≡ q
same_byte e = cc

same_size : {i j : ℕ} → ◌≡◌ {A = Result ℕ Refusal} (Ok i) (Ok j) → i ≡ j
same_size e = cc

-- an area tells the plan in it, by the plan's length
same_plan : (v w area : List ℕ) → ◌≡◌ {A = TextOutcome} (read_outcome v area) (read_outcome w area) → v ≡ w
unfolding padded
same_plan v w area e =
    let n = same_size (answers e) in
    let p : padded v (length area) ≡ padded w (length area) = ap (λ (o : TextOutcome). o.plan) e in
    sym (take_at v (replicate (length area - length v) 0) (length w) n) ∙ (ap (take (length w)) p ∙ take_at w (replicate (length area - length w) 0) (length w) refl)

module _ (t : Tables) (text area : List ℕ) where
  abbrev o : TextOutcome
  o = text_outcome t text area

  -- each way that the outcome may be
  data Way : Type 0 where
    by_tables : (r : Refusal) → table_refusal t ≡ some r → o ≡ refused_outcome r area → Way
    by_fault : (k p : ℕ) → table_refusal t ≡ none → read_text (actions t) text ≡ Fault k p → o ≡ refused_outcome (record { number = k; place = Byte p }) area → Way
    by_length : (w : List ℕ) → table_refusal t ≡ none → read_text (actions t) text ≡ Plan w → (length area < length w) ⊎ (most_words < length w)
        → o ≡ refused_outcome (record { number = 63; place = Nowhere }) area → Way
    by_reading : (w : List ℕ) → table_refusal t ≡ none → read_text (actions t) text ≡ Plan w → length w ≤ length area → length w ≤ most_words → o ≡ read_outcome w area → Way

  way : Way
  way = judged (table_refusal t) refl
    where
      fitting : table_refusal t ≡ none → (w : List ℕ) → read_text (actions t) text ≡ Plan w → (a b : Bool) → leb (length w) (length area) ≡ a → leb (length w) most_words ≡ b → Way
      fitting e w f true true g h =
          let i = leb-true (length w) (length area) g in
          let j = leb-true (length w) most_words h in
          by_reading w e f i j (sym (outcome-read t text area e w f i j))
      fitting e w f true false g h = let j = leb-false (length w) most_words h in by_length w e f (inr j) (sym (outcome-past-most t text area e w f j))
      fitting e w f false b g h = let i = leb-false (length w) (length area) g in by_length w e f (inl i) (sym (outcome-past-area t text area e w f i))

      parsed : table_refusal t ≡ none → (p : Parse) → read_text (actions t) text ≡ p → Way
      parsed e (Plan w) f = fitting e w f (leb (length w) (length area)) (leb (length w) most_words) refl refl
      parsed e (Fault k q) f = by_fault k q e f (sym (outcome-fault t text area e k q f))

      judged : (r : Option Refusal) → table_refusal t ≡ r → Way
      judged none e = parsed e (read_text (actions t) text) refl
      judged (some r) e = by_tables r e (sym (outcome-tables t text area r e))

  lawful : table_refusal t ≡ none → Lawful t
  lawful e = (accepted_iff_lawful t).0 e

  accepted : Lawful t → table_refusal t ≡ none
  accepted l = (accepted_iff_lawful t).1 l

  none_some : {C : Type 0} {r : Refusal} → table_refusal t ≡ none → table_refusal t ≡ some r → C
  none_some e f = let z : ◌≡◌ {A = ℕ} 0 1 = cc in absurd (omega arith)

  read-way : (w : List ℕ) → o ≡ read_outcome w area → Way → IsRead t text area w
  read-way w e (by_tables r f g) = read-refused (answers (sym e ∙ g))
  read-way w e (by_fault k p f h g) = read-refused (answers (sym e ∙ g))
  read-way w e (by_length v f h l g) = read-refused (answers (sym e ∙ g))
  read-way w e (by_reading v f h i j g) =
      subst (λ w. IsRead t text area w) (same_plan v w area (sym g ∙ e))
      (record { lawful = lawful f; reads = (read_exactly (actions t) text v).0 h; fits = i; short = j })

  taken-read : (w : List ℕ) → IsRead t text area w → o ≡ read_outcome w area
  taken-read w x = sym (outcome-read t text area (accepted x.lawful) w ((read_exactly (actions t) text w).1 x.reads) x.fits x.short)

  fault-way : Lawful t → (k p : ℕ) → o ≡ refused_outcome (record { number = k; place = Byte p }) area → Way → FirstFault (actions t) text k p
  fault-way l k p e (by_tables r f g) = none_some (accepted l) f
  fault-way l k p e (by_fault j q f h g) =
      let r = same_refusal (answers (sym g ∙ e)) in
      let i : j ≡ k = ap (λ (r : Refusal). r.number) r in
      let u : q ≡ p = same_byte (ap (λ (r : Refusal). r.place) r) in
      (refused_exactly (actions t) text k p).0 (h ∙ (ap (λ z. Fault z q) i ∙ ap (λ z. Fault k z) u))
  fault-way l k p e (by_length v f h i g) = byte_nowhere (ap (λ (r : Refusal). r.place) (same_refusal (answers (sym e ∙ g))))
  fault-way l k p e (by_reading v f h i j g) = read-refused (answers (sym g ∙ e))

  long-way : Lawful t → o ≡ refused_outcome (record { number = 63; place = Nowhere }) area → Way → TooLong t text area
  long-way l e (by_tables r f g) = none_some (accepted l) f
  long-way l e (by_fault j q f h g) = byte_nowhere (ap (λ (r : Refusal). r.place) (same_refusal (answers (sym g ∙ e))))
  long-way l e (by_length v f h i g) = record { out = v; reads = (read_exactly (actions t) text v).0 h; long = i }
  long-way l e (by_reading v f h i j g) = read-refused (answers (sym g ∙ e))

  long-back : Lawful t → (x : TooLong t text area) → (length area < length x.out) ⊎ (most_words < length x.out) → o ≡ refused_outcome (record { number = 63; place = Nowhere }) area
  long-back l x (inl h) = sym (outcome-past-area t text area (accepted l) x.out ((read_exactly (actions t) text x.out).1 x.reads) h)
  long-back l x (inr h) = sym (outcome-past-most t text area (accepted l) x.out ((read_exactly (actions t) text x.out).1 x.reads) h)

  ended : Way → Ended t text area o
  ended (by_tables r f g) = subst (λ z. Ended t text area z) (sym g) (claims.by_tables r f)
  ended (by_fault k p f h g) = subst (λ z. Ended t text area z) (sym g) (claims.by_fault k p (lawful f) ((refused_exactly (actions t) text k p).0 h))
  ended (by_length w f h i g) =
      subst (λ z. Ended t text area z) (sym g) (claims.by_length (lawful f) (record { out = w; reads = (read_exactly (actions t) text w).0 h; long = i }))
  ended (by_reading w f h i j g) =
      subst (λ z. Ended t text area z) (sym g)
      (claims.by_reading w (record { lawful = lawful f; reads = (read_exactly (actions t) text w).0 h; fits = i; short = j }))

  typed-taken : (plan : List ℕ) (p : AcceptedPlan t plan) → EnoughLevels p.term → text ≡ typed p.term → length plan ≤ length area → o ≡ read_outcome plan area
  typed-taken plan p (s, made, low) e h =
      let few = p.lawful.well_formed.few_actions in
      let r = plan-typed (actions t) p.term s (omega (arith, few)) p.over made low in
      sym (outcome-read t text area (accepted p.lawful) plan (rw e (r ∙ ap Plan p.spelled)) h p.few_words)

  pub text_claims : TextClaims t text area o
  text_claims =
      record {
        read_exactly = λ w. (λ e. read-way w e way, λ x. taken-read w x);
        one_plan_only = λ u v x y. one_plan_only x y;
        tables_first = λ r e. sym (outcome-tables t text area r e);
        fault_exactly = λ l k p. (λ e. fault-way l k p e way, λ x. sym (outcome-fault t text area (accepted l) k p ((refused_exactly (actions t) text k p).1 x)));
        too_long_exactly = λ l. (λ e. long-way l e way, λ x. long-back l x x.long);
        nothing_else = ended way;
        typed_read = typed-taken;
      }

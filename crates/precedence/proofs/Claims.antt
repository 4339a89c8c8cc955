-- What is claimed of the answer holds of it.
use Rattle.std.specs.Prelude.{Result, Ok, Err, Some, None, Option as Maybe}
use Prim.Native.Nat.{ℕ, ◌≤◌, ◌<◌}
use native.Mathlib.Omega.{arith}
use mathlib.Core.Path.{◌≡◌, refl, sym, ap, ◌∙◌, subst}
use mathlib.Core.Bool.{Bool, true, false, not, ◌||◌, false≢true, and-eq-true_iff}
use mathlib.Core.List.Memᴰ
use mathlib.Core.List.{List, [], ◌∷◌, ◌++◌, append_assoc, append-nil, Memᴰ}
use mathlib.Core.Logic.{◌↔◌, ◌⊎◌, inl, inr}
use mathlib.Core.Option.{Option, none, some, some-injective}
use lib.Dec.{eqb}
use lib.ListN.{length, get_or}
use borrow.Author.Tests.{eqb-true, eq-eqb}
use Rattle.refusals.specs.declared.Place.TheVariants.{Nowhere}
use Rattle.refusals.specs.declared.Refusal.{Refusal}
use Rattle.refusals.specs.Refusal.{refuse}
use Rattle.tables.specs.Tables.{Tables, actions}
use Rattle.plans.specs.Term.{Term, term_of}
use Rattle.plans.specs.Judging.{plan_refusal}
use Rattle.plans.specs.Basic.{basic_words?}
use Rattle.plans.specs.Accepted.{BasicPlan}
use Rattle.plans.proofs.Options.{never}
use Rattle.plans.proofs.Accepted.{accepted-plan, accepted-reads_as, basic_plan}
use Rattle.trees.specs.Meaning.{tree}
use Rattle.paths.specs.Paths.{Whole, Begins}
use Rattle.paths.specs.Appearances.{actions_before}
use Rattle.paths.proofs.Appearances.{path-appears, appears-path, appears_exactly, finishes-before, leads-before}
use Rattle.precedence.specs.Overtaking.{among?, overtakes?, overtaking}
use Rattle.precedence.specs.Outcome.{not_a_pair?, precedence_refusal, found_answer, precedence_answer, precedence_report, precedence_reported}
use Rattle.precedence.specs.Claims.{Among, Precedes, Pair, Answered, NotAnswered, by_plan, not_a_pair, not_basic, Overtaking, PrecedenceClaims}
use Rattle.precedence.proofs.Least.{Found, at_place, nowhere, one_found}
use Rattle.precedence.proofs.Sweeping.{overtaking_found}
use Rattle.precedence.proofs.Outcomes.{pair-said, said-pair, no_pair-said, said_no_pair, refusal_plan, refusal_pair, refusal_not_basic, refusal_none, none_said, answer-refused, answer_found, precedence_numbers}

-- the answers are told apart
abbrev Answer : Type 0
Answer = Result (Maybe ℕ) Refusal

yes_no {ℓ} : {C : Type ℓ} {p : ℕ} → ◌≡◌ {A = Answer} (Ok None) (Ok (Some p)) → C
yes_no e = let q : ◌≡◌ {A = ℕ} 0 1 = cc in absurd (omega arith)

yes_refused {ℓ} : {C : Type ℓ} {r : Refusal} → ◌≡◌ {A = Answer} (Ok None) (Err r) → C
yes_refused e = let q : ◌≡◌ {A = ℕ} 0 1 = cc in absurd (omega arith)

no_refused {ℓ} : {C : Type ℓ} {p : ℕ} {r : Refusal} → ◌≡◌ {A = Answer} (Ok (Some p)) (Err r) → C
no_refused e = let q : ◌≡◌ {A = ℕ} 0 1 = cc in absurd (omega arith)

same_place : {p q : ℕ} → ◌≡◌ {A = Answer} (Ok (Some p)) (Ok (Some q)) → p ≡ q
same_place e = cc

same_refusal : {r f : Refusal} → ◌≡◌ {A = Answer} (Err r) (Err f) → r ≡ f
same_refusal e = cc

-- an action is one of a list, by test and as a relation
among_true : (a : ℕ) (ms : List ℕ) → among? a ms ≡ true → Among a ms
unfolding among?
among_true a [] e = absurd (false≢true e)
among_true a (m ∷ ms) e = go (eqb m a) refl (among? a ms) refl e (among_true a ms)
  where
    go : (b : Bool) → eqb m a ≡ b → (c : Bool) → among? a ms ≡ c → b || c ≡ true → (among? a ms ≡ true → Among a ms) → Among a (m ∷ ms)
    go true d c f e g = Memᴰ.head (sym (eqb-true m a d))
    go false d true f e g = Memᴰ.tail (g f)
    go false d false f e g = absurd (false≢true e)

true_among : (a : ℕ) (ms : List ℕ) → Among a ms → among? a ms ≡ true
unfolding among?
true_among a [] h = elim h [ ]
true_among a (m ∷ ms) h = go (Memᴰ.cases_cons h) (true_among a ms)
  where
    later : (b : Bool) → b || true ≡ true
    later true = refl
    later false = refl

    go : (a ≡ m) ⊎ Memᴰ a ms → (Among a ms → among? a ms ≡ true) → eqb m a || among? a ms ≡ true
    go (inl q) f = rw (eq-eqb m a (sym q)) refl
    go (inr h) f = rw (f h) (later (eqb m a))

-- a place at which the second action stands without the first before it
module _ (plan : List ℕ) (u : Term) (first second p : ℕ) where
  overtakes_said : overtakes? plan u first second p ≡ true → (get_or plan p 0 ≡ second) × (Among first (actions_before 0 u p) → ⊥)
  unfolding overtakes?
  overtakes_said e =
      let c = (and-eq-true_iff (eqb (get_or plan p 0) second) (not (among? first (actions_before 0 u p)))).0 e in
      (eqb-true (get_or plan p 0) second c.0, λ h. not_both (among? first (actions_before 0 u p)) c.1 (true_among first (actions_before 0 u p) h))
    where
      not_both : (b : Bool) → not b ≡ true → b ≡ true → ⊥
      not_both true d e = false≢true d
      not_both false d e = false≢true e

  said_overtakes : get_or plan p 0 ≡ second → (Among first (actions_before 0 u p) → ⊥) → overtakes? plan u first second p ≡ true
  unfolding overtakes?
  said_overtakes e f = rw (eq-eqb (get_or plan p 0) second e) (go (among? first (actions_before 0 u p)) refl)
    where
      go : (b : Bool) → among? first (actions_before 0 u p) ≡ b → not b ≡ true
      go true d = absurd (f (among_true first (actions_before 0 u p) d))
      go false d = refl

  not_overtakes_said : overtakes? plan u first second p ≡ false → get_or plan p 0 ≡ second → Among first (actions_before 0 u p)
  unfolding overtakes?
  not_overtakes_said e d = go (among? first (actions_before 0 u p)) refl (rw (eq-eqb (get_or plan p 0) second d) at e)
    where
      go : (b : Bool) → among? first (actions_before 0 u p) ≡ b → not b ≡ false → Among first (actions_before 0 u p)
      go true c e = among_true first (actions_before 0 u p) c
      go false c e = absurd (false≢true (sym e))

-- beginnings of paths, and whole paths
whole-begins : (P : List ℕ → Type 0) (first second : ℕ) → Precedes (λ ms. (ks : List ℕ) × P (ms ++ ks)) first second ↔ Precedes P first second
whole-begins P first second = (to, from)
  where
    to : Precedes (λ ms. (ks : List ℕ) × P (ms ++ ks)) first second → Precedes P first second
    to f ms ks l = f ms ks ([], rw (append-nil (ms ++ (second ∷ ks))) l)

    from : Precedes P first second → Precedes (λ ms. (ks : List ℕ) × P (ms ++ ks)) first second
    from f ms ks (ls, l) = f ms (ks ++ ls) (rw (append_assoc ms (second ∷ ks) ls) at l)

few_of : {t : Tables} {plan : List ℕ} → BasicPlan t plan → actions t ≤ 31
few_of b = b.plan.lawful.well_formed.few_actions

-- what was found in a basic plan, whatever its term was got from
module _ (t : Tables) (plan : List ℕ) (first second : ℕ) (pair : Pair t first second) (b : BasicPlan t plan) where
  abbrev u : Term
  u = b.plan.term

  few : actions t ≤ 31
  few = few_of b

  reads : term_of (actions t) plan ≡ some u
  reads = accepted-reads_as t plan b.plan

  found : Found (overtakes? plan u first second) 0 (length plan) (overtaking (actions t) plan first second)
  found = overtaking_found (actions t) few plan first second pair.second_inside.1 u b.basic reads b.plan.few_words

  none_precedes : overtaking (actions t) plan first second ≡ none → Precedes (Whole (tree t u)) first second
  none_precedes d ms ks l = by (path-appears t (actions t) few plan u b.basic reads ms ks second l) (subst (Found (overtakes? plan u first second) 0 (length plan)) d found)
    where
      by : (p : ℕ) × (p < length plan) × (get_or plan p 0 ≡ second) × (actions_before 0 u p ≡ ms) → Found (overtakes? plan u first second) 0 (length plan) none → Among first ms
      by (p, h, w, q) (nowhere m) = rw (← q) (not_overtakes_said plan u first second p (m p (omega arith) (omega arith)) w)

  -- an appearance without the first before it is on a path
  shown-path : (p : ℕ) → p < length plan → get_or plan p 0 ≡ second → (ks : List ℕ) × Whole (tree t u) (actions_before 0 u p ++ (second ∷ ks))
  shown-path p h w = appears-path t (actions t) few plan u b.basic reads p second pair.second_inside.0 (omega (arith, few, pair.second_inside.1)) h w

  precedes_none : Precedes (Whole (tree t u)) first second → overtaking (actions t) plan first second ≡ none
  precedes_none f = by (overtaking (actions t) plan first second) found
    where
      by : (o : Option ℕ) → Found (overtakes? plan u first second) 0 (length plan) o → o ≡ none
      by o (at_place p l h e m) = let k = overtakes_said plan u first second p e in let r = shown-path p (omega arith) k.0 in absurd (k.1 (f (actions_before 0 u p) r.0 r.1))
      by o (nowhere m) = refl

  some_overtaking : (p : ℕ) → overtaking (actions t) plan first second ≡ some p → Overtaking plan u first second p
  some_overtaking p d = by (subst (Found (overtakes? plan u first second) 0 (length plan)) d found)
    where
      by : Found (overtakes? plan u first second) 0 (length plan) (some p) → Overtaking plan u first second p
      by (at_place q l h e m) =
          let k = overtakes_said plan u first second p e in
          record { inside = omega arith; appears = k.0; none_before = k.1; least = λ q i w. not_overtakes_said plan u first second q (m q (omega arith) i) w }

  overtaking_some : (p : ℕ) → Overtaking plan u first second p → overtaking (actions t) plan first second ≡ some p
  overtaking_some p o =
      one_found (overtakes? plan u first second) found
      (at_place p (omega arith) (omega (arith, o.inside)) (said_overtakes plan u first second p o.appears o.none_before) (λ q i h. fails q h (overtakes? plan u first second q) refl))
    where
      fails : (q : ℕ) → q < p → (c : Bool) → overtakes? plan u first second q ≡ c → overtakes? plan u first second q ≡ false
      fails q h true e = let k = overtakes_said plan u first second q e in absurd (k.1 (o.least q h k.0))
      fails q h false e = e

-- the answer, by the refusal and by what was found
module _ (t : Tables) (plan : List ℕ) (first second : ℕ) where
  answered-said : precedence_refusal t plan first second ≡ none → Answered t plan first second
  answered-said e = let k = none_said t plan first second e in record { pair = pair-said t first second k.1; basic = (basic_plan t plan).0 (k.0, k.2) }

  said-answered : Answered t plan first second → precedence_refusal t plan first second ≡ none
  said-answered a = let k = (basic_plan t plan).1 a.basic in refusal_none t plan first second k.0 (said-pair t first second a.pair) k.1

  not_answered-said : (r : Refusal) → precedence_refusal t plan first second ≡ some r → NotAnswered t plan first second r
  not_answered-said r e = go (plan_refusal t plan) refl
    where
      with_number : (k : ℕ) → precedence_refusal t plan first second ≡ refuse k Nowhere → NotAnswered t plan first second (record { number = k; place = Nowhere }) → NotAnswered t plan first second r
      with_number k d x = subst (NotAnswered t plan first second) (some-injective _ _ (sym d ∙ e)) x

      by_basic : plan_refusal t plan ≡ none → not_a_pair? (actions t) first second ≡ false → (b : Bool) → basic_words? (actions t) plan ≡ b → NotAnswered t plan first second r
      by_basic d p true b = never (sym (refusal_none t plan first second d p b) ∙ e)
      by_basic d p false b =
          with_number 70 (refusal_not_basic t plan first second d p b)
          (not_basic ((accepted-plan t plan).0 d) (pair-said t first second p) (λ k. false≢true (sym b ∙ ((basic_plan t plan).1 k).1)))

      by_pair : plan_refusal t plan ≡ none → (p : Bool) → not_a_pair? (actions t) first second ≡ p → NotAnswered t plan first second r
      by_pair d true p = with_number 73 (refusal_pair t plan first second d p) (not_a_pair ((accepted-plan t plan).0 d) (no_pair-said t first second p))
      by_pair d false p = by_basic d p (basic_words? (actions t) plan) refl

      go : (o : Option Refusal) → plan_refusal t plan ≡ o → NotAnswered t plan first second r
      go none d = by_pair d (not_a_pair? (actions t) first second) refl
      go (some f) d = by_plan r (d ∙ (sym (refusal_plan t plan first second f d) ∙ e))

  said_not_answered : (r : Refusal) → NotAnswered t plan first second r → precedence_refusal t plan first second ≡ some r
  said_not_answered r (by_plan f e) = refusal_plan t plan first second f e
  said_not_answered r (not_a_pair a f) = refusal_pair t plan first second ((accepted-plan t plan).1 a) (said_no_pair t first second f)
  said_not_answered r (not_basic a p f) =
      let e = (accepted-plan t plan).1 a in
      refusal_not_basic t plan first second e (said-pair t first second p) (never_so (basic_words? (actions t) plan) (λ b. f ((basic_plan t plan).0 (e, b))))
    where
      never_so : (b : Bool) → (b ≡ true → ⊥) → b ≡ false
      never_so true f = absurd (f refl)
      never_so false f = refl

  data Came : Result (Maybe ℕ) Refusal → Type 0 where
    found_none : precedence_refusal t plan first second ≡ none → overtaking (actions t) plan first second ≡ none → Came (Ok None)
    found_some : (p : ℕ) → precedence_refusal t plan first second ≡ none → overtaking (actions t) plan first second ≡ some p → Came (Ok (Some p))
    refused : (r : Refusal) → precedence_refusal t plan first second ≡ some r → Came (Err r)

  came : Came (precedence_answer t plan first second)
  came = go (precedence_refusal t plan first second) refl (overtaking (actions t) plan first second) refl
    where
      go : (o : Option Refusal) → precedence_refusal t plan first second ≡ o → (p : Option ℕ) → overtaking (actions t) plan first second ≡ p → Came (precedence_answer t plan first second)
      go (some r) e p d = subst Came (sym (answer-refused t plan first second r e)) (refused r e)
      go none e none d = subst Came (sym (answer_found t plan first second e ∙ ap found_answer d)) (found_none e d)
      go none e (some p) d = subst Came (sym (answer_found t plan first second e ∙ ap found_answer d)) (found_some p e d)

  -- each answer is given exactly where it was come to
  yes_iff : {r : Result (Maybe ℕ) Refusal} → Came r → (r ≡ Ok None) ↔ ((precedence_refusal t plan first second ≡ none) × (overtaking (actions t) plan first second ≡ none))
  yes_iff (found_none e d) = (λ q. (e, d), λ k. refl)
  yes_iff (found_some p e d) = (λ q. yes_no (sym q), λ k. never (sym k.1 ∙ d))
  yes_iff (refused f e) = (λ q. yes_refused (sym q), λ k. never (sym k.0 ∙ e))

  no_iff : {r : Result (Maybe ℕ) Refusal} → Came r → (p : ℕ) → (r ≡ Ok (Some p)) ↔ ((precedence_refusal t plan first second ≡ none) × (overtaking (actions t) plan first second ≡ some p))
  no_iff (found_none e d) p = (λ q. yes_no q, λ k. never (sym d ∙ k.1))
  no_iff (found_some o e d) p = (λ q. (e, d ∙ ap some (same_place q)), λ k. ap (λ (q : ℕ). Ok (Some q)) (some-injective _ _ (sym d ∙ k.1)))
  no_iff (refused f e) p = (λ q. no_refused (sym q), λ k. never (sym k.0 ∙ e))

  refused_iff : {r : Result (Maybe ℕ) Refusal} → Came r → (f : Refusal) → (r ≡ Err f) ↔ (precedence_refusal t plan first second ≡ some f)
  refused_iff (found_none e d) f = (λ q. yes_refused q, λ k. never (sym e ∙ k))
  refused_iff (found_some p e d) f = (λ q. no_refused q, λ k. never (sym e ∙ k))
  refused_iff (refused g e) f = (λ q. e ∙ ap some (same_refusal q), λ k. ap Err (some-injective _ _ (sym e ∙ k)))

  pub precedence_claims : {r : Result (Maybe ℕ) Refusal} → r ≡ precedence_answer t plan first second → PrecedenceClaims t plan first second r
  precedence_claims {r} e =
      record {
        yes_exactly = (to_whole, from-whole);
        beginnings = (
          λ q. let k = to_whole q in (k.0, (whole-begins (Whole (tree t k.0.basic.plan.term)) first second).1 k.1),
          λ k. from-whole (k.0, (whole-begins (Whole (tree t k.0.basic.plan.term)) first second).0 k.1),
        );
        no_exactly = λ p. (to-place p, λ k. (no_iff c p).1 (said-answered k.0, overtaking_some t plan first second k.0.pair k.0.basic p k.1));
        shown = shown;
        refused_exactly = λ f. (λ q. not_answered-said f ((refused_iff c f).0 q), λ k. (refused_iff c f).1 (said_not_answered f k));
        finishes_at = λ b ms p i. finishes-before (actions t) (few_of b) plan b.plan.term (accepted-reads_as t plan b.plan) i;
        leads_from = λ b ms p y i. leads-before (actions t) (few_of b) plan b.plan.term (accepted-reads_as t plan b.plan) i;
        appearances = appearances;
      }
    where
      c : Came r
      c = subst Came (sym e) came

      to_whole : r ≡ Ok None → (a : Answered t plan first second) × Precedes (Whole (tree t a.basic.plan.term)) first second
      to_whole q = let k = (yes_iff c).0 q in let a = answered-said k.0 in (a, none_precedes t plan first second a.pair a.basic k.1)

      from-whole : (a : Answered t plan first second) × Precedes (Whole (tree t a.basic.plan.term)) first second → r ≡ Ok None
      from-whole (a, f) = (yes_iff c).1 (said-answered a, precedes_none t plan first second a.pair a.basic f)

      to-place : (p : ℕ) → r ≡ Ok (Some p) → (a : Answered t plan first second) × Overtaking plan a.basic.plan.term first second p
      to-place p q = let k = (no_iff c p).0 q in let a = answered-said k.0 in (a, some_overtaking t plan first second a.pair a.basic p k.1)

      shown : (p : ℕ) → r ≡ Ok (Some p) → (b : BasicPlan t plan) → Begins (tree t b.plan.term) (actions_before 0 b.plan.term p ++ (second ∷ []))
      shown p q b =
          let k = (no_iff c p).0 q in
          let pair = (answered-said k.0).pair in
          let o = some_overtaking t plan first second pair b p k.1 in
          let r = shown-path t plan first second pair b p o.inside o.appears in
          (r.0, rw (append_assoc (actions_before 0 b.plan.term p) (second ∷ []) r.0) r.1)

      appearances : (b : BasicPlan t plan) (ms : List ℕ) (a : ℕ) → 1 ≤ a → a ≤ actions t
          → Begins (tree t b.plan.term) (ms ++ (a ∷ [])) ↔ ((p : ℕ) × (p < length plan) × (get_or plan p 0 ≡ a) × (actions_before 0 b.plan.term p ≡ ms))
      appearances b ms a live low =
          appears_exactly t (actions t) (few_of b) plan b.plan.term b.basic (accepted-reads_as t plan b.plan) ms a live (omega arith)

  -- all that the call promises
  pub precedence_said : {r : Result (Maybe ℕ) Refusal} → r ≡ precedence_answer t plan first second
      → (r ≡ precedence_answer t plan first second) × ((precedence_report r ≡ precedence_reported t plan first second) × PrecedenceClaims t plan first second r)
  precedence_said e = (e, (ap precedence_report e ∙ precedence_numbers t plan first second, precedence_claims e))

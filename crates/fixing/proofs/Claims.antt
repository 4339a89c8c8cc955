-- What is claimed of the fixed form holds of the outcome.
use Rattle.std.specs.Prelude.{Result, Ok, Err}
use Prim.Native.Nat.{ℕ, ◌-◌, ◌≤◌}
use native.Mathlib.Omega.{arith}
use mathlib.Core.Path.{◌≡◌, refl, sym, ap, ◌∙◌, subst}
use mathlib.Core.Bool.{Bool, true, false}
use mathlib.Core.List.{List}
use mathlib.Core.Logic.{◌↔◌}
use mathlib.Core.Option.{Option, none, some, some-injective}
use lib.ListN.{length, get_or, take, replicate, get_or-eq_default}
use lib.Seq.{take_at}
use lib.Dec.{ltb}
use borrow.Author.Tests.{ltb-true, ltb-false}
use Rattle.refusals.specs.declared.Place.TheVariants.{Nowhere}
use Rattle.refusals.specs.declared.Refusal.{Refusal}
use Rattle.refusals.specs.Refusal.{refuse}
use Rattle.areas.specs.Area.{padded}
use Rattle.areas.proofs.Area.{padded_at}
use Rattle.tables.specs.Tables.{Tables, actions}
use Rattle.plans.specs.Term.{words}
use Rattle.plans.specs.Basic.{basic_words?}
use Rattle.plans.specs.Judging.{plan_refusal}
use Rattle.plans.specs.Accepted.{BasicPlan}
use Rattle.plans.proofs.Options.{never}
use Rattle.plans.proofs.Accepted.{accepted-plan, basic_plan}
use Rattle.trees.specs.Tree.{Alike}
use Rattle.trees.specs.Meaning.{tree}
use Rattle.forms.specs.InForm.{InForm}
use Rattle.forms.proofs.Kept.{form-tree}
use Rattle.forms.proofs.Same.{equal_forms_iff_alike}
use Rattle.forms.proofs.InForm.{form-in_form, in_form_same}
use Rattle.forms.proofs.Claims.{within_31, equal_forms_iff_alike_trees}
use Rattle.fixing.specs.Outcome.{fixed_form, form_refusal, FormOutcome, fixed_unless, form_outcome, fixed_report, form_reported}
use Rattle.fixing.specs.Claims.{AlikeTrees, NotFixed, by_plan, not_basic, short_area, FormClaims}
use Rattle.fixing.proofs.Outcomes.{basic-refused-plan, basic-refused, basic-accepted, refused-not_basic, form-refused-basic, form-refused-short, form_none, form-accepted, not_fixed, is_fixed, form_numbers, few_of, reads_as, form-spelled, form-within, form_is_basic, form-fixed, form-term}

-- the answers are told apart
never_fixed : {P : Type 0} {r : Refusal} {k : ℕ} → ◌≡◌ {A = Result ℕ Refusal} (Err r) (Ok k) → P
never_fixed e = let q : ◌≡◌ {A = ℕ} 0 1 = cc in absurd (omega arith)

same_size : {j k : ℕ} → ◌≡◌ {A = Result ℕ Refusal} (Ok j) (Ok k) → j ≡ k
same_size e = cc

same_refusal : {q r : Refusal} → ◌≡◌ {A = Result ℕ Refusal} (Err q) (Err r) → q ≡ r
same_refusal e = cc

-- why a form is not written
module _ (t ws : List ℕ) (n : ℕ) where
  said_not_fixed : {r : Refusal} → NotFixed t ws n r → form_refusal t ws n ≡ some r
  said_not_fixed (by_plan r e) = form-refused-basic t ws n (basic-refused-plan t ws e)
  said_not_fixed (not_basic p f) = form-refused-basic t ws n (refused-not_basic t ws p f)
  said_not_fixed (short_area b h) = form-refused-short t ws n ((basic-accepted t ws).1 b) h

  not_fixed-said : (r : Refusal) → form_refusal t ws n ≡ some r → NotFixed t ws n r
  not_fixed-said r e = by_words (plan_refusal t ws) refl
    where
      with_number : (k : ℕ) → form_refusal t ws n ≡ refuse k Nowhere → NotFixed t ws n (record { number = k; place = Nowhere }) → NotFixed t ws n r
      with_number k d x = subst (NotFixed t ws n) (some-injective _ _ (sym d ∙ e)) x

      by_area : (b : BasicPlan t ws) (c : Bool) → ltb n (length (fixed_form t ws)) ≡ c → NotFixed t ws n r
      by_area b true d =
          let h = ltb-true n (length (fixed_form t ws)) d in
          with_number 74 (form-refused-short t ws n ((basic-accepted t ws).1 b) h) (short_area b h)
      by_area b false d = never (sym (form_none t ws n ((basic-accepted t ws).1 b) (ltb-false n (length (fixed_form t ws)) d)) ∙ e)

      by_basic : plan_refusal t ws ≡ none → (c : Bool) → basic_words? (actions t) ws ≡ c → NotFixed t ws n r
      by_basic p true d = by_area ((basic_plan t ws).0 (p, d)) (ltb n (length (fixed_form t ws))) refl
      by_basic p false d =
          let no : BasicPlan t ws → ⊥ = λ b. never (sym ((basic-accepted t ws).1 b) ∙ basic-refused t ws p d) in
          with_number 70 (form-refused-basic t ws n (basic-refused t ws p d)) (not_basic ((accepted-plan t ws).0 p) no)

      by_words : (o : Option Refusal) → plan_refusal t ws ≡ o → NotFixed t ws n r
      by_words (some x) p = by_plan r (p ∙ (sym (form-refused-basic t ws n (basic-refused-plan t ws p)) ∙ e))
      by_words none p = by_basic p (basic_words? (actions t) ws) refl

-- what is behind the answer
module _ (t ws a : List ℕ) where
  abbrev outcome : FormOutcome
  outcome = form_outcome t ws a

  answer-refused : (r : Refusal) → outcome.answer ≡ Err r → form_refusal t ws (length a) ≡ some r
  unfolding form_outcome
  answer-refused r e = go (form_refusal t ws (length a)) e
    where
      go : (o : Option Refusal) → (fixed_unless o (fixed_form t ws) a).answer ≡ Err r → o ≡ some r
      go none q = never_fixed (sym q)
      go (some x) q = ap some (same_refusal q)

  refused-answer : (r : Refusal) → form_refusal t ws (length a) ≡ some r → outcome.answer ≡ Err r
  refused-answer r e = sym (ap (λ (o : FormOutcome). o.answer) (not_fixed t ws a e))

  refused-area : (r : Refusal) → outcome.answer ≡ Err r → outcome.area ≡ a
  refused-area r e = sym (ap (λ (o : FormOutcome). o.area) (not_fixed t ws a (answer-refused r e)))

  fixed_answer : form_refusal t ws (length a) ≡ none → outcome.answer ≡ Ok (length (fixed_form t ws))
  fixed_answer e = sym (ap (λ (o : FormOutcome). o.answer) (is_fixed t ws a e))

  module _ (n : ℕ) (e : outcome.answer ≡ Ok n) where
    answer-fixed : form_refusal t ws (length a) ≡ none
    unfolding form_outcome
    answer-fixed = go (form_refusal t ws (length a)) e
      where
        go : (o : Option Refusal) → (fixed_unless o (fixed_form t ws) a).answer ≡ Ok n → o ≡ none
        go none q = refl
        go (some r) q = never_fixed q

    -- the plan is basic, and the area holds the form
    held : BasicPlan t ws × (length (fixed_form t ws) ≤ length a)
    held = (form-accepted t ws (length a)).0 answer-fixed

    size-fixed : n ≡ length (fixed_form t ws)
    size-fixed = same_size (sym e ∙ fixed_answer answer-fixed)

    area-fixed : outcome.area ≡ padded (fixed_form t ws) (length a)
    area-fixed = sym (ap (λ (o : FormOutcome). o.area) (is_fixed t ws a answer-fixed))

    -- what stands in the area
    pub form-stands : take n outcome.area ≡ fixed_form t ws
    unfolding padded
    form-stands = rw area-fixed (take_at (fixed_form t ws) (replicate (length a - length (fixed_form t ws)) 0) n (sym size-fixed))

    zeros_stand : (j : ℕ) → n ≤ j → get_or outcome.area j 0 ≡ 0
    zeros_stand j h = rw area-fixed (padded_at (fixed_form t ws) (length a) j ∙ get_or-eq_default (fixed_form t ws) 0 {n = j} (omega (arith, size-fixed)))

-- the form as a plan
module _ {t : Tables} {ws : List ℕ} (b : BasicPlan t ws) where
  term-in_form : (c : BasicPlan t (fixed_form t ws)) → InForm c.plan.term
  term-in_form c = subst InForm (sym (form-term b c)) (form-in_form b.basic)

  term-alike : (c : BasicPlan t (fixed_form t ws)) → AlikeTrees c b
  term-alike c = subst (λ u. Alike (tree t u) (tree t b.plan.term)) (sym (form-term b c)) (form-tree t (actions t) (few_of b) b.plan.term b.plan.over)

  -- a plan in the fixed form whose tree is alike is the form
  only-form : (x : List ℕ) (c : BasicPlan t x) → InForm c.plan.term → AlikeTrees c b → x ≡ fixed_form t ws
  only-form x c i p =
      let u = b.plan.term in
      let v = c.plan.term in
      let o = within_31 (actions t) ws u (reads_as b) (few_of b) in
      let q = within_31 (actions t) x v (reads_as c) (few_of c) in
      let e = (equal_forms_iff_alike t t v u c.basic b.basic q o).1 p in
      sym c.plan.spelled ∙ (ap words (sym (in_form_same i) ∙ e) ∙ sym (form-spelled b))

-- two plans, each with its own tables
forms_same : {t t' : Tables} {v w : List ℕ} (b : BasicPlan t v) (c : BasicPlan t' w) → (fixed_form t v ≡ fixed_form t' w) ↔ AlikeTrees b c
forms_same {t} {t'} {v} {w} b c =
    equal_forms_iff_alike_trees t t' (few_of b) (few_of c) v w b.plan.term c.plan.term (reads_as b) (reads_as c) b.basic c.basic

pub form-claims : (t ws a : List ℕ) → FormClaims t ws a (form_outcome t ws a)
form-claims t ws a = record {
  fixed_exactly = (
    λ e. held t ws a e.0 e.1,
    λ h. (length (fixed_form t ws), fixed_answer t ws a ((form-accepted t ws (length a)).1 h)),
  );
  refused_exactly = λ r. (λ e. not_fixed-said t ws (length a) r (answer-refused t ws a r e), λ x. refused-answer t ws a r (said_not_fixed t ws (length a) x));
  kept = refused-area t ws a;
  form = form-stands t ws a;
  size = size-fixed t ws a;
  zeros = zeros_stand t ws a;
  no_longer = λ b. form-within b;
  basic = λ b. form_is_basic b;
  in_form = λ b c. term-in_form b c;
  alike = λ b c. term-alike b c;
  only = λ b x c i p. only-form b x c i p;
  equal_exactly = λ b t' ws' c. forms_same b c;
  itself = λ b. form-fixed b;
}

-- the call by the contract of the code: an outcome that equals the definition's, its numbers and its claims
pub form-said : (t ws a : List ℕ) {o : FormOutcome} → o ≡ form_outcome t ws a
    → (o ≡ form_outcome t ws a) × ((fixed_report o.answer ≡ form_reported t ws (length a)) × FormClaims t ws a o)
form-said t ws a e = (
  e,
  (ap (λ (o : FormOutcome). fixed_report o.answer) e ∙ form_numbers t ws a, subst (FormClaims t ws a) (sym e) (form-claims t ws a)),
)

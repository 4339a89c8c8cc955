-- What bringing a plan to its fixed form comes to, by what judging finds; and what a basic plan's form is, as the code gathers it.
use Rattle.std.specs.Prelude.{Ok, Err}
use Prim.Native.Nat.{ℕ, ◌≤◌, ◌<◌}
use native.Mathlib.Omega.{arith}
use mathlib.Core.Path.{◌≡◌, refl, sym, ap, ◌∙◌}
use mathlib.Core.Bool.{Bool, true, false, cond, not}
use mathlib.Core.List.{List, [], ◌∷◌}
use mathlib.Core.Logic.{◌↔◌}
use mathlib.Core.Option.{Option, none, some, some-injective}
use lib.ListN.{length}
use lib.Dec.{ltb}
use borrow.Author.Tests.{lt-ltb, le-ltb, ltb-false}
use Rattle.refusals.specs.declared.Place.TheVariants.{Nowhere}
use Rattle.refusals.specs.declared.Refusal.{Refusal}
use Rattle.refusals.specs.Refusal.{refuse, refuse_if, judged, reported}
use Rattle.refusals.proofs.Judging.{accepted_none, refused_some, none_of_both, not_met}
use Rattle.areas.specs.Area.{padded}
use Rattle.tables.specs.Tables.{Tables, actions}
use Rattle.plans.specs.Term.{Term, words, term_of}
use Rattle.plans.specs.Basic.{basic_words?}
use Rattle.plans.specs.Judging.{plan_refusal}
use Rattle.plans.specs.Accepted.{AcceptedPlan, BasicPlan}
use Rattle.plans.proofs.Options.{never}
use Rattle.plans.proofs.Accepted.{accepted-plan, accepted-reads_as, basic_plan}
use Rattle.forms.specs.Form.{form}
use Rattle.forms.specs.Gathering.{form_by_sorting}
use Rattle.forms.proofs.Kept.{form-over, form-basic}
use Rattle.forms.proofs.Claims.{form_of-read, form-no_longer, form-some_words, form-read, form_of-form, form_computed_by_sorting}
use Rattle.fixing.specs.Outcome.{basic_refusal, fixed_form, form_refusal, FormOutcome, fixed_unless, form_outcome, fixed_report, form_reported}
use Rattle.fixing.specs.Gathered.{Gatherable}

-- where the refusal by a test that is not met is none, it is met
basic_met : (b : Bool) (k : ℕ) → refuse_if (not b) k ≡ none → b ≡ true
basic_met true k e = refl
basic_met false k e = never (sym e)

-- judging: tables and plan, then whether the plan is basic
module _ (t : Tables) (ws : List ℕ) where
  -- 1 to 8 and 11 to 14
  pub basic-refused-plan : {r : Refusal} → plan_refusal t ws ≡ some r → basic_refusal t ws ≡ some r
  unfolding basic_refusal
  basic-refused-plan e = rw e

  -- "A plan that isn't basic gets 70."
  pub basic-refused : plan_refusal t ws ≡ none → basic_words? (actions t) ws ≡ false → basic_refusal t ws ≡ refuse 70 Nowhere
  unfolding basic_refusal
  basic-refused e d = rw (e, d)

  pub basic_none : plan_refusal t ws ≡ none → basic_words? (actions t) ws ≡ true → basic_refusal t ws ≡ none
  unfolding basic_refusal
  basic_none e d = rw (e, d)

  none_basic : basic_refusal t ws ≡ none → (plan_refusal t ws ≡ none) × (basic_words? (actions t) ws ≡ true)
  unfolding basic_refusal
  none_basic e =
      let h = (none_of_both (plan_refusal t ws) (refuse_if (not (basic_words? (actions t) ws)) 70)).0 e in
      (h.0, basic_met (basic_words? (actions t) ws) 70 h.1)

  -- nothing is refused exactly where the plan is basic
  pub basic-accepted : (basic_refusal t ws ≡ none) ↔ BasicPlan t ws
  basic-accepted = (λ e. (basic_plan t ws).0 (none_basic e), λ b. let k = (basic_plan t ws).1 b in basic_none k.0 k.1)

  -- the answer, by what judging the plan answers and by whether its words are basic
  pub judged-plan : {r : Refusal} → Err r ≡ judged (plan_refusal t ws) → Err r ≡ judged (basic_refusal t ws)
  judged-plan e = ap judged (sym (basic-refused-plan (refused_some _ _ (sym e))))

  pub judged-basic : Ok tt ≡ judged (plan_refusal t ws) → true ≡ basic_words? (actions t) ws → Ok tt ≡ judged (basic_refusal t ws)
  judged-basic e d = ap judged (sym (basic_none (accepted_none _ (sym e)) (sym d)))

  pub judged-not_basic : Ok tt ≡ judged (plan_refusal t ws) → false ≡ basic_words? (actions t) ws
      → Err (record { number = 70; place = Nowhere }) ≡ judged (basic_refusal t ws)
  judged-not_basic e d = ap judged (sym (basic-refused (accepted_none _ (sym e)) (sym d)))

  -- 70, said without the test
  pub refused-not_basic : AcceptedPlan t ws → (BasicPlan t ws → ⊥) → basic_refusal t ws ≡ refuse 70 Nowhere
  refused-not_basic p f =
      let e = (accepted-plan t ws).1 p in
      basic-refused e (never_so (basic_words? (actions t) ws) (λ b. f ((basic_plan t ws).0 (e, b))))
    where
      never_so : (b : Bool) → (b ≡ true → ⊥) → b ≡ false
      never_so true f = absurd (f refl)
      never_so false f = refl

-- then the area, of n bytes
module _ (t : Tables) (ws : List ℕ) (n : ℕ) where
  pub form-refused-basic : {r : Refusal} → basic_refusal t ws ≡ some r → form_refusal t ws n ≡ some r
  unfolding form_refusal
  form-refused-basic e = rw e

  -- "After that an area shorter than the form gets 74"
  pub form-refused-short : basic_refusal t ws ≡ none → n < length (fixed_form t ws) → form_refusal t ws n ≡ refuse 74 Nowhere
  unfolding form_refusal
  form-refused-short e h = rw (e, lt-ltb n (length (fixed_form t ws)) h)

  pub form_none : basic_refusal t ws ≡ none → length (fixed_form t ws) ≤ n → form_refusal t ws n ≡ none
  unfolding form_refusal
  form_none e h = rw (e, le-ltb n (length (fixed_form t ws)) h)

  none_form : form_refusal t ws n ≡ none → (basic_refusal t ws ≡ none) × (length (fixed_form t ws) ≤ n)
  unfolding form_refusal
  none_form e =
      let h = (none_of_both (basic_refusal t ws) (refuse_if (ltb n (length (fixed_form t ws))) 74)).0 e in
      (h.0, ltb-false n (length (fixed_form t ws)) (not_met (ltb n (length (fixed_form t ws))) 74 h.1))

  -- nothing is refused exactly where the plan is basic and the area holds the form
  pub form-accepted : (form_refusal t ws n ≡ none) ↔ (BasicPlan t ws × (length (fixed_form t ws) ≤ n))
  form-accepted = (λ e. let h = none_form e in ((basic-accepted t ws).0 h.0, h.1), λ h. form_none ((basic-accepted t ws).1 h.0) h.1)

-- the outcome
module _ (t ws a : List ℕ) where
  -- a refusal leaves the area
  pub not_fixed : {r : Refusal} → form_refusal t ws (length a) ≡ some r → ◌≡◌ {A = FormOutcome} (record { answer = Err r; area = a }) (form_outcome t ws a)
  unfolding form_outcome
  not_fixed e = rw e

  -- else the form is written, zeros behind
  pub is_fixed : form_refusal t ws (length a) ≡ none
      → ◌≡◌ {A = FormOutcome} (record { answer = Ok (length (fixed_form t ws)); area = padded (fixed_form t ws) (length a) }) (form_outcome t ws a)
  unfolding form_outcome
  is_fixed e = rw e

  -- the answer in numbers
  pub form_numbers : fixed_report (form_outcome t ws a).answer ≡ form_reported t ws (length a)
  unfolding form_outcome
  form_numbers = go (form_refusal t ws (length a))
    where
      go : (o : Option Refusal) → fixed_report (fixed_unless o (fixed_form t ws) a).answer ≡ reported o (length (fixed_form t ws) ∷ [])
      go none = refl
      go (some r) = refl

-- of a basic plan
module _ {t : Tables} {ws : List ℕ} (b : BasicPlan t ws) where
  abbrev u : Term
  u = b.plan.term

  pub few_of : actions t ≤ 31
  few_of = b.plan.lawful.well_formed.few_actions

  pub reads_as : term_of (actions t) ws ≡ some u
  reads_as = accepted-reads_as t ws b.plan

  -- its form is the words of its term's form, and what the loop over its words computes
  pub form-spelled : fixed_form t ws ≡ words (form u)
  form-spelled = form_of-read (actions t) ws u reads_as

  form_gathered : form_by_sorting ws ≡ fixed_form t ws
  form_gathered = form_computed_by_sorting (actions t) ws u reads_as few_of b.basic

  pub form-within : length (fixed_form t ws) ≤ length ws
  form-within = form-no_longer (actions t) ws u reads_as

  -- so the loop may gather it
  pub gatherable : Gatherable ws
  gatherable = record { few = b.plan.few_words; some_words = rw form_gathered (form-some_words (actions t) ws u reads_as) }

  -- its form is a basic plan too, and its own form
  pub form_is_basic : BasicPlan t (fixed_form t ws)
  form_is_basic =
      record {
        plan =
            record {
              lawful = b.plan.lawful;
              term = form u;
              spelled = sym form-spelled;
              over = form-over (actions t) u b.plan.over;
              some_words = form-some_words (actions t) ws u reads_as;
              few_words = omega (arith, form-within, b.plan.few_words);
            };
        basic = form-basic b.basic;
      }

  pub form-fixed : fixed_form t (fixed_form t ws) ≡ fixed_form t ws
  form-fixed = form_of-form (actions t) ws u reads_as few_of b.basic

  -- whatever term the form is said to have
  pub form-term : (c : BasicPlan t (fixed_form t ws)) → c.plan.term ≡ form u
  form-term c =
      some-injective _ _ (sym (accepted-reads_as t (fixed_form t ws) c.plan) ∙ form-read (actions t) ws u reads_as few_of)

-- what putting the form of a basic plan comes to, by the length of the area
module _ (t ws a a' : List ℕ) (k : ℕ) (e : basic_refusal t ws ≡ none) (q : k ≡ length (form_by_sorting ws))
    (p : a' ≡ cond (ltb (length a) k) a (padded (form_by_sorting ws) (length a))) where
  gathered : form_by_sorting ws ≡ fixed_form t ws
  gathered = form_gathered ((basic-accepted t ws).0 e)

  pub put-short : length a < k → ◌≡◌ {A = FormOutcome} (record { answer = Err (record { number = 74; place = Nowhere }); area = a' }) (form_outcome t ws a)
  put-short h =
      let b : a' ≡ a = p ∙ rw (lt-ltb (length a) k h) refl in
      rw b (not_fixed t ws a (form-refused-short t ws (length a) e (omega (arith, q, ap length gathered))))

  pub put-long : k ≤ length a → ◌≡◌ {A = FormOutcome} (record { answer = Ok k; area = a' }) (form_outcome t ws a)
  put-long h =
      let b : a' ≡ padded (fixed_form t ws) (length a) = p ∙ rw (le-ltb (length a) k h, gathered) refl in
      let s : k ≡ length (fixed_form t ws) = q ∙ ap length gathered in
      rw (b, s) (is_fixed t ws a (form_none t ws (length a) e (omega (arith, s))))

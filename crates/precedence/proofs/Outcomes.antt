-- What the call answers, case by case.
use Rattle.std.specs.Prelude.{Ok, Err, None, ⊤}
use Prim.Native.Nat.{ℕ, ◌≤◌}
use mathlib.Core.Path.{◌≡◌, refl, sym, ap, ◌∙◌}
use mathlib.Core.Bool.{Bool, true, false, not, ◌||◌, false≢true}
use mathlib.Core.List.{List}
use mathlib.Core.Option.{Option, none, some}
use lib.Dec.{eqb}
use borrow.Author.Tests.{eqb-false, ne_eqb}
use Rattle.refusals.specs.declared.Place.TheVariants.{Nowhere}
use Rattle.refusals.specs.declared.Refusal.{Refusal}
use Rattle.refusals.specs.Refusal.{refuse, refuse_if, or_else, judged, reported}
use Rattle.refusals.proofs.Judging.{accepted_none, refused_some, none_of_both}
use Rattle.tables.specs.Tables.{Tables, actions, outside?}
use Rattle.tables.proofs.Actions.{not_outside, within}
use Rattle.plans.specs.Judging.{plan_refusal, words_refusal}
use Rattle.plans.specs.Basic.{basic_words?}
use Rattle.plans.proofs.Options.{never}
use Rattle.plans.proofs.Accepted.{plan-accepted_iff, few_actions, accepted-length, accepted-reads_as, basic_plan}
use Rattle.precedence.specs.Overtaking.{overtaking}
use Rattle.precedence.specs.Outcome.{not_a_pair?, precedence_refusal, found_answer, unless_refused, precedence_answer, precedence_report, found_values, precedence_reported}
use Rattle.precedence.specs.Pass.{passed}
use Rattle.precedence.specs.Claims.{Pair}
use Rattle.precedence.proofs.Sweeping.{or_at, passed_finds}

-- the tests of the two actions
module _ (t : Tables) (first second : ℕ) where
  pub pair-said : not_a_pair? (actions t) first second ≡ false → Pair t first second
  pair-said e = go (eqb first second) refl (outside? (actions t) first) refl (outside? (actions t) second) refl e
    where
      go : (b : Bool) → eqb first second ≡ b → (c : Bool) → outside? (actions t) first ≡ c → (d : Bool) → outside? (actions t) second ≡ d → b || (c || d) ≡ false → Pair t first second
      go true b c f d g e = absurd (false≢true (sym e))
      go false b true f d g e = absurd (false≢true (sym e))
      go false b false f true g e = absurd (false≢true (sym e))
      go false b false f false g e =
          record { different = eqb-false first second b; first_inside = within (actions t) first f; second_inside = within (actions t) second g }

  pub said-pair : Pair t first second → not_a_pair? (actions t) first second ≡ false
  said-pair p =
      rw (ne_eqb first second p.different, not_outside (actions t) first p.first_inside.0 p.first_inside.1, not_outside (actions t) second p.second_inside.0 p.second_inside.1) refl

  pub no_pair-said : not_a_pair? (actions t) first second ≡ true → Pair t first second → ⊥
  no_pair-said e p = false≢true (sym (said-pair p) ∙ e)

  pub said_no_pair : (Pair t first second → ⊥) → not_a_pair? (actions t) first second ≡ true
  said_no_pair f = go (not_a_pair? (actions t) first second) refl
    where
      go : (b : Bool) → not_a_pair? (actions t) first second ≡ b → b ≡ true
      go true e = refl
      go false e = absurd (f (pair-said e))

-- what was found, as the code holds it
found-or_at : (o : Option ℕ) → found_answer o ≡ Ok (or_at o None)
found-or_at none = refl
found-or_at (some p) = refl

-- the chain of refusals
module _ (t : Tables) (plan : List ℕ) (first second : ℕ) where
  pub refusal_plan : (r : Refusal) → plan_refusal t plan ≡ some r → precedence_refusal t plan first second ≡ some r
  unfolding precedence_refusal
  refusal_plan r e = rw e refl

  pub refusal_pair : plan_refusal t plan ≡ none → not_a_pair? (actions t) first second ≡ true → precedence_refusal t plan first second ≡ refuse 73 Nowhere
  unfolding precedence_refusal
  refusal_pair e d = rw (e, d) refl

  pub refusal_not_basic : plan_refusal t plan ≡ none → not_a_pair? (actions t) first second ≡ false → basic_words? (actions t) plan ≡ false
      → precedence_refusal t plan first second ≡ refuse 70 Nowhere
  unfolding precedence_refusal
  refusal_not_basic e d b = rw (e, d, b) refl

  pub refusal_none : plan_refusal t plan ≡ none → not_a_pair? (actions t) first second ≡ false → basic_words? (actions t) plan ≡ true → precedence_refusal t plan first second ≡ none
  unfolding precedence_refusal
  refusal_none e d b = rw (e, d, b) refl

  pub none_said : precedence_refusal t plan first second ≡ none
      → (plan_refusal t plan ≡ none) × (not_a_pair? (actions t) first second ≡ false) × (basic_words? (actions t) plan ≡ true)
  unfolding precedence_refusal
  none_said e =
      let k = (none_of_both (plan_refusal t plan) _).0 e in
      let g = go (not_a_pair? (actions t) first second) (basic_words? (actions t) plan) k.1 in (k.0, g.0, g.1)
    where
      go : (b c : Bool) → or_else (refuse_if b 73) (refuse_if (not c) 70) ≡ none → (b ≡ false) × (c ≡ true)
      go true c e = never (sym e)
      go false true e = (refl, refl)
      go false false e = never (sym e)

  pub answer-refused : (r : Refusal) → precedence_refusal t plan first second ≡ some r → precedence_answer t plan first second ≡ Err r
  unfolding precedence_answer
  answer-refused r e = rw e refl

  pub answer_found : precedence_refusal t plan first second ≡ none → precedence_answer t plan first second ≡ found_answer (overtaking (actions t) plan first second)
  unfolding precedence_answer
  answer_found e = rw e refl

  -- what the code below asks for
  pub judged-words : precedence_refusal t plan first second ≡ none → (actions t ≤ 31) × (words_refusal (actions t) plan ≡ none) × (second ≤ actions t)
  judged-words e =
      let k = none_said e in
      let a = (plan-accepted_iff t plan).0 k.0 in (few_actions t a.0, a.1, (pair-said t first second k.1).second_inside.1)

-- the answer: the first refusal, and else what was found
pub unless-refused : (o : Option Refusal) (f : Option ℕ) {r : Refusal} → judged o ≡ Err r → unless_refused o f ≡ Err r
unless-refused o f {r} e = rw (refused_some o r e) refl

pub unless-found : (o : Option Refusal) (f : Option ℕ) {u : ⊤} → judged o ≡ Ok u → unless_refused o f ≡ found_answer f
unless-found o f e = rw (accepted_none o e) refl

module _ (t : Tables) (plan : List ℕ) (first second : ℕ) {u : ⊤} (e : judged (precedence_refusal t plan first second) ≡ Ok u) where
  pub asked-few : actions t ≤ 31
  asked-few = (judged-words t plan first second (accepted_none _ e)).0

  pub asked-words : words_refusal (actions t) plan ≡ none
  asked-words = (judged-words t plan first second (accepted_none _ e)).1

  pub asked-second : second ≤ actions t
  asked-second = (judged-words t plan first second (accepted_none _ e)).2

  pub found-passed : found_answer (overtaking (actions t) plan first second) ≡ Ok (passed (actions t) plan first second)
  found-passed =
      let k = none_said t plan first second (accepted_none _ e) in
      let b = (basic_plan t plan).0 (k.0, k.2) in
      let fits = accepted-length (actions t) asked-few plan asked-words in
      found-or_at (overtaking (actions t) plan first second)
      ∙ ap Ok (sym (passed_finds (actions t) asked-few plan first second asked-second b.plan.term b.basic (accepted-reads_as t plan b.plan) fits))

pub ruleset answering = (unless-refused, unless-found, asked-few, asked-words, asked-second, found-passed)

-- the answer in numbers
pub precedence_numbers : (t : Tables) (plan : List ℕ) (first second : ℕ) → precedence_report (precedence_answer t plan first second) ≡ precedence_reported t plan first second
unfolding precedence_answer
precedence_numbers t plan first second = go (precedence_refusal t plan first second) (overtaking (actions t) plan first second)
  where
    go : (o : Option Refusal) (p : Option ℕ) → precedence_report (unless_refused o p) ≡ reported o (found_values p)
    go none none = refl
    go none (some p) = refl
    go (some r) p = refl

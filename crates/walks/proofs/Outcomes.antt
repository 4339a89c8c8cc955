-- What the calls of a walk answer and leave, case by case.
use Rattle.std.specs.Prelude.{Ok, Err, ⊤}
use Prim.Native.Nat.{ℕ, ◌≤◌}
use mathlib.Core.Path.{◌≡◌, refl, sym, ◌∙◌}
use mathlib.Core.Bool.{Bool, true, false, not, ◌||◌, false≢true}
use mathlib.Core.List.{List, []}
use mathlib.Core.Option.{Option, none, some}
use lib.Dec.{eqb}
use lib.ListN.{length}
use borrow.Author.Tests.{eq-eqb, ne_eqb, eqb-true}
use Rattle.refusals.specs.declared.Place.TheVariants.{Nowhere}
use Rattle.refusals.specs.declared.Refusal.{Refusal}
use Rattle.refusals.specs.Refusal.{refuse, refuse_if, or_else, judged, report, reported}
use Rattle.refusals.proofs.Judging.{accepted_none, none_of_both, refused_some}
use Rattle.tables.specs.Tables.{Tables, actions, outside?}
use Rattle.plans.specs.Basic.{basic_words?}
use Rattle.plans.specs.Judging.{plan_refusal}
use Rattle.plans.proofs.Options.{never}
use Rattle.plans.proofs.Accepted.{plan-accepted_iff, few_actions, accepted-plan}
use Rattle.walks.specs.Progress.{Progress, fresh}
use Rattle.walks.specs.Pass.{take_message}
use Rattle.walks.specs.Turns.{Walking, message_outcome}
use Rattle.walks.specs.Outcome.{not_walkable_refusal, WalkOutcome, accepted_outcome, refused_outcome, unless_refused, fresh_outcome, walk_outcome, not_taken?, or_keep, walk_refusal}

-- whether a plan can be walked with these marks
module _ (t : Tables) (plan marks : List ℕ) where
  pub refusal_plan : (r : Refusal) → plan_refusal t plan ≡ some r → not_walkable_refusal t plan marks ≡ some r
  unfolding not_walkable_refusal
  refusal_plan r e = rw e refl

  pub refusal_not_basic : plan_refusal t plan ≡ none → basic_words? (actions t) plan ≡ false → not_walkable_refusal t plan marks ≡ refuse 70 Nowhere
  unfolding not_walkable_refusal
  refusal_not_basic e b = rw (e, b) refl

  pub refusal_length : plan_refusal t plan ≡ none → (length marks ≡ length plan → ⊥) → not_walkable_refusal t plan marks ≡ refuse 70 Nowhere
  unfolding not_walkable_refusal
  refusal_length e d = rw (e, ne_eqb (length marks) (length plan) d) (go (basic_words? (actions t) plan))
    where
      go : (b : Bool) → refuse_if (not b || true) 70 ≡ refuse 70 Nowhere
      go true = refl
      go false = refl

  pub refusal_none : plan_refusal t plan ≡ none → basic_words? (actions t) plan ≡ true → length marks ≡ length plan → not_walkable_refusal t plan marks ≡ none
  unfolding not_walkable_refusal
  refusal_none e b l = rw (e, b, eq-eqb (length marks) (length plan) l) refl

  pub none_said : not_walkable_refusal t plan marks ≡ none → (plan_refusal t plan ≡ none) × (basic_words? (actions t) plan ≡ true) × (length marks ≡ length plan)
  unfolding not_walkable_refusal
  none_said e = let k = (none_of_both (plan_refusal t plan) _).0 e in let g = go (basic_words? (actions t) plan) (eqb (length marks) (length plan)) k.1 in (k.0, g.0, eqb-true _ _ g.1)
    where
      go : (b c : Bool) → refuse_if (not b || not c) 70 ≡ none → (b ≡ true) × (c ≡ true)
      go true true e = (refl, refl)
      go true false e = never (sym e)
      go false c e = never (sym e)

-- where a message is not refused for another reason
no_other_refusal : (o : Option Refusal) (b : Bool) (a : Option Progress) (p : Progress) → o ≡ none → b ≡ false
    → unless_refused (or_else o (or_else (refuse_if b 71) (refuse_if (not_taken? a) 72))) p (accepted_outcome (or_keep a p)) ≡ message_outcome a p
no_other_refusal none false none p d e = refl
no_other_refusal none false (some q) p d e = refl
no_other_refusal none true a p d e = absurd (false≢true (sym e))
no_other_refusal (some r) b a p d e = never (sym d)

module _ (t : Tables) (plan : List ℕ) (p : Progress) where
  -- a fresh walk
  pub fresh-refused : (r : Refusal) → not_walkable_refusal t plan p.marks ≡ some r → fresh_outcome t plan p ≡ refused_outcome r p
  unfolding fresh_outcome
  fresh-refused r e = rw e refl

  pub fresh_begun : not_walkable_refusal t plan p.marks ≡ none → fresh_outcome t plan p ≡ accepted_outcome (fresh plan)
  unfolding fresh_outcome
  fresh_begun e = rw e refl

  -- a message
  module _ (m : ℕ) where
    pub walk_refused : (r : Refusal) → not_walkable_refusal t plan p.marks ≡ some r → walk_outcome t plan m p ≡ refused_outcome r p
    unfolding walk_outcome walk_refusal
    walk_refused r e = rw e refl

    module _ (e : not_walkable_refusal t plan p.marks ≡ none) where
      pub walk-outside : outside? (actions t) m ≡ true → walk_outcome t plan m p ≡ refused_outcome (record { number = 71; place = Nowhere }) p
      unfolding walk_outcome walk_refusal
      walk-outside o = rw (e, o) refl

      pub walk-on : outside? (actions t) m ≡ false → walk_outcome t plan m p ≡ message_outcome (take_message (actions t) plan m p) p
      unfolding walk_outcome walk_refusal
      walk-on o = no_other_refusal (not_walkable_refusal t plan p.marks) (outside? (actions t) m) (take_message (actions t) plan m p) p e o

-- the outcome of a call that judges: the first refusal leaves everything, and else comes what follows
pub unless-refused : (o : Option Refusal) (p : Progress) (x : WalkOutcome) {r : Refusal} → judged o ≡ Err r → unless_refused o p x ≡ refused_outcome r p
unless-refused o p x {r} e = rw (refused_some o r e) refl

pub unless-on : (o : Option Refusal) (p : Progress) (x : WalkOutcome) {u : ⊤} → judged o ≡ Ok u → unless_refused o p x ≡ x
unless-on o p x e = rw (accepted_none o e) refl

-- a plan that can be walked has a word, and each of its words one mark
pub walkable-words : (t : Tables) (plan marks : List ℕ) {u : ⊤} → judged (not_walkable_refusal t plan marks) ≡ Ok u → 1 ≤ length plan
walkable-words t plan marks e = ((accepted-plan t plan).0 (none_said t plan marks (accepted_none _ e)).0).some_words

pub walkable-fits : (t : Tables) (plan marks : List ℕ) {u : ⊤} → judged (not_walkable_refusal t plan marks) ≡ Ok u → length marks ≡ length plan
walkable-fits t plan marks e = (none_said t plan marks (accepted_none _ e)).2

pub walkable-walking : (t : Tables) (plan marks : List ℕ) {u : ⊤} → judged (not_walkable_refusal t plan marks) ≡ Ok u → Walking (actions t) plan marks
walkable-walking t plan marks e =
    let k = none_said t plan marks (accepted_none _ e) in
    let a = (plan-accepted_iff t plan).0 k.0 in
    record { few = few_actions t a.0; accepted = a.1; fits = k.2 }

pub ruleset walkable = (unless-refused, unless-on, walkable-words, walkable-fits, walkable-walking)

pub message_outside : (n : ℕ) (plan : List ℕ) (m : ℕ) (p : Progress) → outside? n m ≡ true → take_message n plan m p ≡ none
unfolding take_message
message_outside n plan m p o = rw o refl

-- a message that is taken is none of those
pub message_inside : (n : ℕ) (plan : List ℕ) (m : ℕ) (p q : Progress) → take_message n plan m p ≡ some q → outside? n m ≡ false
message_inside n plan m p q e = go (outside? n m) refl
  where
    go : (b : Bool) → outside? n m ≡ b → outside? n m ≡ false
    go true o = never (sym (message_outside n plan m p o) ∙ e)
    go false o = o

-- the answers by their numbers
unless_numbers : (o : Option Refusal) (p q : Progress) → report (unless_refused o p (accepted_outcome q)).answer ≡ reported o []
unless_numbers none p q = refl
unless_numbers (some r) p q = refl

pub fresh_numbers : (t : Tables) (plan : List ℕ) (p : Progress) → report (fresh_outcome t plan p).answer ≡ reported (not_walkable_refusal t plan p.marks) []
unfolding fresh_outcome
fresh_numbers t plan p = unless_numbers (not_walkable_refusal t plan p.marks) p (fresh plan)

pub walk_numbers : (t : Tables) (plan : List ℕ) (m : ℕ) (p : Progress) → report (walk_outcome t plan m p).answer ≡ reported (walk_refusal t plan m p) []
unfolding walk_outcome
walk_numbers t plan m p = unless_numbers (walk_refusal t plan m p) p (or_keep (take_message (actions t) plan m p) p)

-- A step, and a rewriting of any number of steps, leaves a plan's tree alike.
use Prim.Native.Nat.{ℕ, ◌≤◌}
use mathlib.Core.Path.{◌≡◌, refl, subst}
use mathlib.Core.List.{List}
use mathlib.Core.Option.{none, some, some-injective}
use lib.ListN.{length}
use borrow.Author.Tests.{le-ltb}
use Rattle.areas.specs.Area.{most_words}
use Rattle.tables.specs.Tables.{Tables, actions}
use Rattle.tables.specs.Lawful.{Lawful}
use Rattle.plans.specs.Term.{Term, term_of}
use Rattle.plans.specs.Place.{subterm, replace}
use Rattle.plans.specs.Judging.{words_refusal}
use Rattle.plans.proofs.Options.{and_then_some}
use Rattle.plans.proofs.Reading.{term-said}
use Rattle.plans.proofs.Place.{subterm-over, replaced_related}
use Rattle.plans.proofs.Accepted.{accepted-term, term-accepted, words_some}
use Rattle.trees.specs.Meaning.{tree, AlikePlans}
use Rattle.trees.proofs.Alike.{Like, alike_refl, alike_trans, like_un, like_bin, alike_plans}
use Rattle.laws.specs.Laws.{law_at, rewrite}
use Rattle.laws.specs.Step.{step, Rewrites, no_step, step_then}
use Rattle.laws.proofs.Tables.{Proper, lawful_proper}
use Rattle.laws.proofs.Sound.{law_keeps}

-- "or the place is past the end"
pub step_past : (t : Tables) (k p : ℕ) (ws : List ℕ) → length ws ≤ p → step t k p ws ≡ none
unfolding step subterm
step_past t k p ws h = rw (le-ltb p (length ws) h) refl

-- a step is made exactly when the law fits the subplan there, and gives the plan with the right side put in
pub step-made : (t : Tables) (k p : ℕ) (ws vs : List ℕ) → step t k p ws ≡ some vs
    → (u : Term) × (v : Term) × (subterm (actions t) ws p ≡ some u) × (rewrite t (law_at k) u ≡ some v) × (replace ws p u v ≡ vs)
unfolding step
step-made t k p ws vs e =
    let c = and_then_some (subterm (actions t) ws p) _ e in
    let d = and_then_some (rewrite t (law_at k) c.0) _ c.2 in
    (c.0, d.0, c.1, d.1, some-injective _ _ d.2)

pub step_fits : (t : Tables) (k p : ℕ) (ws : List ℕ) (u v : Term) → subterm (actions t) ws p ≡ some u → rewrite t (law_at k) u ≡ some v
    → step t k p ws ≡ some (replace ws p u v)
unfolding step
step_fits t k p ws u v i j = rw (i, j) refl

-- a term with a tree like that of the first, that the words read as
abbrev pub Reads : Tables → Term → List ℕ → Type 0
Reads t x ws = (y : Term) × (term_of (actions t) ws ≡ some y) × Like t x y

module _ (t : Tables) (ok : Proper t) where
  pub step_keeps : (k p : ℕ) (ws vs : List ℕ) (x : Term) → term_of (actions t) ws ≡ some x → step t k p ws ≡ some vs → Reads t x vs
  step_keeps k p ws vs x i e =
      let c = step-made t k p ws vs e in
      let f = law_keeps t ok k c.0 c.1 c.3 (subterm-over (actions t) ws p c.0 c.2) in
      subst (Reads t x) c.4
      (replaced_related (Like t) (λ u. alike_refl (tree t u)) (like_un t) (like_bin t) (actions t) ok.few ws p x c.0 c.1 f.0 f.1 c.2 i)

  pub rewriting_keeps : {ws vs : List ℕ} (x : Term) → Rewrites t ws vs → term_of (actions t) ws ≡ some x → Reads t x vs
  rewriting_keeps x no_step i = (x, i, alike_refl (tree t x))
  rewriting_keeps {ws} {vs} x (step_then {vs = w} k p e r) i =
      let c = step_keeps k p ws w x i e in
      let d = rewriting_keeps c.0 r c.1 in
      (d.0, d.1, alike_trans c.2 d.2)

-- a plan that is read is accepted unless it is too long
pub reads-accepted : (t : Tables) → Lawful t → (ws : List ℕ) (x : Term) → term_of (actions t) ws ≡ some x → length ws ≤ most_words → words_refusal (actions t) ws ≡ none
reads-accepted t ok ws x e h = term-accepted (actions t) ok.well_formed.few_actions ws x e (subst (λ l. 1 ≤ length l) (term-said (actions t) ws x e).0 (words_some x)) h

-- Any number of steps, each a law of the thirty-two at a place, from an accepted plan: the trees are alike, and the last plan is accepted
-- unless it is too long.
pub chain-alike : (t : Tables) → Lawful t → {ws vs : List ℕ} → words_refusal (actions t) ws ≡ none → Rewrites t ws vs
    → AlikePlans t ws vs × (length vs ≤ most_words → words_refusal (actions t) vs ≡ none)
chain-alike t ok {ws} {vs} a r =
    let c = accepted-term (actions t) ok.well_formed.few_actions ws a in
    let d = rewriting_keeps t (lawful_proper t ok) c.0 r c.1 in
    (alike_plans t ws vs c.0 d.0 c.1 d.1 d.2, reads-accepted t ok vs d.0 d.1)

-- one step
pub step-alike : (t : Tables) → Lawful t → (k p : ℕ) (ws vs : List ℕ) → words_refusal (actions t) ws ≡ none → step t k p ws ≡ some vs
    → AlikePlans t ws vs × (length vs ≤ most_words → words_refusal (actions t) vs ≡ none)
step-alike t ok k p ws vs a e = chain-alike t ok a (step_then k p e no_step)

-- The form of a plan, as words: it reads as the form of the plan's term; equal forms and alike trees of basic plans are the same thing.
use Prim.Native.Nat.{ℕ, ◌≤◌}
use native.Mathlib.Omega.{arith}
use mathlib.Core.Path.{◌≡◌, sym, ap, ◌∙◌}
use mathlib.Core.Logic.{◌↔◌}
use mathlib.Core.List.{List}
use mathlib.Core.Option.{some}
use lib.ListN.{length}
use Rattle.tables.specs.Tables.{Tables, actions}
use Rattle.plans.specs.Term.{Term, words, Over, term_of}
use Rattle.plans.specs.Basic.{Basic}
use Rattle.plans.proofs.Reading.{term_words, term-said, words_injective}
use Rattle.plans.proofs.Accepted.{words_some}
use Rattle.trees.specs.Tree.{Alike}
use Rattle.trees.specs.Meaning.{tree}
use Rattle.forms.specs.Form.{form, form_of}
use Rattle.forms.specs.Gathering.{form_by_sorting}
use Rattle.forms.proofs.Kept.{form-over, form-length}
use Rattle.forms.proofs.Same.{over-more, equal_forms_iff_alike, form-form}
use Rattle.forms.proofs.Gathering.{form-sorted}

-- of words that read as a term: their form is that term's
pub form_of-read : (n : ℕ) (ws : List ℕ) (u : Term) → term_of n ws ≡ some u → form_of n ws ≡ words (form u)
unfolding form_of
form_of-read n ws u e = rw e

module _ (n : ℕ) (ws : List ℕ) (u : Term) (e : term_of n ws ≡ some u) where
  abbrev spelled : form_of n ws ≡ words (form u)
  spelled = form_of-read n ws u e

  within : Over n u
  within = (term-said n ws u e).1

  -- the form is no longer than the plan, and has a word
  pub form-no_longer : length (form_of n ws) ≤ length ws
  form-no_longer = omega (arith, form-length u, ap length (term-said n ws u e).0, ap length spelled)

  pub form-some_words : 1 ≤ length (form_of n ws)
  form-some_words = omega (arith, words_some (form u), ap length spelled)

  module _ (few : n ≤ 31) where
    pub within_31 : Over 31 u
    within_31 = over-more n few u within

    -- it reads as the form of the term
    pub form-read : term_of n (form_of n ws) ≡ some (form u)
    form-read = rw spelled (term_words n few (form u) (form-over n u within))

    module _ (b : Basic u) where
      -- "the fixed form of a fixed form is itself"
      pub form_of-form : form_of n (form_of n ws) ≡ form_of n ws
      form_of-form = form_of-read n (form_of n ws) (form u) form-read ∙ (ap words (form-form u b within_31) ∙ sym spelled)

      -- and it is what the loop over the words computes
      pub form_computed_by_sorting : form_by_sorting ws ≡ form_of n ws
      form_computed_by_sorting = ap form_by_sorting (sym (term-said n ws u e).0) ∙ (form-sorted u b within_31 ∙ sym spelled)

-- "Two basic plans have equal fixed forms exactly when their trees are alike", each with its own tables
pub equal_forms_iff_alike_trees : (t t' : Tables) → actions t ≤ 31 → actions t' ≤ 31 → (v w : List ℕ) (x y : Term)
    → term_of (actions t) v ≡ some x → term_of (actions t') w ≡ some y → Basic x → Basic y
    → (form_of (actions t) v ≡ form_of (actions t') w) ↔ Alike (tree t x) (tree t' y)
equal_forms_iff_alike_trees t t' few few' v w x y e d b c = (λ s. both.0 (terms s), λ a. first ∙ (ap words (both.1 a) ∙ sym second))
  where
    over-x : Over 31 x
    over-x = within_31 (actions t) v x e few

    over-y : Over 31 y
    over-y = within_31 (actions t') w y d few'

    both : (form x ≡ form y) ↔ Alike (tree t x) (tree t' y)
    both = equal_forms_iff_alike t t' x y b c over-x over-y

    first : form_of (actions t) v ≡ words (form x)
    first = form_of-read (actions t) v x e

    second : form_of (actions t') w ≡ words (form y)
    second = form_of-read (actions t') w y d

    terms : form_of (actions t) v ≡ form_of (actions t') w → form x ≡ form y
    terms s = words_injective 31 (omega arith) (form x) (form y) (form-over 31 x over-x) (form-over 31 y over-y) (sym first ∙ (s ∙ second))

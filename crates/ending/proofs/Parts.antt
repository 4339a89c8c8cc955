-- A term that steps bring to a basic one whatever waits before it and whatever comes behind; how its parts and the laws bring it there.
use Prim.Native.Nat.{ℕ, suc, ◌≤◌}
use mathlib.Core.Path.{◌≡◌, ◌∙◌}
use mathlib.Core.List.{List, [], ◌∷◌, ◌++◌, append_assoc}
use mathlib.Core.Option.{none, some}
use Rattle.tables.specs.Tables.{Tables, actions}
use Rattle.plans.specs.declared.Binary.{Binary}
use Rattle.plans.specs.declared.Unary.{Unary}
use Rattle.plans.specs.Word.{binary_word, unary_word}
use Rattle.plans.specs.Term.{Term, un, bin, words, SetNumber, Over}
use Rattle.plans.specs.Basic.{Basic}
use Rattle.plans.specs.Stack.{spell}
use Rattle.plans.proofs.Reading.{OverAll, term_words}
use Rattle.laws.proofs.Normal.{no_step_iff_basic}
use Rattle.rewritings.specs.Roots.{first_law}
use Rattle.laws.specs.Laws.{first_choice, choices}
use Rattle.rewritings.specs.Choice.{next_step}
use Rattle.rewritings.proofs.Choosing.{fits_none}
use Rattle.rewritings.proofs.Quiet.{sign-one, sign-two, quiet-push, next_found}
use Rattle.ending.specs.Ending.{Steps, none_left, one_more}

-- any number of steps
abbrev pub Run : Tables → List ℕ → List ℕ → Type 0
Run t w v = (k : ℕ) × Steps t k w v

run_on : {t : Tables} {j k : ℕ} {u v w : List ℕ} → Steps t j u v → Steps t k v w → Run t u w
run_on {k = k} none_left r = (k, r)
run_on (one_more s e q) r = let c = run_on q r in (suc c.0, one_more s e c.1)

run-then : {t : Tables} {u v w : List ℕ} → Run t u v → Run t v w → Run t u w
run-then q r = run_on q.1 r.1

module _ (t : Tables) where
  -- a basic term over the actions of the tables
  abbrev pub Fine : Term → Type 0
  Fine u = Basic u × Over (actions t) u

  -- where terms S wait within which no law fits, and the words suf come behind, steps bring u to r and leave the rest
  abbrev pub Reaches : Term → Term → Type 0
  Reaches u r = (S : List Term) → OverAll (actions t) S → next_step t (spell S) ≡ none → (suf : List ℕ) → Run t (spell (u ∷ S) ++ suf) (spell (r ∷ S) ++ suf)

  -- steps bring u to a basic term
  pub record Settles (u : Term) : Type 0 where
    pub end : Term
    pub fine : Fine end
    pub reaches : Reaches u end

module _ (t : Tables) (few : actions t ≤ 31) where
  -- no law fits within a basic term, nor behind others within which none fits
  pub quiet : (u : Term) → Fine t u → next_step t (words u) ≡ none
  quiet u f = fits_none t (words u) ((no_step_iff_basic t few (words u) u (term_words (actions t) few u f.1)).1 f.0)

  quiet-more : (S : List Term) (u : Term) → OverAll (actions t) S → Fine t u → next_step t (spell S) ≡ none → next_step t (spell (u ∷ S)) ≡ none
  quiet-more S u g f e = quiet-push t few S u g f.1 e (quiet u f)

  -- a basic term settles with no step
  pub settled : (u : Term) → Fine t u → Settles t u
  settled u f = record { end = u; fine = f; reaches = λ S g e suf. (0, none_left) }

  -- a term settles where steps bring it to one that does
  settles_by : {u v : Term} → Reaches t u v → Settles t v → Settles t u
  settles_by r s = record { end = s.end; fine = s.fine; reaches = λ S g e suf. run-then (r S g e suf) (s.reaches S g e suf) }

  -- a sign with its operands: the operands first, with the sign behind them
  one-words : (o : Unary) (x : Term) (S : List Term) (suf : List ℕ) → spell (un o x ∷ S) ++ suf ≡ spell (x ∷ S) ++ (unary_word o ∷ suf)
  one-words o x S suf = rw (← sign-one o x S) (append_assoc (spell (x ∷ S)) (unary_word o ∷ []) suf)

  two-words : (o : Binary) (x y : Term) (S : List Term) (suf : List ℕ) → spell (bin o x y ∷ S) ++ suf ≡ spell (y ∷ (x ∷ S)) ++ (binary_word o ∷ suf)
  two-words o x y S suf = rw (← sign-two o x y S) (append_assoc (spell (y ∷ (x ∷ S))) (binary_word o ∷ []) suf)

  left-words : (o : Binary) (x y : Term) (S : List Term) (suf : List ℕ) → spell (bin o x y ∷ S) ++ suf ≡ spell (x ∷ S) ++ (words y ++ (binary_word o ∷ suf))
  unfolding spell
  left-words o x y S suf = two-words o x y S suf ∙ append_assoc (spell (x ∷ S)) (words y) (binary_word o ∷ suf)

  -- first the operands settle, each where it stands
  pub in_one : {o : Unary} {x : Term} → Settles t x → ((r : Term) → Fine t r → Settles t (un o r)) → Settles t (un o x)
  in_one {o} {x} s f =
      settles_by
      (λ S g e suf. rw (one-words o x S suf, one-words o s.end S suf) (s.reaches S g e (unary_word o ∷ suf)))
      (f s.end s.fine)

  pub in_left : {o : Binary} {x y : Term} → Settles t x → ((r : Term) → Fine t r → Settles t (bin o r y)) → Settles t (bin o x y)
  in_left {o} {x} {y} s f =
      settles_by
      (λ S g e suf. rw (left-words o x y S suf, left-words o s.end y S suf) (s.reaches S g e (words y ++ (binary_word o ∷ suf))))
      (f s.end s.fine)

  pub in_right : {o : Binary} {x y : Term} → Fine t x → Settles t y → ((r : Term) → Fine t r → Settles t (bin o x r)) → Settles t (bin o x y)
  in_right {o} {x} {y} h s f =
      settles_by
      (λ S g e suf. rw (two-words o x y S suf, two-words o x s.end S suf) (s.reaches (x ∷ S) (h.1, g) (quiet-more S x g h e) (binary_word o ∷ suf)))
      (f s.end s.fine)

  pub in_two : {o : Binary} {x y : Term} → Settles t x → Settles t y → ((q r : Term) → Fine t q → Fine t r → Settles t (bin o q r)) → Settles t (bin o x y)
  in_two p s f = in_left p (λ q h. in_right h s (λ r i. f q r h i))

  -- then the lowest law that fits the sign is a step, and its right side settles
  pub law-one : {o : Unary} {x v : Term} → SetNumber o → Fine t x → (k : ℕ) → first_law t first_choice choices (un o x) ≡ some (k, v) → Settles t v → Settles t (un o x)
  unfolding spell
  law-one {o} {x} {v} i h k q s =
      settles_by
      (λ S g e suf. (
        1,
        one_more _
            (next_found t few S (un o x) ((i, h.1), g) (spell (x ∷ S)) (unary_word o) (sign-one o x S) (quiet-more S x g h e) k v q suf)
            (rw (append_assoc (spell S) (words v) suf) none_left),
      ))
      s

  pub law-two : {o : Binary} {x y v : Term} → Fine t x → Fine t y → (k : ℕ) → first_law t first_choice choices (bin o x y) ≡ some (k, v) → Settles t v → Settles t (bin o x y)
  unfolding spell
  law-two {o} {x} {y} {v} h i k q s =
      settles_by
      (λ S g e suf. (
        1,
        one_more _
            (next_found t few S (bin o x y) ((h.1, i.1), g) (spell (y ∷ (x ∷ S))) (binary_word o) (sign-two o x y S)
            (quiet-more (x ∷ S) y (h.1, g) i (quiet-more S x g h e)) k v q suf)
            (rw (append_assoc (spell S) (words v) suf) none_left),
      ))
      s

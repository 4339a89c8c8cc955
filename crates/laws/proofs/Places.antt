-- The places of a plan are the parts of its term: what holds of every part holds at every place, and back.
use Prim.Native.Nat.{ℕ, suc, pred, ◌≤◌, ◌<◌}
use native.Mathlib.Omega.{arith}
use mathlib.Core.Path.{◌≡◌, refl, sym, ◌∙◌, subst}
use mathlib.Core.List.{List, [], ◌∷◌, ◌++◌, append_assoc, append-nil}
use mathlib.Core.Option.{some, some-injective}
use lib.ListN.{length, take, drop, length-append}
use lib.Seq.{take_at}
use Rattle.plans.specs.declared.Word.{Word}
use Rattle.plans.specs.declared.Word.TheVariants.{Action, One, Two, NoWord}
use Rattle.plans.specs.Word.{binary_word, unary_word, word_of}
use Rattle.plans.specs.Term.{Term, act, un, bin, words, Over, push, read, term_of}
use Rattle.plans.specs.Place.{subterm}
use Rattle.plans.proofs.Options.{never, and_then_some}
use Rattle.plans.proofs.Reading.{read-on, read-words, term-said}
use Rattle.plans.proofs.Place.{halves, stack-subterm}
use Rattle.plans.proofs.Accepted.{words_some}

-- a property of every part of a term
abbrev pub Everywhere : (Term → Type 0) → Term → Type 0
Everywhere P (act c) = P (act c)
Everywhere P (un o u) = P (un o u) × Everywhere P u
Everywhere P (bin o u v) = P (bin o u v) × Everywhere P u × Everywhere P v

module _ (P : Term → Type 0) where
  root : (u : Term) → Everywhere P u → P u
  root (act c) e = e
  root (un o u) e = e.0
  root (bin o u v) e = e.0

  -- of all parts of the terms that wait
  abbrev Every : List Term → Type 0
  Every [] = Unit
  Every (u ∷ s) = Everywhere P u × Every s

  push-back : (k : Word) (s r : List Term) → push k s ≡ some r → Every r → Every s
  unfolding push
  push-back (Action c) s r e f = (subst Every (sym (some-injective _ _ e)) f).1
  push-back (One o) [] r e f = never e
  push-back (One o) (u ∷ s) r e f = let g = subst Every (sym (some-injective _ _ e)) f in (g.0.1, g.1)
  push-back (Two o) [] r e f = never e
  push-back (Two o) (v ∷ []) r e f = never e
  push-back (Two o) (v ∷ (u ∷ s)) r e f = let g = subst Every (sym (some-injective _ _ e)) f in (g.0.2, (g.0.1, g.1))
  push-back NoWord s r e f = never e

  module _ (n : ℕ) where
    read_back : (w : List ℕ) (s r : List Term) → read n w s ≡ some r → Every r → Every s
    unfolding read
    read_back [] s r e f = subst Every (sym (some-injective _ _ e)) f
    read_back (c ∷ w) s r e f =
        let d = and_then_some (push (word_of n c) s) _ e in
        push-back (word_of n c) s d.0 d.1 (read_back w d.0 r d.2 f)

    pub everywhere_places : (w : List ℕ) (x : Term) → term_of n w ≡ some x → Everywhere P x → (p : ℕ) (u : Term) → subterm n w p ≡ some u → P u
    everywhere_places w x e f p u i =
        let c = halves n w p u x i e in
        root u (read_back (drop (suc p) w) (u ∷ c.0) (x ∷ []) c.2 (f, tt)).0

  -- and back: each part stands between what was read before it and what comes after it
  module _ (n : ℕ) (few : n ≤ 31) (w : List ℕ) (at_places : (p : ℕ) → p < length w → (u : Term) → subterm n w p ≡ some u → P u) where
    at : (u : Term) (before after : List ℕ) (s : List Term) → read n before [] ≡ some s → before ++ (words u ++ after) ≡ w → Over n u → P u
    at u before after s e i f =
        let p = pred (length (before ++ words u)) in
        let l : length (before ++ words u) ≡ suc p = omega (arith, length-append before (words u), words_some u) in
        let split : (before ++ words u) ++ after ≡ w = append_assoc before (words u) after ∙ i in
        let inside : p < length w = rw (← split) (omega (arith, length-append (before ++ words u) after)) in
        let up_to : take (suc p) w ≡ before ++ words u = rw (← split) (take_at (before ++ words u) after (suc p) l) in
        at_places p inside u (stack-subterm n w p u s inside (rw up_to (read-on n before (words u) [] s e ∙ read-words n few u s f)))

    parts : (u : Term) (before after : List ℕ) (s : List Term) → read n before [] ≡ some s → before ++ (words u ++ after) ≡ w → Over n u → Everywhere P u
    unfolding words
    parts (act c) before after s e i f = at (act c) before after s e i f
    parts (un o u) before after s e i f = (at (un o u) before after s e i f, parts u before (unary_word o ∷ after) s e (rw append_assoc at i) f.1)
    parts (bin o u v) before after s e i f = (
      at (bin o u v) before after s e i f,
      parts u before (words v ++ (binary_word o ∷ after)) s e (simp append_assoc at i) f.0,
      parts v (before ++ words u) (binary_word o ∷ after) (u ∷ s) (read-on n before (words u) [] s e ∙ read-words n few u s f.0) (simp append_assoc (simp append_assoc at i)) f.1,
    )

    pub places_everywhere : (x : Term) → term_of n w ≡ some x → Everywhere P x
    unfolding read
    places_everywhere x e = let c = term-said n w x e in parts x [] [] [] refl (append-nil (words x) ∙ c.0) c.1

-- Words and what they are read as: each the other's inverse on the terms that plans can be.
use Prim.Native.Nat.{ℕ, ◌≤◌}
use mathlib.Core.Path.{◌≡◌, refl, ap, sym, ◌∙◌, subst}
use mathlib.Core.List.{List, [], ◌∷◌, ◌++◌, append_assoc, append-nil}
use mathlib.Core.Option.{Option, none, some, some-injective}
use Rattle.plans.specs.declared.Word.{Word}
use Rattle.plans.specs.Word.{word_of}
use Rattle.plans.specs.Term.{Term, act, un, bin, words, Over, push, read, and_then, sole, term_of}
use Rattle.plans.specs.Stack.{spell}
use Rattle.plans.proofs.Options.{never, and_then_some}
use Rattle.plans.proofs.Words.{word-action, word_unary, word_binary, Spelled, is_action, is_one, is_two, is_none, spelled}

abbrev pub OverAll : ℕ → List Term → Type 0
OverAll n [] = Unit
OverAll n (x ∷ s) = Over n x × OverAll n s

-- reading in two parts
pub read-append : (n : ℕ) (v w : List ℕ) (s : List Term) → read n (v ++ w) s ≡ and_then (read n v s) (λ r. read n w r)
unfolding read
read-append n [] w s = refl
read-append n (c ∷ v) w s = inner (push (word_of n c) s) (read-append n v w)
  where
    inner : (m : Option (List Term)) → ((s : List Term) → read n (v ++ w) s ≡ and_then (read n v s) (λ r. read n w r))
        → and_then m (λ s. read n (v ++ w) s) ≡ and_then (and_then m (λ s. read n v s)) (λ r. read n w r)
    inner none f = refl
    inner (some s) f = f s

pub read-on : (n : ℕ) (v w : List ℕ) (s r : List Term) → read n v s ≡ some r → read n (v ++ w) s ≡ read n w r
read-on n v w s r e = read-append n v w s ∙ ap (λ m. and_then m (λ r. read n w r)) e

pub sole_some : (s : List Term) (u : Term) → sole s ≡ some u → s ≡ u ∷ []
sole_some [] u e = never e
sole_some (x ∷ []) u e = ap (λ v. v ∷ []) (some-injective _ _ e)
sole_some (x ∷ (y ∷ s)) u e = never e

module _ (n : ℕ) (few : n ≤ 31) where
  -- terms are read from their words
  pub read-words : (u : Term) (s : List Term) → Over n u → read n (words u) s ≡ some (u ∷ s)
  unfolding read words push
  read-words (act a) s h = rw (word-action n few a h) refl
  read-words (un o x) s h = read-on n (words x) _ s (x ∷ s) (read-words x s h.1) ∙ rw (word_unary n few o h.0) refl
  read-words (bin o x y) s h =
      read-on n (words x) _ s (x ∷ s) (read-words x s h.0)
      ∙ (read-on n (words y) _ (x ∷ s) (y ∷ (x ∷ s)) (read-words y (x ∷ s) h.1) ∙ rw (word_binary n few o) refl)

  pub read-spell : (s : List Term) → OverAll n s → read n (spell s) [] ≡ some s
  unfolding spell read
  read-spell [] h = refl
  read-spell (x ∷ s) h = read-on n (spell s) (words x) [] s (read-spell s h.1) ∙ read-words x s h.0

  pub term_words : (u : Term) → Over n u → term_of n (words u) ≡ some u
  unfolding term_of
  term_words u h = rw (read-words u [] h) refl

  pub words_injective : (u v : Term) → Over n u → Over n v → words u ≡ words v → u ≡ v
  words_injective u v f g e = cc (read-words u [] f, read-words v [] g)

-- and spelled as they were read
abbrev pub Said : ℕ → List ℕ → List Term → List Term → Type 0
Said n w s r = (spell r ≡ spell s ++ w) × OverAll n r

module _ (n : ℕ) where
  push-said : (w : ℕ) (k : Word) (s r : List Term) → Spelled n w k → OverAll n s → push k s ≡ some r → Said n (w ∷ []) s r
  unfolding push spell words
  push-said w k s r (is_action h) f e = subst (Said n (w ∷ []) s) (some-injective _ _ e) (refl, (h, f))
  push-said w k [] r (is_one o i h) f e = never e
  push-said w k (x ∷ s) r (is_one o i h) f e =
      subst (Said n (w ∷ []) (x ∷ s)) (some-injective _ _ e) (rw i (sym (append_assoc (spell s) (words x) _)), ((h, f.0), f.1))
  push-said w k [] r (is_two o i) f e = never e
  push-said w k (y ∷ []) r (is_two o i) f e = never e
  push-said w k (y ∷ (x ∷ s)) r (is_two o i) f e =
      subst (Said n (w ∷ []) (y ∷ (x ∷ s))) (some-injective _ _ e) (rw i (simp append_assoc), ((f.1.0, f.0), f.1.1))
  push-said w k s r is_none f e = never e

  pub read-said : (ws : List ℕ) (s r : List Term) → OverAll n s → read n ws s ≡ some r → Said n ws s r
  unfolding read
  read-said [] s r f e = subst (Said n [] s) (some-injective _ _ e) (sym (append-nil _), f)
  read-said (w ∷ ws) s r f e =
      let c = and_then_some (push (word_of n w) s) _ e in
      let p = push-said w (word_of n w) s c.0 (spelled n w) f c.1 in
      let q = read-said ws c.0 r p.1 c.2 in
      (q.0 ∙ (ap (λ l. l ++ ws) p.0 ∙ append_assoc (spell s) (w ∷ []) ws), q.1)

  pub term-said : (ws : List ℕ) (u : Term) → term_of n ws ≡ some u → (words u ≡ ws) × Over n u
  unfolding term_of spell
  term-said ws u e =
      let c = and_then_some (read n ws []) sole e in
      let r = read-said ws [] (u ∷ []) tt (c.1 ∙ ap some (sole_some c.0 u c.2)) in
      (r.0, r.1.0)

-- Where the unfolding's next step is, by the terms that wait for an operator: a term's own steps are the same whatever waits before it, and a
-- word more that is read can bring a step only at the last term.
use Prim.Native.Nat.{ℕ, suc, ◌+◌, ◌-◌, ◌≤◌, ◌<◌}
use native.Mathlib.Omega.{arith}
use mathlib.Core.Path.{◌≡◌, refl, sym, ◌∙◌, ap}
use mathlib.Core.Bool.{Bool, true, false}
use mathlib.Core.List.{List, [], ◌∷◌, ◌++◌, append_assoc, append-nil}
use mathlib.Core.Option.{none, some, some-injective}
use lib.ListN.{length, take, length-append}
use lib.Seq.{length-take-le, take-append-add, take-append_seam}
use lib.Dec.{ltb}
use borrow.Author.Tests.{ltb-true, ltb-false}
use Rattle.tables.specs.Tables.{Tables, actions}
use Rattle.plans.specs.declared.Binary.{Binary}
use Rattle.plans.specs.declared.Unary.{Unary}
use Rattle.plans.specs.declared.Word.{Word}
use Rattle.plans.specs.declared.Word.TheVariants.{Action, One, Two, NoWord}
use Rattle.plans.specs.Word.{binary_word, unary_word, word_of}
use Rattle.plans.specs.Term.{Term, act, un, bin, words, Over, push, read}
use Rattle.plans.specs.Place.{subterm}
use Rattle.plans.specs.Stack.{spell}
use Rattle.plans.proofs.Options.{never, and_then_some}
use Rattle.plans.proofs.Reading.{OverAll, read-on, read-spell, read-said, term_words}
use Rattle.plans.proofs.Place.{stack_at, stack-subterm}
use Rattle.plans.proofs.Start.{subterm-prefix}
use Rattle.laws.specs.Laws.{highest_law, laws, law_at, rewrite, fit, first_choice, choices}
use Rattle.laws.specs.Step.{step}
use Rattle.rewritings.specs.Roots.{first_law}
use Rattle.plans.proofs.Standing.{height, Stands, stands-subterm, stands-start, words_some}
use Rattle.rewritings.specs.Choice.{next_step}
use Rattle.rewritings.proofs.Choosing.{none_fits, fits_none}
use Rattle.rewritings.proofs.Prefixes.{first-term, put_last, no_fit, scan_on, scan_found}

-- words that are read alone are read the same with terms waiting under them: reading never touches those
push-under : (k : Word) (s r S : List Term) → push k s ≡ some r → push k (s ++ S) ≡ some (r ++ S)
unfolding push
push-under (Action a) s r S e = ap (λ l. some (l ++ S)) (some-injective _ _ e)
push-under (One o) [] r S e = never e
push-under (One o) (x ∷ s) r S e = ap (λ l. some (l ++ S)) (some-injective _ _ e)
push-under (Two o) [] r S e = never e
push-under (Two o) (y ∷ []) r S e = never e
push-under (Two o) (y ∷ (x ∷ s)) r S e = ap (λ l. some (l ++ S)) (some-injective _ _ e)
push-under NoWord s r S e = never e

read_under : (n : ℕ) (ws : List ℕ) (s r S : List Term) → read n ws s ≡ some r → read n ws (s ++ S) ≡ some (r ++ S)
unfolding read
read_under n [] s r S e = ap (λ l. some (l ++ S)) (some-injective _ _ e)
read_under n (w ∷ ws) s r S e =
    let c = and_then_some (push (word_of n w) s) _ e in
    rw (push-under (word_of n w) s c.0 S c.1) (read_under n ws c.0 r S c.2)

-- a sign takes the last terms that wait
pub sign-one : (o : Unary) (x : Term) (S : List Term) → spell (x ∷ S) ++ (unary_word o ∷ []) ≡ spell (un o x ∷ S)
unfolding spell words
sign-one o x S = append_assoc (spell S) (words x) (unary_word o ∷ [])

pub sign-two : (o : Binary) (x y : Term) (S : List Term) → spell (y ∷ (x ∷ S)) ++ (binary_word o ∷ []) ≡ spell (bin o x y ∷ S)
unfolding spell words
sign-two o x y S = simp append_assoc

-- the subterms of the last term are the same with or without the terms that wait before it
module _ (n : ℕ) (few : n ≤ 31) (S : List Term) (u : Term) (over : OverAll n (u ∷ S)) where
  -- terms wait at each word of a term's own, one at least
  waits : (q : ℕ) → q < length (words u) → (x : Term) × (r : List Term) × (read n (take (suc q) (words u)) [] ≡ some (x ∷ r))
  unfolding spell
  waits q h =
      let c = stack_at n (words u) u (term_words n few u over.0) (suc q) in
      go c.0 c.1
    where
      go : (s : List Term) → read n (take (suc q) (words u)) [] ≡ some s → (x : Term) × (r : List Term) × (read n (take (suc q) (words u)) [] ≡ some (x ∷ r))
      go [] e =
          let l = ap length (read-said n (take (suc q) (words u)) [] [] tt e).0 in
          absurd (omega (arith, l, length-take-le (suc q) (words u) h))
      go (x ∷ r) e = (x, r, e)

  pub subterm_shift : (q : ℕ) → q < length (words u) → subterm n (spell S ++ words u) (length (spell S) + q) ≡ subterm n (words u) q
  subterm_shift q h =
      let c = waits q h in
      stack-subterm n (spell S ++ words u) (length (spell S) + q) c.0 (c.1 ++ S) (omega (arith, length-append (spell S) (words u))) (reads c.0 c.1 c.2)
      ∙ sym (stack-subterm n (words u) q c.0 c.1 h c.2)
    where
      reads : (x : Term) (r : List Term) → read n (take (suc q) (words u)) [] ≡ some (x ∷ r)
          → read n (take (suc (length (spell S) + q)) (spell S ++ words u)) [] ≡ some (x ∷ (r ++ S))
      reads x r e =
          let l : suc (length (spell S) + q) ≡ length (spell S) + suc q = omega arith in
          rw (l, take-append-add (spell S) (words u) (suc q))
          (read-on n (spell S) (take (suc q) (words u)) [] S (read-spell n few S over.1) ∙ read_under n (take (suc q) (words u)) [] (x ∷ r) S e)

-- whether a law fits at a place goes by the subterm there alone
same_fit : (t : Tables) (k p q : ℕ) (v w : List ℕ) → subterm (actions t) v p ≡ subterm (actions t) w q → step t k q w ≡ none → step t k p v ≡ none
same_fit t k p q v w e h = (no_fit t k p v).1 (rw e ((no_fit t k q w).0 h))

-- no left side of laws 5 to 32 is a lone action
pub action-no_law : (t : Tables) (a : ℕ) → first_law t first_choice choices (act a) ≡ none
unfolding first_law rewrite law_at laws fit
action-no_law t a = refl

module _ (t : Tables) (few : actions t ≤ 31) where
  -- no law fits within a term put behind others, if none fits within the term alone and none within the others
  pub quiet-push : (S : List Term) (u : Term) → OverAll (actions t) S → Over (actions t) u → next_step t (spell S) ≡ none → next_step t (words u) ≡ none
      → next_step t (spell (u ∷ S)) ≡ none
  unfolding spell
  quiet-push S u f g e i = fits_none t (spell S ++ words u) (λ p k h l m. go p k h l m (ltb p (length (spell S))) refl)
    where
      behind : (p k q : ℕ) → p ≡ length (spell S) + q → q < length (words u) → first_choice ≤ k → k ≤ highest_law → step t k p (spell S ++ words u) ≡ none
      behind p k q z h l m =
          same_fit t k p q (spell S ++ words u) (words u) (rw z (subterm_shift (actions t) few S u (g, f) q h)) (none_fits t (words u) i q k h l m)

      go : (p k : ℕ) → p < length (spell S ++ words u) → first_choice ≤ k → k ≤ highest_law → (b : Bool) → ltb p (length (spell S)) ≡ b → step t k p (spell S ++ words u) ≡ none
      go p k h l m true z =
          let y = ltb-true p (length (spell S)) z in
          same_fit t k p p (spell S ++ words u) (spell S) (subterm-prefix (actions t) (spell S) (words u) p y) (none_fits t (spell S) e p k y l m)
      go p k h l m false z =
          let y = ltb-false p (length (spell S)) z in
          behind p k (p - length (spell S)) (omega arith) (omega (arith, length-append (spell S) (words u))) l m

  -- nor within the last of terms within which none fits
  pub quiet-last : (S : List Term) (u : Term) → OverAll (actions t) S → Over (actions t) u → next_step t (spell (u ∷ S)) ≡ none → next_step t (words u) ≡ none
  unfolding spell
  quiet-last S u f g e = fits_none t (words u) within
    where
      within : (q k : ℕ) → q < length (words u) → first_choice ≤ k → k ≤ highest_law → step t k q (words u) ≡ none
      within q k h l m =
          same_fit t k q (length (spell S) + q) (words u) (spell S ++ words u) (sym (subterm_shift (actions t) few S u (g, f) q h))
          (none_fits t (spell S ++ words u) e (length (spell S) + q) k (omega (arith, length-append (spell S) (words u))) l m)

  -- the last of the terms that wait, and the lowest law that fits it
  module _ (S : List Term) (u : Term) (over : OverAll (actions t) (u ∷ S)) where
    stands : Stands (actions t) (spell (u ∷ S)) (u ∷ S)
    stands = record { over = over; rest = []; split = sym (append-nil (spell (u ∷ S))) }

    at_last : height (u ∷ S) ≡ suc (length (spell (u ∷ S)) - 1)
    unfolding height spell
    at_last = omega (arith, length-append (spell S) (words u), words_some u)

    pub top_chosen : first-term t (actions t) (spell (u ∷ S)) ≡ first_law t first_choice choices u
    unfolding first-term
    top_chosen = rw (stands-subterm (actions t) few (spell (u ∷ S)) u S (length (spell (u ∷ S)) - 1) stands at_last) refl

    put-top : (suf v : List ℕ) → put_last (actions t) (spell (u ∷ S)) suf v ≡ spell S ++ (v ++ suf)
    unfolding height spell
    put-top suf v =
        rw (stands-start (actions t) few (spell (u ∷ S)) u S (length (spell (u ∷ S)) - 1) stands at_last)
        (ap (λ l. l ++ (v ++ suf)) (take-append_seam (spell S) (words u)))

    -- a word w more is read, and the last of the terms that wait is then u
    module _ (pre : List ℕ) (w : ℕ) (reads : pre ++ (w ∷ []) ≡ spell (u ∷ S)) (quiet : next_step t pre ≡ none) where
      pub next_none : first_law t first_choice choices u ≡ none → next_step t (spell (u ∷ S)) ≡ none
      next_none e = rw reads at (scan_on t pre w quiet (rw reads (top_chosen ∙ e)))

      pub next_found : (k : ℕ) (v : Term) → first_law t first_choice choices u ≡ some (k, v) → (suf : List ℕ)
          → next_step t (spell (u ∷ S) ++ suf) ≡ some (record { law = k; place = length pre; plan = spell S ++ (words v ++ suf) })
      next_found k v e suf = rw (reads, put-top suf (words v)) at (scan_found t pre w quiet suf k v (rw reads (top_chosen ∙ e)))

  -- an action alone is quiet: nothing is read before it, and no law fits it
  pub quiet-action : (a : ℕ) → a ≤ actions t → next_step t (a ∷ []) ≡ none
  unfolding spell words next_step
  quiet-action a h = next_none [] (act a) (h, tt) [] a refl refl (action-no_law t a)

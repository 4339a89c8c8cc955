-- The terms that wait at a place of a plan, and where they stand in its words.
use Prim.Native.Nat.{ℕ, suc, ◌+◌, ◌-◌, ◌≤◌}
use mathlib.Core.Path.{◌≡◌, refl, sym, ◌∙◌}
use mathlib.Core.List.{List, [], ◌∷◌, ◌++◌, append_assoc}
use mathlib.Core.Option.{some}
use native.Mathlib.Omega.{arith}
use lib.ListN.{length, get_or, length-append, take, drop, take-append-drop}
use lib.Seq.{length-take-le, take-append_seam, drop-append_seam, take_at, get_or_at}
use borrow.Author.Tests.{lt-ltb}
use Rattle.plans.specs.Word.{binary_word, unary_word}
use Rattle.plans.specs.Term.{Term, act, un, bin, words, read}
use Rattle.plans.specs.Place.{subterm, part}
use Rattle.plans.specs.Stack.{spell}
use Rattle.plans.proofs.Reading.{OverAll, read-spell, read-said}
use Rattle.plans.specs.Start.{start_of}
use Rattle.plans.specs.Place.{part}

-- how many words the terms that wait have
unfoldable pub height : List Term → ℕ
height s = length (spell s)

-- terms whose words stand at the front of a plan
pub record Stands (n : ℕ) (plan : List ℕ) (s : List Term) : Type 0 where
  pub over : OverAll n s
  pub rest : List ℕ
  pub split : plan ≡ spell s ++ rest

pub words_some : (u : Term) → 1 ≤ length (words u)
unfolding words
words_some (act a) = omega arith
words_some (un o x) = rw (length-append (words x) (unary_word o ∷ [])) (omega arith)
words_some (bin o x y) = rw (length-append (words x) (words y ++ (binary_word o ∷ []))) (omega (arith, words_some x))

pub height_none : height [] ≡ 0
unfolding height spell
height_none = refl

pub height_cons : (u : Term) (s : List Term) → height (u ∷ s) ≡ height s + length (words u)
unfolding height spell
height_cons u s = length-append (spell s) (words u)

module _ (n : ℕ) (few : n ≤ 31) (plan : List ℕ) where
  pub stands_read : (s : List Term) → Stands n plan s → read n (take (height s) plan) [] ≡ some s
  unfolding height
  stands_read s h = rw (h.split, take-append_seam (spell s) h.rest) (read-spell n few s h.over)

  pub stands-height : (s : List Term) → Stands n plan s → height s ≤ length plan
  unfolding height
  stands-height s h = rw (h.split, length-append (spell s) h.rest) (omega arith)

  pub stands_pop : (u : Term) (s : List Term) → Stands n plan (u ∷ s) → Stands n plan s
  unfolding spell
  stands_pop u s h = record { over = h.over.1; rest = words u ++ h.rest; split = h.split ∙ append_assoc (spell s) (words u) h.rest }

  -- the last of the terms that wait is the subplan there
  module _ (u : Term) (s : List Term) (p : ℕ) (h : Stands n plan (u ∷ s)) (e : height (u ∷ s) ≡ suc p) where
    pub stands-subterm : subterm n plan p ≡ some u
    unfolding subterm
    stands-subterm =
        let l = lt-ltb p (length plan) (omega (arith, stands-height (u ∷ s) h)) in
        rw (l, ← e, stands_read (u ∷ s) h) refl

    pub stands-start : start_of n plan p ≡ height s
    unfolding start_of
    stands-start = rw stands-subterm (omega (arith, height_cons u s))

  pub read-stands : (i : ℕ) (s : List Term) → i ≤ length plan → read n (take i plan) [] ≡ some s → Stands n plan s × (height s ≡ i)
  unfolding height spell
  read-stands i s l e =
      let k = read-said n (take i plan) [] s tt e in
      (record { over = k.1; rest = drop i plan; split = sym (rw k.0 (take-append-drop i plan)) }, rw k.0 (length-take-le i plan l))

-- a term's last word, and the terms that wait before it
abbrev pub last : Term → ℕ
last (act a) = a
last (un o x) = unary_word o
last (bin o x y) = binary_word o

abbrev pub parts : Term → List Term → List Term
parts (act a) s = s
parts (un o x) s = x ∷ s
parts (bin o x y) s = y ∷ (x ∷ s)

spell_last : (t : Term) (s : List Term) → spell (t ∷ s) ≡ spell (parts t s) ++ (last t ∷ [])
unfolding spell words
spell_last (act a) s = refl
spell_last (un o x) s = sym (append_assoc (spell s) (words x) (unary_word o ∷ []))
spell_last (bin o x y) s = simp append_assoc

pub height-parts : (t : Term) (s : List Term) → height (t ∷ s) ≡ suc (height (parts t s))
unfolding height
height-parts t s = rw (spell_last t s, length-append (spell (parts t s)) (last t ∷ [])) (omega arith)

over-parts : (n : ℕ) (t : Term) (s : List Term) → OverAll n (t ∷ s) → OverAll n (parts t s)
over-parts n (act a) s k = k.1
over-parts n (un o x) s k = (k.0.1, k.1)
over-parts n (bin o x y) s k = (k.0.1, (k.0.0, k.1))

part_mid : (a b c : List ℕ) → part (length a) (length (a ++ b)) ((a ++ b) ++ c) ≡ b
part_mid a b c =
    rw (append_assoc a b c, drop-append_seam a (b ++ c), length-append a b) (take_at b c (length a + length b - length a) (omega arith))

module _ (n : ℕ) (few : n ≤ 31) (plan : List ℕ) where
  pub stands_parts : (t : Term) (s : List Term) → Stands n plan (t ∷ s) → Stands n plan (parts t s)
  stands_parts t s h =
      record {
        over = over-parts n t s h.over;
        rest = last t ∷ h.rest;
        split = h.split ∙ rw (spell_last t s) (append_assoc (spell (parts t s)) (last t ∷ []) h.rest);
      }

  pub stands-last : (t : Term) (s : List Term) → Stands n plan (t ∷ s) → get_or plan (height (t ∷ s) - 1) 0 ≡ last t
  unfolding height stands_parts
  stands-last t s h =
      rw ((stands_parts t s h).split, height-parts t s) (get_or_at (spell (parts t s)) (last t) h.rest 0 (suc (height (parts t s)) - 1) (omega arith))

  pub part-term : (t : Term) (s : List Term) → Stands n plan (t ∷ s) → part (height s) (height (t ∷ s)) plan ≡ words t
  unfolding height spell
  part-term t s h = rw h.split (part_mid (spell s) (words t) h.rest)

  pub part-last : (t : Term) (s : List Term) → Stands n plan (t ∷ s) → part (height (parts t s)) (height (t ∷ s)) plan ≡ last t ∷ []
  unfolding height
  part-last t s h = rw (h.split, spell_last t s) (part_mid (spell (parts t s)) (last t ∷ []) h.rest)

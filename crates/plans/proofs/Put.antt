-- A subplan replaced by another, and back: the second stands where the first one's end has moved to.
use Prim.Native.Nat.{ℕ, suc, pred, ◌+◌, ◌-◌, ◌≤◌, ◌<◌}
use native.Mathlib.Omega.{arith}
use mathlib.Core.Path.{◌≡◌, ap, sym, ◌∙◌}
use mathlib.Core.List.{List, [], ◌++◌, append_assoc, append-nil}
use mathlib.Core.Option.{some}
use lib.ListN.{length, take, drop, length-append, length-drop, take-append-drop}
use lib.Seq.{take_at, drop_at, length-take-le}
use Rattle.plans.specs.Term.{Term, words, Over}
use Rattle.plans.specs.Place.{subterm, put}
use Rattle.plans.specs.Stack.{spell}
use Rattle.plans.proofs.Reading.{OverAll, read-on, read-words, read-spell}
use Rattle.plans.proofs.Place.{subterm-stack, stack-subterm, cut}
use Rattle.plans.proofs.Accepted.{words_some}

module _ (n : ℕ) (few : n ≤ 31) where
  -- a plan made of the words of terms that wait, the words of v, which end at place q, and a rest
  module _ (s : List Term) (v : Term) (rest next : List ℕ) (q : ℕ) (waits : OverAll n s) (over : Over n v)
      (laid : next ≡ spell s ++ (words v ++ rest)) (ends : suc q ≡ length (spell s) + length (words v)) where
    laid_left : next ≡ (spell s ++ words v) ++ rest
    laid_left = laid ∙ sym (append_assoc (spell s) (words v) rest)

    up_to : length (spell s ++ words v) ≡ suc q
    up_to = length-append (spell s) (words v) ∙ sym ends

    pub laid_subterm : subterm n next q ≡ some v
    laid_subterm =
        let inside : q < length next = omega (arith, ap length laid_left, length-append (spell s ++ words v) rest, up_to) in
        stack-subterm n next q v s inside
        (rw (laid_left, take_at (spell s ++ words v) rest (suc q) up_to)
        (read-on n (spell s) (words v) [] s (read-spell n few s waits) ∙ read-words n few v s over))

    pub laid_put : (x : List ℕ) → put next q (length (words v)) x ≡ spell s ++ (x ++ rest)
    laid_put x =
        let f : take (suc q - length (words v)) next ≡ spell s = rw laid (take_at (spell s) (words v ++ rest) (suc q - length (words v)) (omega arith)) in
        let g : drop (suc q) next ≡ rest = rw laid_left (drop_at (spell s ++ words v) rest (suc q) up_to) in
        rw (f, g)

  -- a whole plan
  module _ (v : Term) (over : Over n v) where
    last-place : suc (pred (length (words v))) ≡ length (words v)
    last-place = omega (arith, words_some v)

    pub whole-subterm : subterm n (words v) (pred (length (words v))) ≡ some v
    unfolding spell
    whole-subterm = laid_subterm [] v [] (words v) (pred (length (words v))) tt over (sym (append-nil (words v))) (omega (arith, last-place))

    pub whole-put : (x : List ℕ) → put (words v) (pred (length (words v))) (length (words v)) x ≡ x
    unfolding spell
    whole-put x = laid_put [] v [] (words v) (pred (length (words v))) tt over (sym (append-nil (words v))) (omega (arith, last-place)) x ∙ append-nil x

  -- the plan w with the subplan u at place p replaced by v: v stands at the place to which the end of u has moved, and u put back there gives w
  module _ (w : List ℕ) (p : ℕ) (u v : Term) (there : subterm n w p ≡ some u) (over : Over n v) where
    abbrev next : List ℕ
    next = put w p (length (words u)) (words v)

    abbrev moved : ℕ
    moved = (p + length next) - length w

    pub swapped : (subterm n next moved ≡ some v) × (put next moved (length (words v)) (words u) ≡ w)
    unfolding spell
    swapped =
        let c = subterm-stack n w p u there in
        let s = c.1.0 in
        let k = cut n w p u s c.0 c.1.1 in
        let rest = drop (suc p) w in
        let front : length (spell s) + length (words u) ≡ suc p = omega (arith, simp length-append at (ap length k.0), length-take-le (suc p) w c.0) in
        let laid : next ≡ spell s ++ (words v ++ rest) = ap (λ (l : List ℕ). l ++ (words v ++ rest)) k.2 in
        let long : length next ≡ length (spell s) + (length (words v) + length rest) = ap length laid ∙ simp length-append in
        let size : length next + length (words u) ≡ length w + length (words v) = omega (arith, length-drop (suc p) w, c.0) in
        let ends : suc moved ≡ length (spell s) + length (words v) = omega (arith, words_some v) in
        let again : spell s ++ (words u ++ rest) ≡ w = sym (append_assoc (spell s) (words u) rest) ∙ (ap (λ (l : List ℕ). l ++ rest) k.0 ∙ take-append-drop (suc p) w) in
        (laid_subterm s v rest next _ k.1.1 over laid ends, laid_put s v rest next _ k.1.1 over laid ends (words u) ∙ again)

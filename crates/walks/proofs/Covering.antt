-- One pass over the words finds exactly what the message leads to from the marked subplans.
use Prim.Native.Nat.{ℕ, suc, ◌+◌, ◌-◌, ◌≤◌, ◌<◌}
use native.Mathlib.Numerals.{add-one}
use native.Mathlib.Omega.{arith}
use mathlib.Core.Path.{◌≡◌, refl, ap, sym, ◌∙◌, subst}
use mathlib.Core.Bool.{Bool, true, false, cond}
use mathlib.Core.List.{List}
use mathlib.Core.Logic.{◌⊎◌, inl, inr}
use mathlib.Core.Option.{Option, none, some}
use lib.Dec.{eqb}
use lib.ListN.{length, get_or, set, length-set}
use lib.Seq.{get_or-set_same, get_or-set_other}
use borrow.Author.Tests.{ne_eqb, eqb-true, eqb-false, ltb-true, ltb-false}
use Rattle.plans.specs.declared.Binary.{Binary}
use Rattle.plans.specs.declared.Binary.TheVariants.{Choice, Sequence}
use Rattle.plans.specs.Word.{binary_word}
use Rattle.plans.specs.Term.{Term, act, bin, words}
use Rattle.plans.specs.Basic.{Basic, dead_stop, sum_plan, SumPlan, action, prefix, sum}
use Rattle.plans.proofs.Accepted.{words_some}
use Rattle.paths.specs.Subplans.{place_of, Target, at_finish, subplan, Transition, ends, goes, left, right}
use Rattle.paths.specs.Operands.{first_operand}
use Rattle.walks.specs.Progress.{Marked}
use Rattle.walks.specs.Pass.{marked?, Pass, turn, pass}
use Rattle.paths.proofs.Parts.{Part, whole, first, second, part-inside, part-last}
use Rattle.paths.proofs.Standing.{Standing, size-bin, standing_inside, standing_action, standing_first, standing_second, standing_sign, standing_operand}

-- the place of what a message leads to; a finish has none
abbrev pub target_place : Target → Option ℕ
target_place at_finish = none
target_place (subplan s u) = some (place_of s u)

-- what a pass has found so far: at a place, or a finish
abbrev pub Seen : Pass → Option ℕ → Type 0
Seen p none = p.ending ≡ true
Seen p (some q) = Marked p.next q

-- the message leads there from a marked subplan of u
abbrev pub Goes : ℕ → List ℕ → ℕ → Term → Option ℕ → Type 0
Goes m now s u o = (r : ℕ) × (v : Term) × (g : Target) × Part s u r v × Marked now (place_of r v) × Transition m r v g × (target_place g ≡ o)

-- a stretch of the pass, over the words of u, adds what the message leads to from the marked subplans of u
pub record Covered (m : ℕ) (s : ℕ) (u : Term) (p p' : Pass) : Type 0 where
  pub low : (k : ℕ) → k < s → get_or p'.left k 0 ≡ get_or p.left k 0
  pub left-length : length p'.left ≡ length p.left
  pub next-length : length p'.next ≡ length p.next
  pub sound : (o : Option ℕ) → Seen p' o → Seen p o ⊎ Goes m p.left s u o
  pub kept : (o : Option ℕ) → Seen p o → Seen p' o
  pub made : (o : Option ℕ) → Goes m p.left s u o → Seen p' o

-- the turn at the last word of x o y, before the stretches of y and x
record Top (m s : ℕ) (o : Binary) (x y : Term) (p p' : Pass) : Type 0 where
  low : (k : ℕ) → k < s → get_or p'.left k 0 ≡ get_or p.left k 0
  left-length : length p'.left ≡ length p.left
  next-length : length p'.next ≡ length p.next
  sound : (g : Option ℕ) → Seen p' g → Seen p g ⊎ Goes m p.left s (bin o x y) g
  kept : (g : Option ℕ) → Seen p g → Seen p' g
  to-first : (g : Option ℕ) → Goes m p'.left s x g → Goes m p.left s (bin o x y) g
  to-second : (g : Option ℕ) → Goes m p'.left (s + length (words x)) y g → Goes m p.left s (bin o x y) g
  made : (g : Option ℕ) → Goes m p.left s (bin o x y) g → Seen p' g ⊎ (Goes m p'.left s x g ⊎ Goes m p'.left (s + length (words x)) y g)

goes_same : {m s : ℕ} {u : Term} {g : Option ℕ} (now now' : List ℕ) → ((k : ℕ) → k < s + length (words u) → get_or now' k 0 ≡ get_or now k 0)
    → Goes m now s u g → Goes m now' s u g
goes_same now now' e (r, v, g, p, h, i, q) = let j = part-inside p in let d = e (place_of r v) (omega (arith, words_some v)) in (r, v, g, p, omega arith, i, q)

join : {m s : ℕ} {o : Binary} {x y : Term} {p p₁ p₂ p₃ : Pass} → Top m s o x y p p₁ → Covered m (s + length (words x)) y p₁ p₂ → Covered m s x p₂ p₃
    → Covered m s (bin o x y) p p₃
join {m} {s} {o} {x} {y} {p} {p₁} {p₂} {p₃} a b c =
    record {
      low = λ k h. c.low k h ∙ (b.low k (omega arith) ∙ a.low k h);
      left-length = c.left-length ∙ (b.left-length ∙ a.left-length);
      next-length = c.next-length ∙ (b.next-length ∙ a.next-length);
      sound = λ g h. sound_x g (c.sound g h);
      kept = λ g h. c.kept g (b.kept g (a.kept g h));
      made = λ g h. made g (a.made g h);
    }
  where
    sound_p : (g : Option ℕ) → Seen p₁ g ⊎ Goes m p₁.left (s + length (words x)) y g → Seen p g ⊎ Goes m p.left s (bin o x y) g
    sound_p g (inl h) = a.sound g h
    sound_p g (inr h) = inr (a.to-second g h)

    sound_x : (g : Option ℕ) → Seen p₂ g ⊎ Goes m p₂.left s x g → Seen p g ⊎ Goes m p.left s (bin o x y) g
    sound_x g (inl h) = sound_p g (b.sound g h)
    sound_x g (inr h) = inr (a.to-first g (goes_same p₂.left p₁.left (λ k l. sym (b.low k l)) h))

    made : (g : Option ℕ) → Seen p₁ g ⊎ (Goes m p₁.left s x g ⊎ Goes m p₁.left (s + length (words x)) y g) → Seen p₃ g
    made g (inl h) = c.kept g (b.kept g h)
    made g (inr (inl h)) = c.made g (goes_same p₁.left p₂.left b.low h)
    made g (inr (inr h)) = c.kept g (b.made g h)

-- a word that is not marked
nothing-whole : {m s a : ℕ} {g : Option ℕ} (now : List ℕ) → (Marked now (place_of s (act a)) → ⊥) → Goes m now s (act a) g → ⊥
nothing-whole now unmarked (r, v, g, whole, h, i, e) = unmarked h

-- what is led to from a part is led to from the whole
goes_first : {m s : ℕ} {o : Binary} {x y : Term} (marks : List ℕ) (g : Option ℕ) → Goes m marks s x g → Goes m marks s (bin o x y) g
goes_first marks g (r, v, h, i, j, k, e) = (r, v, h, first i, j, k, e)

goes-second : {m s : ℕ} {o : Binary} {x y : Term} (marks : List ℕ) (g : Option ℕ) → Goes m marks (s + length (words x)) y g → Goes m marks s (bin o x y) g
goes-second marks g (r, v, h, i, j, k, e) = (r, v, h, second i, j, k, e)

-- a turn that leaves everything, since nothing is led to from the whole
top_same : {m s : ℕ} {o : Binary} {x y : Term} (p : Pass) → ((h : Target) → Marked p.left (place_of s (bin o x y)) → Transition m s (bin o x y) h → ⊥) → Top m s o x y p p
top_same {m} {s} {o} {x} {y} p nothing =
    record {
      low = λ k h. refl;
      left-length = refl;
      next-length = refl;
      sound = λ g h. inl h;
      kept = λ g h. h;
      to-first = goes_first p.left;
      to-second = goes-second p.left;
      made = made;
    }
  where
    made : (g : Option ℕ) → Goes m p.left s (bin o x y) g → Seen p g ⊎ (Goes m p.left s x g ⊎ Goes m p.left (s + length (words x)) y g)
    made g (r, v, h, whole, j, k, e) = absurd (nothing h j k)
    made g (r, v, h, first i, j, k, e) = inr (inl (r, v, h, i, j, k, e))
    made g (r, v, h, second i, j, k, e) = inr (inr (r, v, h, i, j, k, e))

-- a list with two marks more
data SetAt (l : List ℕ) (i j : ℕ) (k : ℕ) : Type 0 where
  at_first : k ≡ i → SetAt l i j k
  at_second : k ≡ j → SetAt l i j k
  other : get_or (set (set l i 1) j 1) k 0 ≡ get_or l k 0 → SetAt l i j k

set_at : (l : List ℕ) (i j k : ℕ) → SetAt l i j k
set_at l i j k = go (eqb k j) refl (eqb k i) refl
  where
    go : (a : Bool) → eqb k j ≡ a → (b : Bool) → eqb k i ≡ b → SetAt l i j k
    go true e b f = at_second (eqb-true k j e)
    go false e true f = at_first (eqb-true k i f)
    go false e false f = other (get_or-set_other (set l i 1) j k 1 0 (eqb-false k j e) ∙ get_or-set_other l i k 1 0 (eqb-false k i f))

module _ (l : List ℕ) (i j : ℕ) (hi : i < length l) (hj : j < length l) where
  set-second : Marked (set (set l i 1) j 1) j
  set-second = rw (get_or-set_same (set l i 1) j 1 0 (omega (arith, length-set l i 1))) (omega arith)

  set_first : Marked (set (set l i 1) j 1) i
  set_first = go (eqb i j) refl
    where
      go : (b : Bool) → eqb i j ≡ b → Marked (set (set l i 1) j 1) i
      go true e = subst (λ k. Marked (set (set l i 1) j 1) k) (sym (eqb-true i j e)) set-second
      go false e = rw (get_or-set_other (set l i 1) j i 1 0 (eqb-false i j e), get_or-set_same l i 1 0 hi) (omega arith)

  set_grows : (k : ℕ) → Marked l k → Marked (set (set l i 1) j 1) k
  set_grows k h = go (set_at l i j k)
    where
      go : SetAt l i j k → Marked (set (set l i 1) j 1) k
      go (at_first e) = rw e set_first
      go (at_second e) = rw e set-second
      go (other e) = rw e h

-- a marked sum
abbrev handed-on : ℕ → Term → Term → Pass → Pass
handed-on s x y p = record { left = set (set p.left (place_of (s + length (words x)) y) 1) (place_of s x) 1; next = p.next; ending = p.ending }

module _ (m s : ℕ) (x y : Term) (p : Pass) (marked : Marked p.left (place_of s (bin Choice x y))) (room : s + length (words (bin Choice x y)) ≤ length p.left) where
  top-sum : Top m s Choice x y p (handed-on s x y p)
  top-sum =
      record {
        low = λ k h.
            get_or-set_other (set p.left (place_of (s + length (words x)) y) 1) (place_of s x) k 1 0 (λ e. omega (arith, words_some x))
            ∙ get_or-set_other p.left (place_of (s + length (words x)) y) k 1 0 (λ e. omega (arith, words_some x, words_some y));
        left-length = simp length-set;
        next-length = refl;
        sound = λ g h. inl (keep g h);
        kept = λ g h. keep' g h;
        to-first = to-first;
        to-second = to-second;
        made = made;
      }
    where
      keep : (g : Option ℕ) → Seen (handed-on s x y p) g → Seen p g
      keep none h = h
      keep (some q) h = h

      keep' : (g : Option ℕ) → Seen p g → Seen (handed-on s x y p) g
      keep' none h = h
      keep' (some q) h = h

      sx : place_of s x < length p.left
      sx = omega (arith, size-bin Choice x y, words_some x)

      sy : place_of (s + length (words x)) y < length p.left
      sy = omega (arith, size-bin Choice x y, words_some y)

      grow : (k : ℕ) → Marked p.left k → Marked (handed-on s x y p).left k
      grow = set_grows p.left (place_of (s + length (words x)) y) (place_of s x) sy sx

      to-first : (g : Option ℕ) → Goes m (handed-on s x y p).left s x g → Goes m p.left s (bin Choice x y) g
      to-first g (r, v, h, i, j, k, e) = go (set_at p.left (place_of (s + length (words x)) y) (place_of s x) (place_of r v))
        where
          go : SetAt p.left (place_of (s + length (words x)) y) (place_of s x) (place_of r v) → Goes m p.left s (bin Choice x y) g
          go (at_first q) = let l = part-inside i in absurd (omega (arith, words_some y, words_some v))
          go (at_second q) = (s, bin Choice x y, h, whole, marked, left (part-last i (λ r v. Transition m r v h) k q), e)
          go (other q) = (r, v, h, first i, rw q at j, k, e)

      to-second : (g : Option ℕ) → Goes m (handed-on s x y p).left (s + length (words x)) y g → Goes m p.left s (bin Choice x y) g
      to-second g (r, v, h, i, j, k, e) = go (set_at p.left (place_of (s + length (words x)) y) (place_of s x) (place_of r v))
        where
          go : SetAt p.left (place_of (s + length (words x)) y) (place_of s x) (place_of r v) → Goes m p.left s (bin Choice x y) g
          go (at_first q) = (s, bin Choice x y, h, whole, marked, right (part-last i (λ r v. Transition m r v h) k q), e)
          go (at_second q) = let l = part-inside i in absurd (omega (arith, words_some x, words_some v))
          go (other q) = (r, v, h, second i, rw q at j, k, e)

      made : (g : Option ℕ) → Goes m p.left s (bin Choice x y) g
          → Seen (handed-on s x y p) g ⊎ (Goes m (handed-on s x y p).left s x g ⊎ Goes m (handed-on s x y p).left (s + length (words x)) y g)
      made g (r, v, h, whole, j, left k, e) = inr (inl (s, x, h, whole, set-second p.left _ _ sy sx, k, e))
      made g (r, v, h, whole, j, right k, e) = inr (inr (s + length (words x), y, h, whole, set_first p.left _ _ sy sx, k, e))
      made g (r, v, h, first i, j, k, e) = inr (inl (r, v, h, i, grow _ j, k, e))
      made g (r, v, h, second i, j, k, e) = inr (inr (r, v, h, i, grow _ j, k, e))

-- a marked product whose first factor is the message
abbrev passed_on : ℕ → Pass → Pass
passed_on q p = record { left = p.left; next = set p.next q 1; ending = p.ending }

set-one : (l : List ℕ) (i k : ℕ) → Marked (set l i 1) k → (k ≡ i) ⊎ Marked l k
set-one l i k h = go (eqb k i) refl
  where
    go : (b : Bool) → eqb k i ≡ b → (k ≡ i) ⊎ Marked l k
    go true e = inl (eqb-true k i e)
    go false e = inr (rw (get_or-set_other l i k 1 0 (eqb-false k i e)) at h)

set-one_grows : (l : List ℕ) (i k : ℕ) → i < length l → Marked l k → Marked (set l i 1) k
set-one_grows l i k room h = go (eqb k i) refl
  where
    go : (b : Bool) → eqb k i ≡ b → Marked (set l i 1) k
    go true e = rw (eqb-true k i e, get_or-set_same l i 1 0 room) (omega arith)
    go false e = rw (get_or-set_other l i k 1 0 (eqb-false k i e)) h

product_target : {m s a : ℕ} {y : Term} {g : Target} → Transition m s (bin Sequence (act a) y) g → g ≡ subplan (suc s) y
product_target goes = refl

module _ (m s : ℕ) (y : Term) (p : Pass) (q : ℕ) (marked : Marked p.left (place_of s (bin Sequence (act m) y))) (here : place_of (suc s) y ≡ q) (room : q < length p.next) where
  top-product : Top m s Sequence (act m) y p (passed_on q p)
  top-product =
      record {
        low = λ k h. refl;
        left-length = refl;
        next-length = simp length-set;
        sound = sound;
        kept = kept;
        to-first = goes_first p.left;
        to-second = goes-second p.left;
        made = made;
      }
    where
      sound : (g : Option ℕ) → Seen (passed_on q p) g → Seen p g ⊎ Goes m p.left s (bin Sequence (act m) y) g
      sound none h = inl h
      sound (some k) h = go (set-one p.next q k h)
        where
          go : (k ≡ q) ⊎ Marked p.next k → Marked p.next k ⊎ Goes m p.left s (bin Sequence (act m) y) (some k)
          go (inl e) = inr (s, bin Sequence (act m) y, subplan (suc s) y, whole, marked, goes, ap some (here ∙ sym e))
          go (inr h) = inl h

      kept : (g : Option ℕ) → Seen p g → Seen (passed_on q p) g
      kept none h = h
      kept (some k) h = set-one_grows p.next q k room h

      there : (g : Option ℕ) → some (place_of (suc s) y) ≡ g → Seen (passed_on q p) g
      there g e = subst (Seen (passed_on q p)) e (rw (here, get_or-set_same p.next q 1 0 room) (omega arith))

      made : (g : Option ℕ) → Goes m p.left s (bin Sequence (act m) y) g
          → Seen (passed_on q p) g ⊎ (Goes m p.left s (act m) g ⊎ Goes m p.left (s + length (words (act m))) y g)
      made g (r, v, h, whole, j, k, e) = inl (there g (ap target_place (sym (product_target k)) ∙ e))
      made g (r, v, h, first i, j, k, e) = inr (inl (r, v, h, i, j, k, e))
      made g (r, v, h, second i, j, k, e) = inr (inr (r, v, h, i, j, k, e))

product_transition : {m s a : ℕ} {y : Term} {g : Target} → Transition m s (bin Sequence (act a) y) g → a ≡ m
product_transition goes = refl

action_transition : {m s a : ℕ} {g : Target} → Transition m s (act a) g → (0 < m) × (a ≡ m)
action_transition (ends h) = (h, refl)

action_target : {m s a : ℕ} {g : Target} → Transition m s (act a) g → g ≡ at_finish
action_target (ends h) = refl

-- a marked product with another first factor
top_other : {m s a : ℕ} {y : Term} (p : Pass) → (a ≡ m → ⊥) → Top m s Sequence (act a) y p p
top_other p differ = top_same p (λ h j k. differ (product_transition k))

-- an action
abbrev ended : Pass → Pass
ended p = record { left = p.left; next = p.next; ending = true }

covered_nothing : {m s a : ℕ} (p : Pass) → ((g : Option ℕ) → Goes m p.left s (act a) g → ⊥) → Covered m s (act a) p p
covered_nothing p no_way =
    record { low = λ k h. refl; left-length = refl; next-length = refl; sound = λ g h. inl h; kept = λ g h. h; made = λ g h. absurd (no_way g h) }

covered_ended : {m s : ℕ} (p : Pass) → 0 < m → Marked p.left (place_of s (act m)) → Covered m s (act m) p (ended p)
covered_ended {m} {s} p above_zero marked = record { low = λ k h. refl; left-length = refl; next-length = refl; sound = sound; kept = kept; made = made }
  where
    sound : (g : Option ℕ) → Seen (ended p) g → Seen p g ⊎ Goes m p.left s (act m) g
    sound none h = inr (s, act m, at_finish, whole, marked, ends above_zero, refl)
    sound (some k) h = inl h

    kept : (g : Option ℕ) → Seen p g → Seen (ended p) g
    kept none h = refl
    kept (some k) h = h

    at_end : (g : Option ℕ) → none ≡ g → Seen (ended p) g
    at_end g e = subst (Seen (ended p)) e refl

    made : (g : Option ℕ) → Goes m p.left s (act m) g → Seen (ended p) g
    made g (r, v, h, whole, j, k, e) = at_end g (ap target_place (sym (action_target k)) ∙ e)

no_transition : {m s a : ℕ} (now : List ℕ) (g : Option ℕ) → (a ≡ m → ⊥) → Goes m now s (act a) g → ⊥
no_transition now g differ (r, v, h, whole, j, k, e) = differ (action_transition k).1

-- the turns
module _ (n : ℕ) (plan : List ℕ) (m i : ℕ) (p : Pass) where
  not_marked : (marked? (get_or p.left i 0) ≡ false) → Marked p.left i → ⊥
  not_marked e h = let l = ltb-false 0 (get_or p.left i 0) e in omega arith

  turn_unmarked : marked? (get_or p.left i 0) ≡ false → turn n plan m i p ≡ p
  unfolding turn
  turn_unmarked e = rw e refl

  turn-sum : marked? (get_or p.left i 0) ≡ true → get_or plan i 0 ≡ 64
      → turn n plan m i p ≡ record { left = set (set p.left (i - 1) 1) (first_operand n plan i) 1; next = p.next; ending = p.ending }
  unfolding turn
  turn-sum e w = rw (e, w) refl

  turn-product : marked? (get_or p.left i 0) ≡ true → get_or plan i 0 ≡ 65
      → turn n plan m i p ≡ cond (eqb (get_or plan (first_operand n plan i) 0) m) (record { left = p.left; next = set p.next (i - 1) 1; ending = p.ending }) p
  unfolding turn
  turn-product e w = rw (e, w) refl

  turn-action : marked? (get_or p.left i 0) ≡ true → (a : ℕ) → a ≤ 31 → get_or plan i 0 ≡ a
      → turn n plan m i p ≡ cond (eqb a m) (record { left = p.left; next = p.next; ending = true }) p
  unfolding turn
  turn-action e a small w = rw (e, w, ne_eqb a 64 (λ q. omega arith), ne_eqb a 65 (λ q. omega arith)) refl

-- every stretch
module _ (n : ℕ) (few : n ≤ 31) (plan : List ℕ) (m : ℕ) (above_zero : 0 < m) where
  abbrev Covers : ℕ → Term → Pass → Type 0
  Covers s u p = (p' : Pass) × (pass n plan m (s + length (words u)) p ≡ pass n plan m s p') × Covered m s u p p'

  abbrev Fits : Pass → Type 0
  Fits p = (length p.left ≡ length plan) × (length p.next ≡ length plan)

  cover_action : {s a : ℕ} → a ≤ 31 → Standing n plan s (act a) → (p : Pass) → Covers s (act a) p
  unfolding pass words
  cover_action {s} {a} small k p = go (marked? (get_or p.left s 0)) refl (eqb a m) refl
    where
      here : place_of s (act a) ≡ s
      here = omega arith

      over : (p' : Pass) → turn n plan m s p ≡ p' → pass n plan m (s + 1) p ≡ pass n plan m s p'
      over p' e = rw (add-one s) (ap (pass n plan m s) e)

      go : (b : Bool) → marked? (get_or p.left s 0) ≡ b → (c : Bool) → eqb a m ≡ c → Covers s (act a) p
      go false e c f = (p, over p (turn_unmarked n plan m s p e), covered_nothing p (λ g. nothing-whole p.left (rw here (not_marked n plan m s p e))))
      go true e true f = (
        ended p,
        over (ended p) (rw (turn-action n plan m s p e a small (standing_action few k), f) refl),
        subst (λ c. Covered m s (act c) p (ended p)) (sym (eqb-true a m f)) (covered_ended p above_zero (rw here (ltb-true 0 (get_or p.left s 0) e))),
      )
      go true e false f = (p, over p (rw (turn-action n plan m s p e a small (standing_action few k), f) refl), covered_nothing p (λ g. no_transition p.left g (eqb-false a m f)))

  -- the top turn, then the stretches of both operands
  module _ {s : ℕ} {o : Binary} {x y : Term} (k : Standing n plan s (bin o x y)) (p : Pass) (fits : Fits p) where
    module _ {p₁ : Pass} (e : turn n plan m (place_of s (bin o x y)) p ≡ p₁) (top : Top m s o x y p p₁)
        (cover_y : (q : Pass) → Fits q → Covers (s + length (words x)) y q) (cover_x : (q : Pass) → Fits q → Covers s x q) where
      cover_both : Covers s (bin o x y) p
      unfolding pass
      cover_both =
          let b = cover_y p₁ (top.left-length ∙ fits.0, top.next-length ∙ fits.1) in
          let c = cover_x b.0 (b.2.left-length ∙ (top.left-length ∙ fits.0), b.2.next-length ∙ (top.next-length ∙ fits.1)) in
          (c.0, ap (λ j. pass n plan m j p) last ∙ (ap (pass n plan m (place_of s (bin o x y))) e ∙ (ap (λ j. pass n plan m j p₁) inner ∙ (b.1 ∙ c.1))), join top b.2 c.2)
        where
          last : s + length (words (bin o x y)) ≡ suc (place_of s (bin o x y))
          last = omega (arith, words_some (bin o x y))

          inner : place_of s (bin o x y) ≡ s + length (words x) + length (words y)
          inner = omega (arith, size-bin o x y)

    cover_unmarked : marked? (get_or p.left (place_of s (bin o x y)) 0) ≡ false
        → ((q : Pass) → Fits q → Covers (s + length (words x)) y q) → ((q : Pass) → Fits q → Covers s x q) → Covers s (bin o x y) p
    cover_unmarked e sy sx = cover_both (turn_unmarked n plan m (place_of s (bin o x y)) p e) (top_same p (λ h j k. not_marked n plan m (place_of s (bin o x y)) p e j)) sy sx

  cover_sum : {s : ℕ} {x y : Term} → Standing n plan s (bin Choice x y) → (p : Pass) → Fits p
      → ((q : Pass) → Fits q → Covers (s + length (words x)) y q) → ((q : Pass) → Fits q → Covers s x q) → Covers s (bin Choice x y) p
  unfolding binary_word
  cover_sum {s} {x} {y} k p fits sy sx = go (marked? (get_or p.left i 0)) refl
    where
      i : ℕ
      i = place_of s (bin Choice x y)

      just : i - 1 ≡ place_of (s + length (words x)) y
      just = omega (arith, size-bin Choice x y, words_some y)

      go : (b : Bool) → marked? (get_or p.left i 0) ≡ b → Covers s (bin Choice x y) p
      go false e = cover_unmarked k p fits e sy sx
      go true e =
          cover_both k p fits (turn-sum n plan m i p e (standing_sign few k) ∙ rw (standing_operand few k, just) refl)
          (top-sum m s x y p (ltb-true 0 (get_or p.left i 0) e) (omega (arith, standing_inside few k, fits.0))) sy sx

  cover_product : {s a : ℕ} {y : Term} → Standing n plan s (bin Sequence (act a) y) → (p : Pass) → Fits p
      → ((q : Pass) → Fits q → Covers (s + length (words (act a))) y q) → ((q : Pass) → Fits q → Covers s (act a) q) → Covers s (bin Sequence (act a) y) p
  unfolding binary_word words
  cover_product {s} {a} {y} k p fits sy sx = go (marked? (get_or p.left i 0)) refl (eqb a m) refl
    where
      i : ℕ
      i = place_of s (bin Sequence (act a) y)

      just : i - 1 ≡ place_of (suc s) y
      just = omega (arith, size-bin Sequence (act a) y, words_some y)

      one : s + 1 - 1 ≡ s
      one = omega arith

      factor : get_or plan (first_operand n plan i) 0 ≡ a
      factor = rw (standing_operand few k, one) (standing_action few (standing_first few k))

      go : (b : Bool) → marked? (get_or p.left i 0) ≡ b → (c : Bool) → eqb a m ≡ c → Covers s (bin Sequence (act a) y) p
      go false e c f = cover_unmarked k p fits e sy sx
      go true e true f =
          cover_both k p fits (turn-product n plan m i p e (standing_sign few k) ∙ rw (factor, f, just) refl)
          (subst (λ c. Top m s Sequence (act c) y p (passed_on (place_of (suc s) y) p)) (sym (eqb-true a m f))
          (top-product m s y p (place_of (suc s) y) (ltb-true 0 (get_or p.left i 0) e) refl
          (omega (arith, standing_inside few k, size-bin Sequence (act a) y, words_some y, fits.1)))) sy sx
      go true e false f =
          cover_both k p fits (turn-product n plan m i p e (standing_sign few k) ∙ rw (factor, f) refl) (top_other p (eqb-false a m f)) sy sx

  mutual
    pub cover : {u : Term} → Basic u → {s : ℕ} → Standing n plan s u → (p : Pass) → Fits p → Covers s u p
    cover dead_stop k p fits = cover_action (omega arith) k p
    cover (sum_plan b) k p fits = cover_sums b k p fits

    cover_sums : {u : Term} → SumPlan u → {s : ℕ} → Standing n plan s u → (p : Pass) → Fits p → Covers s u p
    cover_sums (action l) k p fits = cover_action (omega (arith, k.over)) k p
    cover_sums (prefix {a = a} {u = y} l b) k p fits =
        cover_product k p fits (λ q f. cover b (standing_second few k) q f) (λ q f. cover_action (omega (arith, k.over.0)) (standing_first few k) q)
    cover_sums (sum {u = x} {v = y} b c) k p fits =
        cover_sum k p fits (λ q f. cover_sums c (standing_second few k) q f) (λ q f. cover_sums b (standing_first few k) q f)

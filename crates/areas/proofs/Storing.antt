-- Words put into an area one part after another, and zeros behind them; the plan and the one before it as such parts; what a step leaves, and
-- that it can be stored.
use Prim.Native.Nat.{ℕ, ◌+◌, ◌-◌, ◌≤◌, min}
use native.Mathlib.Nat.{min-le_left, min-le_right}
use native.Mathlib.Omega.{arith}
use native.Mathlib.Numerals.{add-one}
use mathlib.Core.Path.{◌≡◌, refl, ap, sym, ◌∙◌, subst}
use mathlib.Core.Bool.{true, false, not}
use mathlib.Core.List.{List, [], ◌++◌, append_assoc}
use lib.ListN.{length, take, drop, replicate, length-append, length-take}
use lib.Seq.{take-add, take_at, take-take, drop_at, length-take-le}
use borrow.Author.Tests.{ne_eqb, eq-eqb}
use Rattle.areas.specs.declared.StepState.{StepState}
use Rattle.areas.specs.Area.{overwrite, Written, padded, most_words}
use Rattle.areas.specs.Reached.{capacity, even?, area_a, area_b}
use Rattle.areas.specs.Storing.{no_step, stepped, before, Undoable, Kept, Storable, Stored}
use Rattle.areas.proofs.Area.{take-overwrite, overwrite-length, overwrite_none, overwrite-two}

-- what stands behind a place, up to another
drop-take : (i j : ℕ) (l : List ℕ) → i ≤ j → j ≤ length l → drop i (take j l) ≡ take (j - i) (drop i l)
drop-take i j l h k =
    let e : i + (j - i) ≡ j = omega arith in
    ap (λ m. drop i (take m l)) (sym e)
    ∙ ap (drop i) (take-add i (j - i) l)
    ∙ drop_at (take i l) (take (j - i) (drop i l)) i (length-take-le i l (omega arith))

-- the first part fits where both do
pub first_fits : (v w : List ℕ) (m : ℕ) → length (v ++ w) ≤ m → length v ≤ m
first_fits v w m h = omega (arith, length-append v w)

-- d' is the area d with the words v at its front, and i the place behind them
pub record Filled (d v d' : List ℕ) (i : ℕ) : Type 0 where
  pub area : d' ≡ overwrite d 0 v
  pub place : i ≡ length v

pub filled_none : (d : List ℕ) → Filled d [] d 0
filled_none d = record { area = sym (overwrite_none d 0); place = refl }

module _ (d v d' : List ℕ) (i : ℕ) (f : Filled d v d' i) where
  filled_length : length v ≤ length d → length d' ≡ length d
  filled_length h = ap length f.area ∙ overwrite-length d 0 v (omega arith)

  pub filled_within : length v ≤ length d → i ≤ length d'
  filled_within h = omega (arith, f.place, filled_length h)

  pub filled_padded : length v ≤ length d → padded (take i d') (length d') ≡ padded v (length d)
  filled_padded h =
      let e : 0 + length v ≡ length v = omega arith in
      let a : take (length v) (overwrite d 0 v) ≡ v = rw e at (take-overwrite d 0 v (omega arith)) in
      rw (filled_length h, f.place, f.area, a) refl

  module _ (w : List ℕ) (room : length (v ++ w) ≤ length d) where
    pub filled_room : i + length w ≤ length d'
    filled_room = omega (arith, length-append v w, f.place, filled_length (omega (arith, length-append v w)))

    pub filled_more : (d'' : List ℕ) (j : ℕ) → d'' ≡ overwrite d' i w → j ≡ i + length w → Filled d (v ++ w) d'' j
    filled_more d'' j a b =
        let e : i ≡ 0 + length v = omega (arith, f.place) in
        record {
          area = a ∙ rw (e, f.area) (overwrite-two d 0 v w (omega (arith, length-append v w)));
          place = omega (arith, length-append v w, f.place);
        }

-- words copied in at the front, and words copied in behind those
pub filled_first : (d v : List ℕ) → length v ≤ length d → (d' : List ℕ) (i : ℕ) → Written d d' 0 v i → Filled d v d' i
filled_first d v h d' i p = filled_more d [] d 0 (filled_none d) v h d' i p.0 p.1

-- the three parts of the plan before, where a step was made
module _ (plan old : List ℕ) (size c : ℕ) (s : StepState) (long : size ≤ length plan) (u : Undoable s (take size plan) old c) where
  pub behind-within : s.at + s.new ≤ size
  behind-within = omega (arith, u.new_in, length-take-le size plan long)

  abbrev pub first_part : List ℕ
  first_part = take s.at plan

  abbrev pub second_part : List ℕ
  second_part = take s.old old

  abbrev pub third_part : List ℕ
  third_part = take (size - (s.at + s.new)) (drop (s.at + s.new) plan)

  before-parts : (s.steps ≡ 0 → ⊥) → (first_part ++ second_part) ++ third_part ≡ before s (take size plan) old
  unfolding before
  before-parts made =
      let i = s.at + s.new in
      rw (ne_eqb s.steps 0 made, take-take s.at size plan (omega (arith, behind-within)), drop-take i size plan behind-within long)
      (append_assoc first_part second_part (take (size - i) (drop i plan)))

  pub before_none : s.steps ≡ 0 → before s (take size plan) old ≡ []
  unfolding before
  before_none e = rw (eq-eqb s.steps 0 e) refl

-- the parts fit an area, and fill it one after another
module _ (plan old d : List ℕ) (size : ℕ) (s : StepState) (long : size ≤ length plan)
    (u : Undoable s (take size plan) old (length d)) (made : s.steps ≡ 0 → ⊥) where
  abbrev one : List ℕ
  one = first_part plan old size (length d) s long u

  abbrev two : List ℕ
  two = second_part plan old size (length d) s long u

  abbrev three : List ℕ
  three = third_part plan old size (length d) s long u

  all_fit : length ((one ++ two) ++ three) ≤ length d
  all_fit = rw (before-parts plan old size (length d) s long u made) u.before_fits

  two-fit : length (one ++ two) ≤ length d
  two-fit = first_fits (one ++ two) three (length d) all_fit

  pub one-fits : length one ≤ length d
  one-fits = first_fits one two (length d) two-fit

  module _ (d₁ : List ℕ) (i : ℕ) (p : Written d d₁ 0 one i) where
    first : Filled d one d₁ i
    first = filled_first d one one-fits d₁ i p

    pub second-room : i + length two ≤ length d₁
    second-room = filled_room d one d₁ i first two two-fit

    module _ (d₂ : List ℕ) (j : ℕ) (q : Written d₁ d₂ i two j) where
      second : Filled d (one ++ two) d₂ j
      second = filled_more d one d₁ i first two two-fit d₂ j q.0 q.1

      pub third-room : j + length three ≤ length d₂
      third-room = filled_room d (one ++ two) d₂ j second three all_fit

      module _ (d₃ : List ℕ) (k : ℕ) (r : Written d₂ d₃ j three k) where
        third : Filled d (before s (take size plan) old) d₃ k
        third =
            subst (λ w. Filled d w d₃ k) (before-parts plan old size (length d) s long u made)
            (filled_more d (one ++ two) d₂ j second three all_fit d₃ k r.0 r.1)

        pub third-within : k ≤ length d₃
        third-within = filled_within d (before s (take size plan) old) d₃ k third u.before_fits

        pub third-padded : padded (take k d₃) (length d₃) ≡ padded (before s (take size plan) old) (length d)
        third-padded = filled_padded d (before s (take size plan) old) d₃ k third u.before_fits

-- the plan stands at the front of its area, and so the one before it can be made from there
module _ (plan a : List ℕ) (size m : ℕ) (put : (a ≡ padded plan m) × (size ≡ length plan)) (fits : length plan ≤ m) where
  pub take_put : take size a ≡ plan
  unfolding padded
  take_put = rw (put.0, put.1) (take_at plan (replicate (m - length plan) 0) (length plan) refl)

  pub put-within : size ≤ length a
  unfolding padded
  put-within = rw (put.0, put.1, length-append plan (replicate (m - length plan) 0)) (omega arith)

  pub put-undoable : (s : StepState) (old : List ℕ) (b c : ℕ) → Undoable s plan old b → length (before s plan old) ≤ c → Undoable s (take size a) old c
  put-undoable s old b c u h =
      rw take_put (record { old_in = u.old_in; new_in = u.new_in; before_fits = h })

-- both areas, where the plan was put into one and the one before it into the other
module _ (a b a' b' plan old : List ℕ) (s : StepState) (size : ℕ) (is_size : size ≡ length plan) where
  pub stored_even : s.even ≡ true → a' ≡ padded plan (length a) → b' ≡ padded (before s plan old) (length b) → Stored a b a' b' s plan old size
  unfolding area_a area_b
  stored_even q e f = record {
    in_a = e ∙ sym (ap (λ p. area_a p plan (before s plan old) (length a)) q);
    in_b = f ∙ sym (ap (λ p. area_b p plan (before s plan old) (length b)) q);
    plan_size = is_size;
  }

  pub stored_odd : s.even ≡ false → b' ≡ padded plan (length b) → a' ≡ padded (before s plan old) (length a) → Stored a b a' b' s plan old size
  unfolding area_a area_b
  stored_odd q e f = record {
    in_a = f ∙ sym (ap (λ p. area_a p plan (before s plan old) (length a)) q);
    in_b = e ∙ sym (ap (λ p. area_b p plan (before s plan old) (length b)) q);
    plan_size = is_size;
  }

-- no step made of a plan of at most c words
pub kept_none : (c : ℕ) (plan old : List ℕ) → length plan ≤ c → Kept c plan old no_step
unfolding before even?
kept_none c plan old short =
    record { undoable = record { old_in = omega arith; new_in = omega arith; before_fits = omega arith }; short = short; parity = refl }

-- a step: the words `gone` behind v gave way to the words `side`, and `old` begins with the words gone
module _ (v gone side w old : List ℕ) (s : StepState) (at m n : ℕ)
    (is_at : length v ≡ at) (is_old : length gone ≡ m) (is_new : length side ≡ n) (kept : take m old ≡ gone) where
  pub before-step : before (stepped s at m n) (v ++ (side ++ w)) old ≡ v ++ (gone ++ w)
  unfolding before
  before-step =
      let a : take at (v ++ (side ++ w)) ≡ v = take_at v (side ++ w) at is_at in
      let b : drop (at + n) (v ++ (side ++ w)) ≡ w =
      rw (← append_assoc v side w) (drop_at (v ++ side) w (at + n) (rw (length-append v side, is_at, is_new) refl)) in
      rw (ne_eqb (s.steps + 1) 0 (λ e. omega arith), a, b, kept) refl

  gone_in : m ≤ length old
  gone_in = omega (arith, min-le_right m (length old), sym (length-take m old) ∙ ap length kept ∙ is_old)

  new_fits : at + n ≤ length (v ++ (side ++ w))
  new_fits = rw (length-append v (side ++ w), length-append side w, is_at, is_new) (omega arith)

  even_next : s.even ≡ even? s.steps → not s.even ≡ even? (s.steps + 1)
  unfolding even?
  even_next parity = rw (add-one s.steps, parity)

  pub kept_step : (c : ℕ) → length (v ++ (gone ++ w)) ≤ c → length (v ++ (side ++ w)) ≤ c → s.even ≡ even? s.steps
      → Kept c (v ++ (side ++ w)) old (stepped s at m n)
  kept_step c fits short parity =
      record { undoable = record { old_in = gone_in; new_in = new_fits; before_fits = rw before-step fits }; short = short; parity = even_next parity }

-- what both areas can hold
module _ (a b : List ℕ) where
  pub capacity-a : capacity a b ≤ length a
  unfolding capacity
  capacity-a = omega (arith, min-le_left (min (length a) (length b)) most_words, min-le_left (length a) (length b))

  pub capacity-b : capacity a b ≤ length b
  unfolding capacity
  capacity-b = omega (arith, min-le_left (min (length a) (length b)) most_words, min-le_right (length a) (length b))

  pub capacity-most : capacity a b ≤ most_words
  unfolding capacity
  capacity-most = min-le_right (min (length a) (length b)) most_words

  pub kept_storable : (c : ℕ) (plan old : List ℕ) (s : StepState) → c ≡ capacity a b → Kept c plan old s → Storable s plan old (length a) (length b)
  kept_storable c plan old s e k =
      record {
        undoable = record { old_in = k.undoable.old_in; new_in = k.undoable.new_in; before_fits = omega (arith, k.undoable.before_fits, e, capacity-most) };
        plan_in_a = omega (arith, k.short, e, capacity-a);
        plan_in_b = omega (arith, k.short, e, capacity-b);
        before_in_a = omega (arith, k.undoable.before_fits, e, capacity-a);
        before_in_b = omega (arith, k.undoable.before_fits, e, capacity-b);
      }

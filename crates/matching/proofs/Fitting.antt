-- A left side's words match a plan's exactly where the pattern fits the subplan: one induction over patterns.
use Prim.Native.Nat.{ℕ, ◌+◌, ◌-◌, ◌≤◌, ◌<◌}
use mathlib.Core.Path.{◌≡◌, refl, ◌∙◌, ap}
use mathlib.Core.Bool.{Bool, true, false, cond, ◌&&◌}
use mathlib.Core.List.{List, [], ◌∷◌, ◌++◌, append_assoc}
use mathlib.Core.Option.{Option, none, some}
use native.Mathlib.Omega.{arith}
use lib.ListN.{length, set, length-set}
use lib.Seq.{get_or-set_same, get_or-set_other}
use lib.Dec.{eqb, leb, ltb}
use borrow.Author.Tests.{ne_eqb, lt-ltb, le-ltb, le-leb, lt-leb, eqb-true, eqb-false, ltb-true, leb-true}
use Rattle.plans.specs.declared.Binary.{Binary}
use Rattle.plans.specs.declared.Unary.TheVariants.{Priority, Encapsulation}
use Rattle.plans.specs.Word.{binary_word, unary_word}
use Rattle.plans.specs.Term.{Term, act, un, bin, words, and_then}
use Rattle.plans.proofs.Words.{binary_range, unary_low}
use Rattle.laws.specs.Laws.{Pattern, any, any_action, δ, entry, node, θ, ∂, Binding, bind, number, fit}
use Rattle.matching.specs.Left.{back, next_of, slot_of, match_words, Matched}
use Rattle.plans.specs.Place.{part}
use Rattle.matching.specs.Check.{letter}
use Rattle.std.specs.Prelude.{Some, None}
use Rattle.laws.proofs.Tests.{and_left, and_right}
use Rattle.plans.proofs.Standing.{height, Stands, stands-start, stands_pop, last, parts, stands_parts, height-parts, stands-last, part-term, part-last}

-- where each kind of word leads
module _ (n : ℕ) (few : n ≤ 31) (plan : List ℕ) where
  module _ (t : Term) (s : List Term) (h : Stands n plan (t ∷ s)) where
    some_end : eqb (height (t ∷ s)) 0 ≡ false
    some_end = ne_eqb (height (t ∷ s)) 0 (λ e. omega (arith, height-parts t s))

    less_one : height (t ∷ s) - 1 ≡ height (parts t s)
    less_one = omega (arith, height-parts t s)

    next-sign : (w : ℕ) → w < 96 → next_of n plan w (height (t ∷ s)) ≡ cond (eqb (last t) w) (Some (height (parts t s))) None
    unfolding next_of
    next-sign w l = rw (some_end, lt-ltb w 96 l, stands-last n few plan t s h, less_one)

    next-any : (w : ℕ) → 96 ≤ w → w < 99 → next_of n plan w (height (t ∷ s)) ≡ Some (height s)
    unfolding next_of
    next-any w l u = rw (some_end, le-ltb w 96 l, lt-ltb w 99 u) (ap Some (stands-start n few plan t s (height (t ∷ s) - 1) h (omega (arith, height-parts t s))))

    next-action : (w : ℕ) → 99 ≤ w → w < 101 → next_of n plan w (height (t ∷ s)) ≡ cond (leb (last t) n) (Some (height (parts t s))) None
    unfolding next_of
    next-action w l u = rw (some_end, le-ltb w 96 (omega arith), le-ltb w 99 l, lt-ltb w 101 u, stands-last n few plan t s h, less_one)

    next-encapsulation : next_of n plan 101 (height (t ∷ s)) ≡ cond (ltb (last t) 80) None (cond (ltb (last t) 88) (Some (height (parts t s))) None)
    unfolding next_of
    next-encapsulation = rw (some_end, stands-last n few plan t s h, less_one)

-- What a letter stands for, in words; letter 5 is ∂'s set, shown by ∂'s byte.
abbrev pub shown : ℕ → Term → List ℕ
shown k t = cond (eqb k 5) ((80 + number t) ∷ []) (words t)

-- letters 3 to 5 are bound to actions, the last to stand for a set
abbrev pub Fine : ℕ → Term → Type 0
Fine k t = 3 ≤ k → t ≡ act (number t)

-- The letters of L reach over what they stand for.
pub record Rel (plan : List ℕ) (L : ℕ → Bool) (b : Binding) (f g : List ℕ) : Type 0 where
  pub from_long : length f ≡ 7
  pub to_long : length g ≡ 7
  pub reach : (k : ℕ) → k < 6 → L k ≡ true → letter plan f g k ≡ shown k (b k)
  pub fine : (k : ℕ) → k < 6 → L k ≡ true → Fine k (b k)

abbrev pub mark : (ℕ → Bool) → ℕ → ℕ → Bool
mark L k j = cond (eqb j k) true (L j)

-- the letters of a pattern, and those of L
unfoldable pub letters : Pattern → (ℕ → Bool) → ℕ → Bool
letters (any k) L = mark L k
letters (any_action k) L = mark L k
letters δ L = L
letters entry L = L
letters (node o p q) L = letters p (letters q L)
letters (θ p) L = letters p L
letters (∂ p) L = letters p (mark L 5)

-- letters 0 to 2 are terms, 3 and 4 actions, and there is no table entry
unfoldable pub plain : Pattern → Bool
plain (any k) = ltb k 3
plain (any_action k) = leb 3 k && ltb k 5
plain δ = true
plain entry = false
plain (node o p q) = plain p && plain q
plain (θ p) = plain p
plain (∂ p) = plain p

module _ (plan : List ℕ) (L : ℕ → Bool) (b : Binding) (f g : List ℕ) (r : Rel plan L b f g) where
  rel_bind : (k : ℕ) (t : Term) (s e : ℕ) → k < 6 → part s e plan ≡ shown k t → Fine k t → Rel plan (mark L k) (bind b k t) (set f k s) (set g k e)
  unfolding bind letter
  rel_bind k t s e l q v =
      record {
        from_long = length-set f k s ∙ r.from_long;
        to_long = length-set g k e ∙ r.to_long;
        reach = λ j m. go j m (eqb j k) refl;
        fine = λ j m. go' j m (eqb j k) refl;
      }
    where
      go' : (j : ℕ) → j < 6 → (c : Bool) → eqb j k ≡ c → cond c true (L j) ≡ true → Fine j (cond c t (b j))
      go' j m true i h = rw (eqb-true j k i) v
      go' j m false i h = r.fine j m h

      go : (j : ℕ) → j < 6 → (c : Bool) → eqb j k ≡ c → cond c true (L j) ≡ true → letter plan (set f k s) (set g k e) j ≡ shown j (cond c t (b j))
      go j m true i h =
          let jk : j ≡ k = eqb-true j k i in
          rw (jk, get_or-set_same f k s 0 (omega (arith, r.from_long)), get_or-set_same g k e 0 (omega (arith, r.to_long))) q
      go j m false i h =
          rw (get_or-set_other f k j s 0 (eqb-false j k i), get_or-set_other g k j e 0 (eqb-false j k i)) (r.reach j m h)

  rel_sign : (s e : ℕ) → Rel plan L b (set f 6 s) (set g 6 e)
  unfolding letter
  rel_sign s e =
      record {
        from_long = length-set f 6 s ∙ r.from_long;
        to_long = length-set g 6 e ∙ r.to_long;
        reach = λ j m h. rw (get_or-set_other f 6 j s 0 (λ q. omega arith), get_or-set_other g 6 j e 0 (λ q. omega arith)) (r.reach j m h);
        fine = r.fine;
      }

-- What matching a pattern's words comes to.
pub data Fitted (n : ℕ) (plan : List ℕ) (s : List Term) (rest : List ℕ) (L : ℕ → Bool) : Option Binding → Matched → Type 0 where
  no_fit : (m : Matched) → m.ok ≡ false → Fitted n plan s rest L none m
  fits : (b : Binding) (f g : List ℕ) → Rel plan L b f g → Fitted n plan s rest L (some b) (match_words n plan rest (height s) f g)

fine_term : (k : ℕ) → k < 3 → (t : Term) → Fine k t
fine_term k h t = λ l. absurd (omega arith)

slot_letter : (k : ℕ) → k < 6 → slot_of (96 + k) ≡ k
unfolding slot_of
slot_letter k h = rw (le-ltb (96 + k) 96 (omega arith), lt-ltb (96 + k) 102 (omega arith)) (omega arith)

slot_sign : (w : ℕ) → w < 96 → slot_of w ≡ 6
unfolding slot_of
slot_sign w h = rw (lt-ltb w 96 h)

module _ (n : ℕ) (few : n ≤ 31) (plan : List ℕ) where
  step-to : (w : ℕ) (ws : List ℕ) (e s k : ℕ) (f g : List ℕ) → next_of n plan w e ≡ Some s → slot_of w ≡ k
      → match_words n plan (w ∷ ws) e f g ≡ match_words n plan ws s (set f k s) (set g k e)
  unfolding match_words
  step-to w ws e s k f g q r = rw (q, r)

  step-fails : (w : ℕ) (ws : List ℕ) (e : ℕ) (f g : List ℕ) → next_of n plan w e ≡ None → (match_words n plan (w ∷ ws) e f g).ok ≡ false
  unfolding match_words
  step-fails w ws e f g q = rw q

  abbrev pub Fits : Pattern → Type 0
  Fits p =
      (t : Term) (s : List Term) (rest : List ℕ) (b : Binding) (f g : List ℕ) (L : ℕ → Bool) → Stands n plan (t ∷ s) → Rel plan L b f g
      → Fitted n plan s rest (letters p L) (fit p t b) (match_words n plan (back p ++ rest) (height (t ∷ s)) f g)

  fits-any : (k : ℕ) → k < 3 → Fits (any k)
  unfolding letters fit back
  fits-any k l t s rest b f g L h r =
      rw (step-to (96 + k) rest (height (t ∷ s)) (height s) k f g (next-any n few plan t s h (96 + k) (omega arith) (omega arith)) (slot_letter k (omega arith)))
      (fits _ _ _ (rel_bind plan L b f g r k t (height s) (height (t ∷ s)) (omega arith) (rw (ne_eqb k 5 (λ e. omega arith)) (part-term n few plan t s h)) (fine_term k l t)))

  -- a word that is not the pattern's
  other : (w : ℕ) (t : Term) (s : List Term) → Stands n plan (t ∷ s) → w < 96 → (last t ≡ w → ⊥) → next_of n plan w (height (t ∷ s)) ≡ None
  other w t s h l d = next-sign n few plan t s h w l ∙ rw (ne_eqb (last t) w d)

  fits-action : (k : ℕ) → 3 ≤ k → k < 5 → Fits (any_action k)
  unfolding letters fit back
  fits-action k l u (act c) s rest b f g L h r =
      rw (step-to (96 + k) rest (height (act c ∷ s)) (height s) k f g
      (next-action n few plan (act c) s h (96 + k) (omega arith) (omega arith) ∙ rw (le-leb c n h.over.0)) (slot_letter k (omega arith)))
      (fits _ _ _ (rel_bind plan L b f g r k (act c) (height s) (height (act c ∷ s)) (omega arith) (rw (ne_eqb k 5 (λ e. omega arith)) (part-term n few plan (act c) s h)) (λ l'. refl)))
  fits-action k l u (un o x) s rest b f g L h r =
      no_fit _ (step-fails (96 + k) rest (height (un o x ∷ s)) f g
      (next-action n few plan (un o x) s h (96 + k) (omega arith) (omega arith) ∙ rw (lt-leb (unary_word o) n (omega (arith, unary_low o)))))
  fits-action k l u (bin o x y) s rest b f g L h r =
      no_fit _ (step-fails (96 + k) rest (height (bin o x y ∷ s)) f g
      (next-action n few plan (bin o x y) s h (96 + k) (omega arith) (omega arith) ∙ rw (lt-leb (binary_word o) n (omega (arith, binary_range o)))))

  fits-δ : Fits δ
  unfolding letters fit back
  fits-δ (act c) s rest b f g L h r = go (eqb c 0) refl
    where
      go : (v : Bool) → eqb c 0 ≡ v → Fitted n plan s rest L (cond v (some b) none) (match_words n plan (0 ∷ rest) (height (act c ∷ s)) f g)
      go true e =
          rw (step-to 0 rest (height (act c ∷ s)) (height s) 6 f g (next-sign n few plan (act c) s h 0 (omega arith) ∙ rw e) (slot_sign 0 (omega arith)))
          (fits _ _ _ (rel_sign plan L b f g r (height s) (height (act c ∷ s))))
      go false e = no_fit _ (step-fails 0 rest (height (act c ∷ s)) f g (next-sign n few plan (act c) s h 0 (omega arith) ∙ rw e))
  fits-δ (un o x) s rest b f g L h r = no_fit _ (step-fails 0 rest _ f g (other 0 (un o x) s h (omega arith) (λ e. omega (arith, unary_low o))))
  fits-δ (bin o x y) s rest b f g L h r = no_fit _ (step-fails 0 rest _ f g (other 0 (bin o x y) s h (omega arith) (λ e. omega (arith, binary_range o))))

  fits-node : (o : Binary) (p q : Pattern) → Fits p → Fits q → Fits (node o p q)
  unfolding letters fit back
  fits-node o p q fp fq (act c) s rest b f g L h r =
      no_fit _ (step-fails (binary_word o) _ _ f g (other (binary_word o) (act c) s h (omega (arith, binary_range o)) (λ e. omega (arith, binary_range o, h.over.0))))
  fits-node o p q fp fq (un u x) s rest b f g L h r =
      no_fit _ (step-fails (binary_word o) _ _ f g (other (binary_word o) (un u x) s h (omega (arith, binary_range o)) (λ e. omega (arith, binary_range o, unary_low u))))
  fits-node o p q fp fq (bin o' x y) s rest b f g L h r = go (eqb (binary_word o') (binary_word o)) refl
    where
      low : binary_word o < 96
      low = omega (arith, binary_range o)

      then-left : {v : Option Binding} {m : Matched} → Fitted n plan (x ∷ s) (back p ++ rest) (letters q L) v m
          → Fitted n plan s rest (letters p (letters q L)) (and_then v (λ b'. fit p x b')) m
      then-left (no_fit m e) = no_fit m e
      then-left (fits b' f' g' r') = fp x s rest b' f' g' (letters q L) (stands_pop n few plan y (x ∷ s) (stands_parts n few plan (bin o' x y) s h)) r'

      go : (v : Bool) → eqb (binary_word o') (binary_word o) ≡ v
          → Fitted n plan s rest (letters p (letters q L)) (cond v (and_then (fit q y b) (λ b'. fit p x b')) none)
          (match_words n plan (binary_word o ∷ ((back q ++ back p) ++ rest)) (height (bin o' x y ∷ s)) f g)
      go true e =
          rw (
            append_assoc (back q) (back p) rest,
            step-to (binary_word o) (back q ++ (back p ++ rest)) (height (bin o' x y ∷ s)) (height (y ∷ (x ∷ s))) 6 f g
                (next-sign n few plan (bin o' x y) s h (binary_word o) low ∙ rw e) (slot_sign (binary_word o) low),
          )
          (then-left (fq y (x ∷ s) (back p ++ rest) b _ _ L (stands_parts n few plan (bin o' x y) s h) (rel_sign plan L b f g r _ _)))
      go false e = no_fit _ (step-fails (binary_word o) _ _ f g (next-sign n few plan (bin o' x y) s h (binary_word o) low ∙ rw e))

  fits-θ : (p : Pattern) → Fits p → Fits (θ p)
  unfolding letters fit back unary_word
  fits-θ p fp (act c) s rest b f g L h r = no_fit _ (step-fails 70 _ _ f g (other 70 (act c) s h (omega arith) (λ e. omega (arith, h.over.0))))
  fits-θ p fp (un Priority x) s rest b f g L h r =
      rw (step-to 70 (back p ++ rest) (height (un Priority x ∷ s)) (height (x ∷ s)) 6 f g (next-sign n few plan (un Priority x) s h 70 (omega arith)) (slot_sign 70 (omega arith)))
      (fp x s rest b _ _ L (stands_parts n few plan (un Priority x) s h) (rel_sign plan L b f g r _ _))
  fits-θ p fp (un (Encapsulation d) x) s rest b f g L h r = no_fit _ (step-fails 70 _ _ f g (other 70 (un (Encapsulation d) x) s h (omega arith) (λ e. omega arith)))
  fits-θ p fp (bin o x y) s rest b f g L h r = no_fit _ (step-fails 70 _ _ f g (other 70 (bin o x y) s h (omega arith) (λ e. omega (arith, binary_range o))))

  fits-∂ : (p : Pattern) → Fits p → Fits (∂ p)
  unfolding letters fit back unary_word
  fits-∂ p fp (act c) s rest b f g L h r =
      no_fit _ (step-fails 101 _ _ f g (next-encapsulation n few plan (act c) s h ∙ rw (lt-ltb c 80 (omega (arith, h.over.0)))))
  fits-∂ p fp (un Priority x) s rest b f g L h r = no_fit _ (step-fails 101 _ _ f g (next-encapsulation n few plan (un Priority x) s h))
  fits-∂ p fp (un (Encapsulation d) x) s rest b f g L h r =
      rw (step-to 101 (back p ++ rest) (height (un (Encapsulation d) x ∷ s)) (height (x ∷ s)) 5 f g
      (next-encapsulation n few plan (un (Encapsulation d) x) s h ∙ rw (le-ltb (80 + d) 80 (omega arith), lt-ltb (80 + d) 88 (omega (arith, h.over.0.0)))) (slot_letter 5 (omega arith)))
      (fp x s rest (bind b 5 (act d)) _ _ (mark L 5) (stands_parts n few plan (un (Encapsulation d) x) s h)
      (rel_bind plan L b f g r 5 (act d) (height (x ∷ s)) (height (un (Encapsulation d) x ∷ s)) (omega arith) (part-last n few plan (un (Encapsulation d) x) s h) (λ l. refl)))
  fits-∂ p fp (bin o x y) s rest b f g L h r =
      no_fit _ (step-fails 101 _ _ f g (next-encapsulation n few plan (bin o x y) s h ∙ rw (lt-ltb (binary_word o) 80 (omega (arith, binary_range o)))))

  pub fitted : (p : Pattern) → plain p ≡ true → Fits p
  unfolding plain
  fitted (any k) e = fits-any k (ltb-true k 3 e)
  fitted (any_action k) e = fits-action k (leb-true 3 k (and_left (leb 3 k) (ltb k 5) e)) (ltb-true k 5 (and_right (leb 3 k) (ltb k 5) e))
  fitted δ e = fits-δ
  fitted entry e = let q : ◌≡◌ {A = ℕ} 0 1 = cc in absurd (omega arith)
  fitted (node o p q) e = fits-node o p q (fitted p (and_left (plain p) (plain q) e)) (fitted q (and_right (plain p) (plain q) e))
  fitted (θ p) e = fits-θ p (fitted p e)
  fitted (∂ p) e = fits-∂ p (fitted p e)

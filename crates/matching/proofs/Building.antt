-- A right side's words, written out, are the words of the term that it builds.
use Prim.Native.Nat.{ℕ, ◌+◌, ◌-◌, ◌*◌, ◌≤◌, ◌<◌}
use mathlib.Core.Path.{◌≡◌, refl, sym, ◌∙◌, ap}
use mathlib.Core.Bool.{Bool, true, false, cond, ◌&&◌}
use mathlib.Core.List.{List, [], ◌∷◌, ◌++◌, append_assoc, append-nil}
use native.Mathlib.Omega.{arith}
use native.Mathlib.Numerals.{add-one}
use lib.ListN.{length, get_or, take, drop, length-append, length-drop, take-append-drop, drop_of_length-le}
use lib.Seq.{drop-cons, take-suc, length-take-le}
use lib.Dec.{ltb}
use borrow.Author.Tests.{ne_eqb, lt-ltb, le-ltb, ltb-true, ltb-false}
use Rattle.tables.specs.Tables.{Tables, communication}
use Rattle.plans.specs.Word.{binary_word, unary_word}
use Rattle.plans.specs.Term.{words}
use Rattle.plans.proofs.Words.{binary_range}
use Rattle.laws.specs.Laws.{Pattern, any, any_action, δ, entry, node, θ, ∂, Binding, number, build}
use Rattle.plans.specs.Place.{part}
use Rattle.matching.specs.Check.{letter}
use Rattle.laws.specs.Postfix.{forth}
use Rattle.matching.specs.Right.{spelled_one, spelled, Reaches, width, sized}
use Rattle.laws.proofs.Tests.{and_left, and_right}
use Rattle.matching.proofs.Fitting.{Rel}
use Rattle.areas.specs.Area.{most_words}

-- What the words of a right side come to.
module _ (c : ℕ) (plan f g : List ℕ) where
  pub one_word : (w : ℕ) → w < 96 → spelled_one c plan f g w ≡ w ∷ []
  unfolding spelled_one
  one_word w h = rw (lt-ltb w 96 h)

  pub one-letter : (w : ℕ) → 96 ≤ w → w < 102 → spelled_one c plan f g w ≡ letter plan f g (w - 96)
  unfolding spelled_one
  one-letter w h l = rw (le-ltb w 96 h, lt-ltb w 102 l)

  pub one_entry : (w : ℕ) → 102 ≤ w → spelled_one c plan f g w ≡ c ∷ []
  unfolding spelled_one
  one_entry w h = rw (le-ltb w 96 (omega arith), le-ltb w 102 h)

  pub spelled-append : (a b : List ℕ) → spelled c plan f g (a ++ b) ≡ spelled c plan f g a ++ spelled c plan f g b
  unfolding spelled
  spelled-append [] b = refl
  spelled-append (w ∷ a) b = rw (spelled-append a b) (sym (append_assoc (spelled_one c plan f g w) (spelled c plan f g a) (spelled c plan f g b)))

  pub spelled-more : (ws : List ℕ) (i : ℕ) → i < length ws
      → spelled c plan f g (take (i + 1) ws) ≡ spelled c plan f g (take i ws) ++ spelled_one c plan f g (get_or ws i 0)
  unfolding spelled
  spelled-more ws i h = rw (add-one i, take-suc ws i 0 h, spelled-append (take i ws) (get_or ws i 0 ∷ []), append-nil (spelled_one c plan f g (get_or ws i 0)))

  pub spelled-room : (ws : List ℕ) (i : ℕ) → i < length ws
      → length (spelled c plan f g (take i ws)) + length (spelled_one c plan f g (get_or ws i 0)) ≤ length (spelled c plan f g ws)
  spelled-room ws i h =
      let a = ap length (spelled-more ws i h) in
      let b = ap (λ (z : List ℕ). length (spelled c plan f g z)) (take-append-drop (i + 1) ws) in
      omega (
        arith,
        a,
        b,
        length-append (spelled c plan f g (take i ws)) (spelled_one c plan f g (get_or ws i 0)),
        ap length (spelled-append (take (i + 1) ws) (drop (i + 1) ws)),
        length-append (spelled c plan f g (take (i + 1) ws)) (spelled c plan f g (drop (i + 1) ws)),
      )

-- The letters of a right side are bound.
unfoldable pub covered : Pattern → (ℕ → Bool) → Bool
covered (any k) L = ltb k 5 && L k
covered (any_action k) L = ltb k 5 && L k
covered δ L = true
covered entry L = L 3 && L 4
covered (node o p q) L = covered p L && covered q L
covered (θ p) L = covered p L
covered (∂ p) L = L 5 && covered p L

module _ (t : Tables) (plan : List ℕ) (L : ℕ → Bool) (b : Binding) (f g : List ℕ) (r : Rel plan L b f g) (c : ℕ) (e : L 3 && L 4 ≡ true → c ≡ communication t (number (b 3)) (number (b 4))) where
  one : (w : ℕ) → spelled c plan f g (w ∷ []) ≡ spelled_one c plan f g w
  unfolding spelled
  one w = append-nil (spelled_one c plan f g w)

  bound : (k : ℕ) → ltb k 5 && L k ≡ true → spelled c plan f g ((96 + k) ∷ []) ≡ words (b k)
  bound k h =
      let l : k < 5 = ltb-true k 5 (and_left (ltb k 5) (L k) h) in
      let q : 96 + k - 96 ≡ k = omega arith in
      one (96 + k) ∙ one-letter c plan f g (96 + k) (omega arith) (omega arith)
      ∙ rw (q, r.reach k (omega arith) (and_right (ltb k 5) (L k) h), ne_eqb k 5 (λ z. omega arith))

  pub built : (p : Pattern) → covered p L ≡ true → spelled c plan f g (forth p) ≡ words (build t b p)
  unfolding covered forth build words unary_word
  built (any k) h = bound k h
  built (any_action k) h = bound k h
  built δ h = one 0 ∙ one_word c plan f g 0 (omega arith)
  built entry h = one 102 ∙ one_entry c plan f g 102 (omega arith) ∙ rw (e h)
  built (node o p q) h =
      rw (
        spelled-append c plan f g (forth p) (forth q ++ (binary_word o ∷ [])),
        spelled-append c plan f g (forth q) (binary_word o ∷ []),
        built p (and_left (covered p L) (covered q L) h),
        built q (and_right (covered p L) (covered q L) h),
        one (binary_word o),
        one_word c plan f g (binary_word o) (omega (arith, binary_range o)),
      )
  built (θ p) h = rw (spelled-append c plan f g (forth p) (70 ∷ []), built p h, one 70, one_word c plan f g 70 (omega arith))
  built (∂ p) h =
      rw (
        spelled-append c plan f g (forth p) (101 ∷ []),
        built p (and_right (L 5) (covered p L) h),
        one 101,
        one-letter c plan f g 101 (omega arith) (omega arith),
        r.reach 5 (omega arith) (and_left (L 5) (covered p L) h),
      )

-- how many words a right side comes to
module _ (f g ws : List ℕ) (i : ℕ) where
  pub size-more : i < length ws → sized f g (drop i ws) ≡ width f g (get_or ws i 0) + sized f g (drop (i + 1) ws)
  unfolding sized
  size-more h = rw (add-one i, drop-cons ws i 0 h)

  pub size-end : length ws ≤ i → sized f g (drop i ws) ≡ 0
  unfolding sized
  size-end h = rw (drop_of_length-le ws h)

part_length : (plan : List ℕ) (a b : ℕ) → a ≤ b → b ≤ length plan → length (part a b plan) ≡ b - a
part_length plan a b h l = length-take-le (b - a) (drop a plan) (rw (length-drop a plan) (omega arith))

one_size : (c : ℕ) (plan f g : List ℕ) → Reaches plan f g → (w : ℕ) → length (spelled_one c plan f g w) ≡ width f g w
unfolding width letter
one_size c plan f g r w = go (ltb w 96) (ltb w 102) refl refl
  where
    go : (x y : Bool) → ltb w 96 ≡ x → ltb w 102 ≡ y → length (spelled_one c plan f g w) ≡ cond x 1 (cond y (get_or g (w - 96) 0 - get_or f (w - 96) 0) 1)
    go true y p q = rw (one_word c plan f g w (ltb-true w 96 p))
    go false true p q =
        rw (one-letter c plan f g w (ltb-false w 96 p) (ltb-true w 102 q))
        (part_length plan (get_or f (w - 96) 0) (get_or g (w - 96) 0) (r.order (w - 96) (omega (arith, ltb-true w 102 q, ltb-false w 96 p))) (r.within (w - 96) (omega (arith, ltb-true w 102 q, ltb-false w 96 p))))
    go false false p q = rw (one_entry c plan f g w (ltb-false w 102 q))

pub spelled-size : (c : ℕ) (plan f g : List ℕ) → Reaches plan f g → (ws : List ℕ) → length (spelled c plan f g ws) ≡ sized f g ws
unfolding spelled sized
spelled-size c plan f g r [] = refl
spelled-size c plan f g r (w ∷ ws) = rw (length-append (spelled_one c plan f g w) (spelled c plan f g ws), spelled-size c plan f g r ws, one_size c plan f g r w)

-- a right side of few words comes to few words
pub size_bound : (plan f g : List ℕ) → Reaches plan f g → length plan ≤ most_words → (ws : List ℕ) → sized f g ws ≤ most_words * length ws
unfolding sized width
size_bound plan f g r h [] = omega arith
size_bound plan f g r h (w ∷ ws) = omega (arith, size_bound plan f g r h ws, one (ltb w 96) (ltb w 102) refl refl)
  where
    one : (x y : Bool) → ltb w 96 ≡ x → ltb w 102 ≡ y → cond x 1 (cond y (get_or g (w - 96) 0 - get_or f (w - 96) 0) 1) ≤ most_words
    one true y p q = omega arith
    one false true p q = omega (arith, r.within (w - 96) (omega (arith, ltb-true w 102 q, ltb-false w 96 p)))
    one false false p q = omega arith

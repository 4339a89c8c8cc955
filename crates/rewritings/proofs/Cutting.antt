-- The records of a rewriting: cut one after another, at a position as the code reads it; and cut again out of their bytes.
use Prim.Native.Nat.{ℕ, suc, zero, ◌+◌, ◌-◌, ◌*◌, ◌≤◌, ◌<◌}
use native.Mathlib.Omega.{arith}
use mathlib.Core.Path.{◌≡◌, refl, ap, ◌∙◌}
use mathlib.Core.Bool.{Bool, true, false, cond, and-eq-true_iff}
use mathlib.Core.List.{List, [], ◌∷◌}
use lib.ListN.{length, take, drop}
use lib.Dec.{leb}
use borrow.Author.Tests.{leb-true, le-leb, lt-leb}
use Rattle.laws.specs.Laws.{highest_law}
use Rattle.rewritings.specs.Moves.{Move}
use Rattle.rewritings.specs.Records.{Recorded, forward, backward, backward?, First, nothing, cut_short, one_step, first_carried, first_backward, first_with, first_record, one_more, go_on, cut_from}

-- the first bytes of steps backwards
module _ (k : ℕ) where
  pub backward_range : backward? k ≡ true → (129 ≤ k) × (k ≤ 128 + highest_law)
  unfolding backward?
  backward_range e = let c = (and-eq-true_iff (leb 129 k) _).0 e in (leb-true 129 k c.0, leb-true k (128 + highest_law) c.1)

  pub low_backward : k < 129 → backward? k ≡ false
  unfolding backward?
  low_backward h = rw (lt-leb 129 k h) refl

  pub high_backward : 1 ≤ k → k ≤ highest_law → backward? (128 + k) ≡ true
  unfolding backward?
  high_backward low high = rw (le-leb 129 (128 + k) (omega arith), le-leb (128 + k) (128 + highest_law) (omega arith)) refl

-- what is cut out has all of its bytes, three at least; and a step backwards has a known law
abbrev pub Known : Recorded → Type 0
Known (forward m) = Unit
Known (backward m left) = (1 ≤ m.law) × (m.law ≤ highest_law)

-- the words of a left side stand behind five bytes
abbrev pub Carries : List ℕ → Recorded → ℕ → Type 0
Carries l (forward m) size = Unit
Carries l (backward m left) size = (5 ≤ size) × (left ≡ take (size - 5) (drop 5 l))

pub record Within (l : List ℕ) (r : Recorded) (size : ℕ) : Type 0 where
  pub some_bytes : 1 ≤ size
  pub all_there : size ≤ length l
  pub known : Known r
  pub carries : Carries l r size

carried-within : (k l h : ℕ) (b c : ℕ) (t : List ℕ) (m : Move) → (1 ≤ m.law) → (m.law ≤ highest_law) → (r : Recorded) (size : ℕ)
    → first_carried m (b + 256 * c) t ≡ one_step r size → Within (k ∷ (l ∷ (h ∷ (b ∷ (c ∷ t))))) r size
unfolding first_carried
carried-within k l h b c t m low high r size e = go (leb (b + 256 * c) (length t)) refl e
  where
    go : (d : Bool) → leb (b + 256 * c) (length t) ≡ d → cond d (one_step (backward m (take (b + 256 * c) t)) (5 + (b + 256 * c))) cut_short ≡ one_step r size
        → Within (k ∷ (l ∷ (h ∷ (b ∷ (c ∷ t))))) r size
    go true q e =
        let i : size ≡ 5 + (b + 256 * c) = cc in
        let j : r ≡ backward m (take (b + 256 * c) t) = cc in
        let n = leb-true (b + 256 * c) (length t) q in
        let d : 5 + (b + 256 * c) - 5 ≡ b + 256 * c = omega arith in
        record { some_bytes = omega arith; all_there = omega arith; known = rw j (low, high); carries = rw (j, i) (omega arith, rw d refl) }
    go false q e = let z : ◌≡◌ {A = ℕ} 0 1 = cc in absurd (omega arith)

with_within : (k l h p : ℕ) (t : List ℕ) (r : Recorded) (size : ℕ) → first_with k p t ≡ one_step r size → Within (k ∷ (l ∷ (h ∷ t))) r size
unfolding first_with first_backward
with_within k l h p t r size e = go (backward? k) refl t e
  where
    go : (d : Bool) → backward? k ≡ d → (t : List ℕ)
        → cond d (first_backward (record { law = k - 128; place = p }) t) (one_step (forward (record { law = k; place = p })) 3) ≡ one_step r size
        → Within (k ∷ (l ∷ (h ∷ t))) r size
    go true q [] e = let z : ◌≡◌ {A = ℕ} 0 1 = cc in absurd (omega arith)
    go true q (b ∷ []) e = let z : ◌≡◌ {A = ℕ} 0 1 = cc in absurd (omega arith)
    go true q (b ∷ (c ∷ t)) e =
        let g = backward_range k q in
        carried-within k l h b c t (record { law = k - 128; place = p }) (omega arith) (omega arith) r size e
    go false q t e =
        let i : size ≡ 3 = cc in
        let j : r ≡ forward (record { law = k; place = p }) = cc in
        record { some_bytes = omega arith; all_there = omega arith; known = rw j tt; carries = rw j tt }

pub first-within : (l : List ℕ) (r : Recorded) (size : ℕ) → first_record l ≡ one_step r size → Within l r size
unfolding first_record
first-within [] r size e = let z : ◌≡◌ {A = ℕ} 0 1 = cc in absurd (omega arith)
first-within (a ∷ []) r size e = let z : ◌≡◌ {A = ℕ} 0 1 = cc in absurd (omega arith)
first-within (a ∷ (b ∷ [])) r size e = let z : ◌≡◌ {A = ℕ} 0 1 = cc in absurd (omega arith)
first-within (a ∷ (b ∷ (x ∷ t))) r size e = with_within a b x (b + 256 * x) t r size e

-- bytes of the record before are passed over
passed : (s : ℕ) (l : List ℕ) → cut_from s l ≡ cut_from 0 (drop s l)
unfolding cut_from
passed zero l = refl
passed (suc s) [] = refl
passed (suc s) (b ∷ r) = passed s r

-- the cutting goes on behind the first record, whatever it takes
pub cut_on : (l : List ℕ) → cut_from 0 l ≡ go_on (first_record l) (λ size. cut_from 0 (drop size l))
unfolding cut_from first_record
cut_on [] = refl
cut_on (b ∷ r) = go (first_record (b ∷ r)) refl
  where
    behind : (size : ℕ) → 1 ≤ size → cut_from (size - 1) r ≡ cut_from 0 (drop size (b ∷ r))
    behind zero h = absurd (omega arith)
    behind (suc s) h = let z : suc s - 1 ≡ s = omega arith in rw z (passed s r)

    go : (f : First) → first_record (b ∷ r) ≡ f → go_on f (λ size. cut_from (size - 1) r) ≡ go_on f (λ size. cut_from 0 (drop size (b ∷ r)))
    go nothing e = refl
    go cut_short e = refl
    go (one_step m size) e = ap (one_more m) (behind size (first-within (b ∷ r) m size e).some_bytes)

pub cut_by : (l : List ℕ) (f : First) → first_record l ≡ f → cut_from 0 l ≡ go_on f (λ size. cut_from 0 (drop size l))
cut_by l f e = cut_on l ∙ ap (λ (g : First). go_on g (λ size. cut_from 0 (drop size l))) e

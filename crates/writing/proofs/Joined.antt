-- Lists one behind the other: their length, each of them cut out again, and a list as its own parts.
use Prim.Native.Nat.{ℕ, zero, suc, ◌+◌, ◌*◌, ◌≤◌, ◌<◌}
use mathlib.Core.Path.{◌≡◌, refl, sym, ◌∙◌, ap}
use mathlib.Core.List.{List, append-nil}
use native.Mathlib.Omega.{arith}
use native.Mathlib.Nat.{mul-zero, mul-suc}
use lib.ListN.{length, take, drop, length-append}
use lib.Seq.{take_all, take-add, take_at, drop-drop, drop-append-add}
use Rattle.stations.specs.File.{joined}

-- the same lists under other numbers
pub joined_same : (g h : ℕ → List ℕ) (i j m : ℕ) → ((k : ℕ) → k < m → g (i + k) ≡ h (j + k)) → joined g i m ≡ joined h j m
unfolding joined
joined_same g h i j zero e = refl
joined_same g h i j (suc m) e =
    let first : g i ≡ h j =
    ap g (zero_right i) ∙ e 0 (omega arith) ∙ ap h (sym (zero_right j)) in
    rw (first, joined_same g h (suc i) (suc j) m (λ k l. ap g (next i k) ∙ e (suc k) (omega arith) ∙ ap h (sym (next j k))))
  where
    zero_right : (a : ℕ) → a ≡ a + 0
    zero_right a = omega arith

    next : (a k : ℕ) → suc a + k ≡ a + suc k
    next a k = omega arith

-- lists of n each, but that the last may be shorter
pub record FullButLast (n : ℕ) (g : ℕ → List ℕ) (i m : ℕ) : Type 0 where
  pub full : (j : ℕ) → i ≤ j → suc j < i + m → length (g j) ≡ n
  pub short : (j : ℕ) → i ≤ j → j < i + m → length (g j) ≤ n

module _ (n : ℕ) (g : ℕ → List ℕ) where
  full_rest : (i m : ℕ) → FullButLast n g i (suc m) → FullButLast n g (suc i) m
  full_rest i m e = record { full = λ j a b. e.full j (omega arith) (omega arith); short = λ j a b. e.short j (omega arith) (omega arith) }

  -- each of them is a part of the whole
  pub joined-part : (i m k : ℕ) → k < m → FullButLast n g i m → take n (drop (n * k) (joined g i m)) ≡ g (i + k)
  unfolding joined
  joined-part i zero k h e = absurd (omega arith)
  joined-part i (suc zero) zero h e =
      let z : i + 0 ≡ i = omega arith in
      rw (mul-zero n, z, append-nil (g i)) (take_all n (g i) (e.short i (omega arith) (omega arith)))
  joined-part i (suc (suc m)) zero h e =
      let z : i + 0 ≡ i = omega arith in
      rw (mul-zero n, z) (take_at (g i) (joined g (suc i) (suc m)) n (e.full i (omega arith) (omega arith)))
  joined-part i (suc m) (suc k) h e =
      let l : length (g i) ≡ n = e.full i (omega arith) (omega arith) in
      let q : n * suc k ≡ length (g i) + n * k = omega (arith, mul-suc n k) in
      let z : i + suc k ≡ suc i + k = omega arith in
      rw (q, drop-append-add (g i) (joined g (suc i) m) (n * k), z) (joined-part (suc i) m k (omega arith) (full_rest i m e))

  -- how long the whole is
  pub joined_length : (i m : ℕ) → FullButLast n g i (suc m) → length (joined g i (suc m)) ≡ n * m + length (g (i + m))
  unfolding joined
  joined_length i zero e =
      let z : i + 0 ≡ i = omega arith in
      rw (z, append-nil (g i)) (omega (arith, mul-zero n))
  joined_length i (suc m) e =
      let z : i + suc m ≡ suc i + m = omega arith in
      rw z (omega (arith, length-append (g i) (joined g (suc i) (suc m)), joined_length (suc i) m (full_rest i (suc m) e), e.full i (omega arith) (omega arith), mul-suc n m))

  pub joined_full : (i m : ℕ) → ((j : ℕ) → i ≤ j → j < i + m → length (g j) ≡ n) → length (joined g i m) ≡ n * m
  unfolding joined
  joined_full i zero e = sym (mul-zero n)
  joined_full i (suc m) e =
      omega (arith, length-append (g i) (joined g (suc i) m), joined_full (suc i) m (λ j a b. e j (omega arith) (omega arith)), e i (omega arith) (omega arith), mul-suc n m)

-- a list is its parts of n
pub parts-joined : (n : ℕ) (l : List ℕ) (i m : ℕ) → joined (λ k. take n (drop (n * k) l)) i m ≡ take (n * m) (drop (n * i) l)
unfolding joined
parts-joined n l i zero = rw (mul-zero n)
parts-joined n l i (suc m) =
    let q : n * suc m ≡ n + n * m = omega (arith, mul-suc n m) in
    let r : n * suc i ≡ n * i + n = mul-suc n i in
    rw (parts-joined n l (suc i) m, q, r, take-add n (n * m) (drop (n * i) l), drop-drop n (n * i) l)

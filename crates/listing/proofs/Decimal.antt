-- Numbers in decimal: the kit's fewest digits are these digits, and a number below a power of ten has no more digits than that power.
use Prim.Native.Nat.{ℕ, zero, suc, ◌+◌, ◌-◌, ◌/◌, ◌%◌, ◌^◌, ◌≤◌, ◌<◌}
use native.Mathlib.Omega.{arith}
use native.Mathlib.Nat.{pow-suc, one-le-pow, pow-le-pow_right, mod-eq_of_lt, mod-lt, div-lt_iff_lt-mul, le-div_iff_mul-le}
use mathlib.Core.Path.{◌≡◌, refl, subst}
use mathlib.Core.Bool.{Bool, true, false, cond}
use mathlib.Core.List.{List, [], ◌∷◌, ◌++◌}
use lib.ListN.{length, length-append}
use lib.Dec.{ltb, leb}
use borrow.Author.Tests.{lt-ltb, le-ltb, leb-true, leb-false}
use Rattle.io.specs.Digits.{last_digits, hex_digit_ascii, IsDigitCount}
use Rattle.listing.specs.Text.{digits_within, decimal, labelled}

-- a power of ten and the next
below_next : (k n : ℕ) → n < 10 ^ suc k → n / 10 < 10 ^ k
below_next k n h = (div-lt_iff_lt-mul {k = 10} {x = n} {y = 10 ^ k} (omega arith)).1 (subst (λ (z : ℕ). n < z) (pow-suc 10 k) h)

above-next : (k n : ℕ) → 10 ^ suc k ≤ n → 10 ^ k ≤ n / 10
above-next k n h = (le-div_iff_mul-le {k = 10} {x = 10 ^ k} {y = n} (omega arith)).1 (subst (λ (z : ℕ). z ≤ n) (pow-suc 10 k) h)

two_digits : (k n : ℕ) → 10 ^ suc k ≤ n → 10 ≤ n
two_digits k n h = omega (arith, one-le-pow k 10 (omega arith), pow-suc 10 k)

one-digit : (n : ℕ) → n < 10 ^ 1 → n < 10
one-digit n h = h

last_glyph : (n : ℕ) → hex_digit_ascii (n % 10) ≡ 48 + n % 10
last_glyph n = rw (lt-ltb (n % 10) 10 (mod-lt n (omega arith)))

fewest_within : (f k n : ℕ) → suc k ≤ f → n < 10 ^ suc k → (1 < suc k → 10 ^ k ≤ n) → last_digits 10 (suc k) n ≡ digits_within f n
unfolding digits_within
fewest_within zero k n h l m = absurd (omega arith)
fewest_within (suc f) zero n h l m = rw (last_glyph n, mod-eq_of_lt (one-digit n l), lt-ltb n 10 (one-digit n l))
fewest_within (suc f) (suc k) n h l m =
    rw (last_glyph n, le-ltb n 10 (two_digits k n (m (omega arith))), fewest_within f k (n / 10) (omega arith) (below_next (suc k) n l) (λ q. above-next k n (m (omega arith))))

-- what the kit's `decimal` writes
pub fewest_decimal : (n k : ℕ) → k ≤ 20 → IsDigitCount 10 1 n k → last_digits 10 k n ≡ decimal n
unfolding decimal
fewest_decimal n zero h e = absurd (omega arith)
fewest_decimal n (suc k) h e =
    let i : suc k - 1 ≡ k = omega arith in
    fewest_within 20 k n h e.1 (λ q. subst (λ (z : ℕ). 10 ^ z ≤ n) i (e.2 q))

-- a number of 64 bits has at most twenty digits
pub fewest_twenty : (n k : ℕ) → n < 18446744073709551616 → IsDigitCount 10 1 n k → k ≤ 20
fewest_twenty n k h e = go (leb k 20) refl
  where
    go : (b : Bool) → leb k 20 ≡ b → k ≤ 20
    go true q = leb-true k 20 q
    go false q =
        let l = leb-false k 20 q in
        let m : 10 ^ 20 ≤ 10 ^ (k - 1) = pow-le-pow_right {n = 10} (omega arith) {i = 20} {j = k - 1} (omega arith) in
        let i : 10 ^ (k - 1) ≤ n = e.2 (omega arith) in
        absurd (omega arith)

-- how many digits there are
within_count : (f n : ℕ) → length (digits_within f n) ≤ f
unfolding digits_within
within_count zero n = omega arith
within_count (suc f) n = go (ltb n 10) (within_count f (n / 10))
  where
    go : (b : Bool) → length (digits_within f (n / 10)) ≤ f → length (cond b ((48 + n) ∷ []) (digits_within f (n / 10) ++ ((48 + n % 10) ∷ []))) ≤ suc f
    go true h = omega arith
    go false h = rw (length-append (digits_within f (n / 10)) ((48 + n % 10) ∷ [])) (omega arith)

within-short : (f k n : ℕ) → n < 10 ^ suc k → length (digits_within f n) ≤ suc k
unfolding digits_within
within-short zero k n h = omega arith
within-short (suc f) zero n h = rw (lt-ltb n 10 (one-digit n h)) (omega arith)
within-short (suc f) (suc k) n h = go (ltb n 10) (within-short f k (n / 10) (below_next (suc k) n h))
  where
    go : (b : Bool) → length (digits_within f (n / 10)) ≤ suc k → length (cond b ((48 + n) ∷ []) (digits_within f (n / 10) ++ ((48 + n % 10) ∷ []))) ≤ suc (suc k)
    go true l = omega arith
    go false l = rw (length-append (digits_within f (n / 10)) ((48 + n % 10) ∷ [])) (omega arith)

pub decimal-count : (n : ℕ) → length (decimal n) ≤ 20
unfolding decimal
decimal-count n = within_count 20 n

pub decimal-short : (k n : ℕ) → n < 10 ^ suc k → length (decimal n) ≤ suc k
unfolding decimal
decimal-short k n h = within-short 20 k n h

pub labelled-length : (l : List ℕ) (n : ℕ) → length (labelled l n) ≡ length l + length (decimal n)
unfolding labelled
labelled-length l n = length-append l (decimal n)

-- A block that is made: its parts, that it is not refused, and that a block which is not refused is made so.
use Rattle.std.specs.Prelude.{Result, Ok, ⊤}
use Rattle.refusals.specs.declared.Refusal.{Refusal}
use Rattle.std.proofs.Common.{◌≡◌, ℕ, zero, suc, ◌+◌, ◌-◌, ◌*◌, ◌/◌, ◌%◌, ◌<◌, ◌≤◌, Bool, true, false, ◌&&◌, eqb, ◌↔◌, List, [], ◌∷◌, ◌++◌, length, get_or, take, drop, replicate, sym, refl, ap, ◌∙◌, arith, length-append, length-drop, take-append-drop, drop_of_length-le, drop-cons, drop-drop, take_at, get_or-append-add, eq-eqb, eqb-true}
use mathlib.Core.Option.{none}
use lib.ListN.{length-replicate, get_or-append}
use lib.Seq.{take-append_seam, drop-append_seam}
use Rattle.refusals.specs.Refusal.{judged}
use Rattle.refusals.proofs.Judging.{accepts_iff}
use Rattle.areas.specs.Area.{padded}
use Rattle.blocks.specs.Block.{word, number_of, kind_of, count_of, content, used, filling, words_sum, sum_right, all_zero, kind_due, count_right, use_right, block_refusal}
use Rattle.blocks.proofs.Reading.{length-content, length-used}
use Rattle.blocks.proofs.Right.{Right, count_small, block-right}
use Rattle.blocks.specs.Block.{two_bytes, unsummed, with_sum, block_of, RightBlock}

-- a list of bytes, each below 256
abbrev pub Bytes : List ℕ → Type 0
Bytes l = (i : ℕ) → get_or l i 0 < 256

-- Two bytes

two-read : (n : ℕ) → n % 256 + 256 * (n / 256) ≡ n
two-read n = omega arith

low : (a h n : ℕ) → a < 256 → a + 256 * h ≡ n → a ≡ n % 256
low a h n l e = omega arith

high : (a h n : ℕ) → a < 256 → a + 256 * h ≡ n → h ≡ n / 256
high a h n l e = omega arith

two_back : (a h n : ℕ) → a < 256 → a + 256 * h ≡ n → a ∷ h ∷ [] ≡ two_bytes n
unfolding two_bytes
two_back a h n l e = rw (low a h n l e, high a h n l e)

-- Zeros

zeros_zero : (m : ℕ) → all_zero (replicate m 0) ≡ true
unfolding all_zero
zeros_zero zero = refl
zeros_zero (suc m) = zeros_zero m

never : {P : Type 0} → false ≡ true → P
never e = let z : ◌≡◌ {A = ℕ} 0 1 = cc in absurd (omega arith)

zero_zeros : (l : List ℕ) → all_zero l ≡ true → l ≡ replicate (length l) 0
unfolding all_zero
zero_zeros [] e = refl
zero_zeros (v ∷ vs) e = go (eqb v 0) refl (λ h. zero_zeros vs h) e
  where
    go : (b : Bool) → eqb v 0 ≡ b → (all_zero vs ≡ true → vs ≡ replicate (length vs) 0) → (b && all_zero vs) ≡ true → v ∷ vs ≡ 0 ∷ replicate (length vs) 0
    go true q f h = ap (λ (x : ℕ). x ∷ vs) (eqb-true v 0 q) ∙ ap (λ (x : List ℕ). 0 ∷ x) (f h)
    go false q f h = never h

-- The sum of the words that stand before the last does not see the last
pub sum_front : (u v : List ℕ) (k m : ℕ) → 2 * (k + m) ≤ length u → words_sum (u ++ v) k m ≡ words_sum u k m
unfolding words_sum word
sum_front u v k zero h = refl
sum_front u v k (suc m) h =
    rw (get_or-append u v 0 (2 * k) (omega arith), get_or-append u v 0 (2 * k + 1) (omega arith), sum_front u v (suc k) m (omega arith))

-- two bytes behind 510 others are the last word
word-last : (u : List ℕ) (s : ℕ) → length u ≡ 510 → word (u ++ two_bytes s) 255 ≡ s
unfolding word two_bytes
word-last u s l =
    let a : 510 ≡ length u + 0 = omega arith in
    let b : 511 ≡ length u + 1 = omega arith in
    let x : get_or (u ++ two_bytes s) 510 0 ≡ s % 256 = ap (λ (k : ℕ). get_or (u ++ two_bytes s) k 0) a ∙ get_or-append-add u (two_bytes s) 0 0 in
    let y : get_or (u ++ two_bytes s) 511 0 ≡ s / 256 = ap (λ (k : ℕ). get_or (u ++ two_bytes s) k 0) b ∙ get_or-append-add u (two_bytes s) 1 0 in
    omega arith

-- Lengths

pub length-padded : (l : List ℕ) (n : ℕ) → length l ≤ n → length (padded l n) ≡ n
unfolding padded
length-padded l n h = omega (arith, length-append l (replicate (n - length l) 0), length-replicate {A = ℕ} (n - length l) 0)

two-behind : (u : List ℕ) (s : ℕ) → length u ≡ 510 → length (u ++ two_bytes s) ≡ 512
unfolding two_bytes
two-behind u s l = omega (arith, length-append u (two_bytes s))

module _ (number kind : ℕ) (c : List ℕ) (h : length c ≤ 504) where
  pub unsummed-long : length (unsummed number kind c) ≡ 510
  unfolding unsummed two_bytes
  unsummed-long = omega (arith, length-padded c 504 h)

  pub block_of-long : length (block_of number kind c) ≡ 512
  unfolding block_of with_sum
  block_of-long = two-behind (unsummed number kind c) _ unsummed-long

  -- what the reader finds
  block_of-number : number_of (block_of number kind c) ≡ number
  unfolding number_of word block_of with_sum unsummed two_bytes
  block_of-number = two-read number

  block_of_kind : kind_of (block_of number kind c) ≡ kind
  unfolding kind_of word block_of with_sum unsummed two_bytes
  block_of_kind = two-read kind

  block_of-count : count_of (block_of number kind c) ≡ length c
  unfolding count_of word block_of with_sum unsummed two_bytes
  block_of-count = two-read (length c)

  block_of-content : content (block_of number kind c) ≡ padded c 504
  unfolding content block_of with_sum unsummed two_bytes
  block_of-content = take_at (padded c 504) _ 504 (length-padded c 504 h)

  pub block_of-used : used (block_of number kind c) ≡ c
  unfolding used padded
  block_of-used = rw (block_of-count, block_of-content) (take-append_seam c (replicate (504 - length c) 0))

  block_of-filling : filling (block_of number kind c) ≡ replicate (504 - length c) 0
  unfolding filling padded
  block_of-filling = rw (block_of-count, block_of-content) (drop-append_seam c (replicate (504 - length c) 0))

  block_of_summed : word (block_of number kind c) 255 ≡ words_sum (block_of number kind c) 0 255 % 65536
  unfolding block_of with_sum
  block_of_summed =
      let u : List ℕ = unsummed number kind c in
      let v : List ℕ = two_bytes (words_sum u 0 255 % 65536) in
      let e : words_sum (u ++ v) 0 255 ≡ words_sum u 0 255 = sum_front u v 0 255 (omega (arith, unsummed-long)) in
      word-last u (words_sum u 0 255 % 65536) unsummed-long ∙ ap (λ (x : ℕ). x % 65536) (sym e)

-- The reader takes a written block of the right kind and count
pub block-taken : (n i : ℕ) (c : List ℕ) → length c ≤ 504 → count_right n i (length c) ≡ true → block_refusal n i (block_of i (kind_due i) c) ≡ none
unfolding block_refusal sum_right use_right
block-taken n i c h r =
    rw (
      eq-eqb _ _ (block_of_summed i (kind_due i) c h),
      eq-eqb _ _ (block_of-number i (kind_due i) c h),
      eq-eqb _ _ (block_of_kind i (kind_due i) c h),
      block_of-count i (kind_due i) c h,
      r,
      block_of-filling i (kind_due i) c h,
      zeros_zero (504 - length c),
    )

-- A block of bytes that the reader takes is the one written from what it holds

module _ (b : List ℕ) (long : length b ≡ 512) (bytes : Bytes b) where
  -- what stands before the content, the content, and the last word
  sixth : b ≡ get_or b 0 0 ∷ get_or b 1 0 ∷ get_or b 2 0 ∷ get_or b 3 0 ∷ get_or b 4 0 ∷ get_or b 5 0 ∷ drop 6 b
  sixth =
      drop-cons b 0 0 (omega arith)
      ∙ ap (λ (r : List ℕ). get_or b 0 0 ∷ r) (drop-cons b 1 0 (omega arith)
      ∙ ap (λ (r : List ℕ). get_or b 1 0 ∷ r) (drop-cons b 2 0 (omega arith)
      ∙ ap (λ (r : List ℕ). get_or b 2 0 ∷ r) (drop-cons b 3 0 (omega arith)
      ∙ ap (λ (r : List ℕ). get_or b 3 0 ∷ r) (drop-cons b 4 0 (omega arith)
      ∙ ap (λ (r : List ℕ). get_or b 4 0 ∷ r) (drop-cons b 5 0 (omega arith))))))

  last-two : drop 504 (drop 6 b) ≡ two_bytes (word b 255)
  unfolding word
  last-two =
      drop-drop 504 6 b
      ∙ drop-cons b 510 0 (omega arith)
      ∙ ap (λ (r : List ℕ). get_or b 510 0 ∷ r)
      (drop-cons b 511 0 (omega arith) ∙ ap (λ (r : List ℕ). get_or b 511 0 ∷ r) (drop_of_length-le b {i = 512} (omega arith)))
      ∙ two_back (get_or b 510 0) (get_or b 511 0) (word b 255) (bytes 510) refl

  rest_back : drop 6 b ≡ content b ++ two_bytes (word b 255)
  unfolding content
  rest_back = sym (take-append-drop 504 (drop 6 b)) ∙ ap (λ (r : List ℕ). take 504 (drop 6 b) ++ r) last-two

  content-back : count_of b ≤ 504 → all_zero (filling b) ≡ true → content b ≡ padded (used b) 504
  unfolding padded used filling
  content-back h z =
      let l : length (filling b) ≡ 504 - length (used b) =
      omega (arith, length-drop (count_of b) (content b), length-content b long, length-used b h long) in
      sym (take-append-drop (count_of b) (content b)) ∙ ap (λ (r : List ℕ). used b ++ r) (zero_zeros (filling b) z ∙ rw l)

  parts-back : b ≡ two_bytes (number_of b) ++ (two_bytes (kind_of b) ++ (two_bytes (count_of b) ++ (content b ++ two_bytes (word b 255))))
  unfolding number_of kind_of count_of word
  parts-back =
      sixth
      ∙ ap (λ (r : List ℕ). r ++ (get_or b 2 0 ∷ get_or b 3 0 ∷ get_or b 4 0 ∷ get_or b 5 0 ∷ drop 6 b))
      (two_back (get_or b 0 0) (get_or b 1 0) (word b 0) (bytes 0) refl)
      ∙ ap (λ (r : List ℕ). two_bytes (word b 0) ++ (r ++ (get_or b 4 0 ∷ get_or b 5 0 ∷ drop 6 b)))
      (two_back (get_or b 2 0) (get_or b 3 0) (word b 1) (bytes 2) refl)
      ∙ ap (λ (r : List ℕ). two_bytes (word b 0) ++ (two_bytes (word b 1) ++ (r ++ drop 6 b)))
      (two_back (get_or b 4 0) (get_or b 5 0) (word b 2) (bytes 4) refl)
      ∙ ap (λ (r : List ℕ). two_bytes (word b 0) ++ (two_bytes (word b 1) ++ (two_bytes (word b 2) ++ r))) rest_back

  module _ (n i : ℕ) (r : Right n i b) where
    abbrev small : count_of b ≤ 504
    small = count_small n i (count_of b) r.count

    before-sum : b ≡ unsummed i (kind_due i) (used b) ++ two_bytes (word b 255)
    unfolding unsummed two_bytes
    before-sum =
        parts-back
        ∙ rw (
          eqb-true (number_of b) i r.number,
          eqb-true (kind_of b) (kind_due i) r.kind,
          sym (length-used b small long),
          content-back small r.zeros,
        )

    pub block_back : b ≡ block_of i (kind_due i) (used b)
    unfolding block_of with_sum sum_right
    block_back =
        let u : List ℕ = unsummed i (kind_due i) (used b) in
        let v : List ℕ = two_bytes (word b 255) in
        let l : length u ≡ 510 = unsummed-long i (kind_due i) (used b) (omega (arith, length-used b small long, small)) in
        let e : words_sum b 0 255 ≡ words_sum u 0 255 =
        ap (λ (x : List ℕ). words_sum x 0 255) before-sum ∙ sum_front u v 0 255 (omega arith) in
        let q : word b 255 ≡ words_sum u 0 255 % 65536 = eqb-true (word b 255) (words_sum b 0 255 % 65536) r.sum ∙ ap (λ (x : ℕ). x % 65536) e in
        before-sum ∙ ap (λ (x : ℕ). u ++ two_bytes x) q

-- A block of bytes is not refused exactly when it is made so
pub right-block_iff : (n i : ℕ) (b : List ℕ) → length b ≡ 512 → Bytes b → (block_refusal n i b ≡ none) ↔ RightBlock n i b
right-block_iff n i b long bytes = (
  λ e.
      let r = block-right n i b e in
      record { held = used b; count = rw (length-used b (count_small n i (count_of b) r.count) long) r.count; made = block_back b long bytes n i r },
  λ s. rw s.made (block-taken n i s.held (count_small n i (length s.held) s.count) s.count),
)

-- so a judge that answers by the tests answers by the plain statement
pub answered_right : (n i : ℕ) (b : List ℕ) (r : Result ⊤ Refusal) → length b ≡ 512 → Bytes b → r ≡ judged (block_refusal n i b)
    → (r ≡ Ok tt) ↔ RightBlock n i b
answered_right n i b r long bytes e = accepts_iff (block_refusal n i b) r (RightBlock n i b) e (right-block_iff n i b long bytes)

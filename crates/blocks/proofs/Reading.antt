-- One more word of a block's sum; its content, what is used of it, and its filling.
use Rattle.std.proofs.Common.{◌≡◌, ℕ, suc, ◌+◌, ◌-◌, ◌%◌, ◌<◌, ◌≤◌, ◌&&◌, ◌==◌, List, [], ◌∷◌, length, take, drop, refl, ap, add-one, arith, length-drop, length-take-le, take-take}
use Rattle.std.specs.List.{list_all}
use Rattle.blocks.specs.Block.{word, count_of, content, used, words_sum, all_zero}

sum-next : (b : List ℕ) (k : ℕ) → k < 255 → words_sum b k (255 - k) ≡ word b k + words_sum b (k + 1) (255 - (k + 1))
unfolding words_sum
sum-next b k h =
    let e : 255 - k ≡ suc (255 - (k + 1)) = omega arith in
    rw (e, add-one k)

-- a word added to a wrapped sum
pub sum-turn : (b : List ℕ) (k s r total : ℕ) → k < 255 → r ≡ (s + word b k) % 65536 → (s + words_sum b k (255 - k)) % 65536 ≡ total
    → (r + words_sum b (k + 1) (255 - (k + 1))) % 65536 ≡ total
sum-turn b k s r total h q e = omega (arith, sum-next b k h)

-- no word is left
pub sum-end : (b : List ℕ) (k s total : ℕ) → 255 ≤ k → s < 65536 → (s + words_sum b k (255 - k)) % 65536 ≡ total → s ≡ total
unfolding words_sum
sum-end b k s total h l e =
    let z : 255 - k ≡ 0 = omega arith in
    let w : words_sum b k (255 - k) ≡ 0 = rw z in
    omega arith

pub length-content : (b : List ℕ) → length b ≡ 512 → length (content b) ≡ 504
unfolding content
length-content b h = length-take-le 504 (drop 6 b) (omega (arith, length-drop 6 b))

-- the part of a block that is used, and its length
module _ (b : List ℕ) (h : count_of b ≤ 504) where
  pub used-part : (w : ℕ) → w ≡ word b 2 → take (6 + w - 6) (drop 6 b) ≡ used b
  unfolding count_of content used
  used-part w e =
      let q : 6 + w - 6 ≡ word b 2 = omega arith in
      rw (q, take-take (word b 2) 504 (drop 6 b) h)

  pub length-used : length b ≡ 512 → length (used b) ≡ count_of b
  unfolding used
  length-used long = length-take-le (count_of b) (content b) (omega (arith, length-content b long))

-- the library's test of each byte is that of the definition
pub all_zeros : (l : List ℕ) → list_all (λ v. v == 0) l ≡ all_zero l
unfolding all_zero
all_zeros [] = refl
all_zeros (v ∷ vs) = ap (λ b. v == 0 && b) (all_zeros vs)

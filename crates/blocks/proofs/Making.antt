-- A block made in 512 bytes step by step.
use Rattle.std.proofs.Common.{◌≡◌, ℕ, ◌+◌, ◌-◌, ◌%◌, ◌≤◌, List, [], ◌∷◌, ◌++◌, length, take, replicate, refl, ◌∙◌, append_assoc, append-nil, arith, length-append, drop_of_length-le, take_at}
use lib.ListN.{replicate-append-replicate}
use Rattle.areas.specs.Area.{overwrite, padded}
use Rattle.areas.proofs.Area.{overwrite-two, take-overwrite}
use Rattle.blocks.specs.Block.{sum_due, words_sum, two_bytes, unsummed, with_sum, block_of}
use Rattle.blocks.proofs.Made.{sum_front, unsummed-long}

-- two bytes written over the last two
last-over : (u v : List ℕ) → length u ≡ 510 → length v ≡ 2 → overwrite (u ++ (0 ∷ 0 ∷ [])) 510 v ≡ u ++ v
unfolding overwrite
last-over u v l m =
    rw (take_at u (0 ∷ 0 ∷ []) 510 l, drop_of_length-le (u ++ (0 ∷ 0 ∷ [])) {i = 510 + length v} (omega (arith, length-append u (0 ∷ 0 ∷ []))), append-nil v)

-- what stands before the zeros
abbrev headed : ℕ → ℕ → List ℕ → List ℕ
headed i k c = two_bytes i ++ (two_bytes k ++ (two_bytes (length c) ++ c))

-- The steps of a block: number, kind and count; the content; zeros behind it to the end; the sum of what then stands there, over the last two
module _ (i k : ℕ) (c b : List ℕ) (long : length b ≡ 512) (h : length c ≤ 504) where
  head_made : {b₁ b₂ b₃ b₄ : List ℕ}
      → b₁ ≡ overwrite b 0 (two_bytes i)
      → b₂ ≡ overwrite b₁ 2 (two_bytes k)
      → b₃ ≡ overwrite b₂ 4 (two_bytes (length c))
      → b₄ ≡ overwrite b₃ 6 c
      → b₄ ≡ overwrite b 0 (headed i k c)
  unfolding two_bytes
  head_made p q r s =
      rw (
        s,
        r,
        q,
        p,
        overwrite-two b 0 (two_bytes i) (two_bytes k) (omega arith),
        overwrite-two b 0 (two_bytes i ++ two_bytes k) (two_bytes (length c)) (omega arith),
      )
      (overwrite-two b 0 ((two_bytes i ++ two_bytes k) ++ two_bytes (length c)) c (omega arith))

  -- zeros behind the content: the block without its sum, and two zeros
  zeros-made : {b₄ b₅ : List ℕ} → b₄ ≡ overwrite b 0 (headed i k c) → b₅ ≡ padded (take (6 + length c) b₄) 512 → b₅ ≡ unsummed i k c ++ (0 ∷ 0 ∷ [])
  unfolding two_bytes unsummed padded
  zeros-made p q =
      let l : 6 + length c ≡ 0 + length (headed i k c) = omega arith in
      let m : 512 - length (headed i k c) ≡ 504 - length c + 2 = omega arith in
      rw (
        q,
        p,
        l,
        take-overwrite b 0 (headed i k c) (omega arith),
        m,
        ← replicate-append-replicate {A = ℕ} (504 - length c) 2 0,
        append_assoc c (replicate (504 - length c) 0) (0 ∷ 0 ∷ []),
      )

  -- the sum over the two zeros
  sum-made : {b₅ b₆ : List ℕ} → b₅ ≡ unsummed i k c ++ (0 ∷ 0 ∷ []) → b₆ ≡ overwrite b₅ 510 (two_bytes (words_sum b₅ 0 255 % 65536)) → b₆ ≡ block_of i k c
  unfolding block_of with_sum two_bytes
  sum-made p q =
      let u : List ℕ = unsummed i k c in
      let l : length u ≡ 510 = unsummed-long i k c h in
      rw (q, p, sum_front u (0 ∷ 0 ∷ []) 0 255 (omega arith)) (last-over u (two_bytes (words_sum u 0 255 % 65536)) l refl)

  -- the steps together: what the content ends before, the length of what is cleared, and the sum are as the code has them
  pub steps-made : {b₁ b₂ b₃ b₄ b₅ b₆ : List ℕ} {e n s : ℕ}
      → b₁ ≡ overwrite b 0 (two_bytes i)
      → b₂ ≡ overwrite b₁ 2 (two_bytes k)
      → b₃ ≡ overwrite b₂ 4 (two_bytes (length c))
      → (b₄ ≡ overwrite b₃ 6 c) × (e ≡ 6 + length c)
      → n ≡ 512
      → b₅ ≡ padded (take e b₄) n
      → s ≡ sum_due b₅
      → b₆ ≡ overwrite b₅ 510 (two_bytes s)
      → b₆ ≡ block_of i k c
  steps-made {b₄} p q r w l z m o = sum-made (zeros-made (head_made p q r w.0) (z ∙ rw (w.1, l))) (o ∙ rw m)

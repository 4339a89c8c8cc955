-- Tables of the code as the definitions have them, shown by tests that antt computes.
use Rattle.std.proofs.Common.{◌≡◌, ℕ, suc, zero, ◌-◌, ◌≤◌, Bool, true, List, [], ◌∷◌, map, refl, slice_index_or, arith, Bor}
use Rattle.laws.specs.Laws.{same_bytes, highest_law}
use Rattle.laws.proofs.Sound.{same_list}
use Rattle.laws.proofs.Tests.{passes, passed}

-- the words that a row of a table of slices holds
pub now_at : (rows : List (Bor (List ℕ))) (k : ℕ) (d : Bor (List ℕ))
    → (slice_index_or rows k d).now ≡ slice_index_or (map (λ (b : Bor (List ℕ)). b.now) rows) k d.now
now_at [] k d = refl
now_at (b ∷ rows) zero d = refl
now_at (b ∷ rows) (suc k) d = now_at rows k d

-- A table with a row of words for each law, law 1 first: the row of each law is its side.
module _ (rows : List (List ℕ)) (side : ℕ → List ℕ) where
  abbrev pub row_right : ℕ → Bool
  row_right k = same_bytes (slice_index_or rows k []) (side (suc k))

  pub row_of : passes row_right highest_law ≡ true → (law : ℕ) → 1 ≤ law → law ≤ highest_law → slice_index_or rows (law - 1) [] ≡ side law
  row_of e zero h l = absurd (omega arith)
  row_of e (suc k) h l =
      let i : suc k - 1 ≡ k = omega arith in
      rw i (same_list _ _ (passed row_right highest_law e k (omega arith)))

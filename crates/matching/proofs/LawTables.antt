-- The tables of the code are the definition's: each row is a side of a law.
use Rattle.std.proofs.Common.{◌≡◌, ℕ, ◌-◌, ◌≤◌, List, [], ◌∷◌, refl, slice_index_or}
use Rattle.plans.specs.Word.{binary_word}
use Rattle.laws.specs.Laws.{same_bytes, law_at, laws, highest_law}
use Rattle.laws.specs.Postfix.{forth}
use Rattle.matching.specs.Left.{back}
use Rattle.matching.proofs.Table.{row_of}

unfoldable pub left : List (List ℕ)
left =
    (64 ∷ 97 ∷ 96 ∷ [])
    ∷ (64 ∷ 64 ∷ 98 ∷ 97 ∷ 96 ∷ [])
    ∷ (64 ∷ 98 ∷ 64 ∷ 97 ∷ 96 ∷ [])
    ∷ (64 ∷ 97 ∷ 96 ∷ [])
    ∷ (65 ∷ 98 ∷ 64 ∷ 97 ∷ 96 ∷ [])
    ∷ (65 ∷ 98 ∷ 65 ∷ 97 ∷ 96 ∷ [])
    ∷ (64 ∷ 0 ∷ 96 ∷ [])
    ∷ (64 ∷ 96 ∷ 0 ∷ [])
    ∷ (65 ∷ 96 ∷ 0 ∷ [])
    ∷ (68 ∷ 100 ∷ 99 ∷ [])
    ∷ (66 ∷ 97 ∷ 96 ∷ [])
    ∷ (67 ∷ 96 ∷ 99 ∷ [])
    ∷ (67 ∷ 97 ∷ 65 ∷ 96 ∷ 99 ∷ [])
    ∷ (67 ∷ 98 ∷ 64 ∷ 97 ∷ 96 ∷ [])
    ∷ (68 ∷ 100 ∷ 65 ∷ 96 ∷ 99 ∷ [])
    ∷ (68 ∷ 65 ∷ 96 ∷ 100 ∷ 99 ∷ [])
    ∷ (68 ∷ 65 ∷ 97 ∷ 100 ∷ 65 ∷ 96 ∷ 99 ∷ [])
    ∷ (68 ∷ 98 ∷ 64 ∷ 97 ∷ 96 ∷ [])
    ∷ (68 ∷ 64 ∷ 98 ∷ 97 ∷ 96 ∷ [])
    ∷ (101 ∷ 99 ∷ [])
    ∷ (101 ∷ 99 ∷ [])
    ∷ (101 ∷ 64 ∷ 97 ∷ 96 ∷ [])
    ∷ (101 ∷ 65 ∷ 97 ∷ 96 ∷ [])
    ∷ (69 ∷ 100 ∷ 99 ∷ [])
    ∷ (69 ∷ 100 ∷ 99 ∷ [])
    ∷ (69 ∷ 65 ∷ 98 ∷ 97 ∷ 96 ∷ [])
    ∷ (69 ∷ 64 ∷ 98 ∷ 97 ∷ 96 ∷ [])
    ∷ (69 ∷ 98 ∷ 65 ∷ 97 ∷ 96 ∷ [])
    ∷ (69 ∷ 98 ∷ 64 ∷ 97 ∷ 96 ∷ [])
    ∷ (70 ∷ 99 ∷ [])
    ∷ (70 ∷ 65 ∷ 97 ∷ 96 ∷ [])
    ∷ (70 ∷ 64 ∷ 97 ∷ 96 ∷ []) ∷ []

pub left_of : (law : ℕ) → 1 ≤ law → law ≤ highest_law → slice_index_or left (law - 1) [] ≡ back (law_at law).lhs
unfolding left same_bytes back law_at laws binary_word
left_of law h l = row_of left (λ k. back (law_at k).lhs) refl law h l

unfoldable pub right : List (List ℕ)
right =
    (97 ∷ 96 ∷ 64 ∷ [])
    ∷ (96 ∷ 97 ∷ 64 ∷ 98 ∷ 64 ∷ [])
    ∷ (96 ∷ 97 ∷ 98 ∷ 64 ∷ 64 ∷ [])
    ∷ (96 ∷ [])
    ∷ (96 ∷ 98 ∷ 65 ∷ 97 ∷ 98 ∷ 65 ∷ 64 ∷ [])
    ∷ (96 ∷ 97 ∷ 98 ∷ 65 ∷ 65 ∷ [])
    ∷ (96 ∷ [])
    ∷ (96 ∷ [])
    ∷ (0 ∷ [])
    ∷ (102 ∷ [])
    ∷ (96 ∷ 97 ∷ 67 ∷ 97 ∷ 96 ∷ 67 ∷ 64 ∷ 96 ∷ 97 ∷ 68 ∷ 64 ∷ [])
    ∷ (99 ∷ 96 ∷ 65 ∷ [])
    ∷ (99 ∷ 96 ∷ 97 ∷ 66 ∷ 65 ∷ [])
    ∷ (96 ∷ 98 ∷ 67 ∷ 97 ∷ 98 ∷ 67 ∷ 64 ∷ [])
    ∷ (99 ∷ 100 ∷ 68 ∷ 96 ∷ 65 ∷ [])
    ∷ (99 ∷ 100 ∷ 68 ∷ 96 ∷ 65 ∷ [])
    ∷ (99 ∷ 100 ∷ 68 ∷ 96 ∷ 97 ∷ 66 ∷ 65 ∷ [])
    ∷ (96 ∷ 98 ∷ 68 ∷ 97 ∷ 98 ∷ 68 ∷ 64 ∷ [])
    ∷ (96 ∷ 97 ∷ 68 ∷ 96 ∷ 98 ∷ 68 ∷ 64 ∷ [])
    ∷ (99 ∷ [])
    ∷ (0 ∷ [])
    ∷ (96 ∷ 101 ∷ 97 ∷ 101 ∷ 64 ∷ [])
    ∷ (96 ∷ 101 ∷ 97 ∷ 101 ∷ 65 ∷ [])
    ∷ (99 ∷ [])
    ∷ (0 ∷ [])
    ∷ (96 ∷ 97 ∷ 69 ∷ [])
    ∷ (96 ∷ 97 ∷ 69 ∷ 98 ∷ 69 ∷ [])
    ∷ (96 ∷ 98 ∷ 69 ∷ 97 ∷ 65 ∷ [])
    ∷ (96 ∷ 98 ∷ 69 ∷ 97 ∷ 98 ∷ 69 ∷ 64 ∷ [])
    ∷ (99 ∷ [])
    ∷ (96 ∷ 70 ∷ 97 ∷ 70 ∷ 65 ∷ [])
    ∷ (96 ∷ 70 ∷ 97 ∷ 69 ∷ 97 ∷ 70 ∷ 96 ∷ 69 ∷ 64 ∷ []) ∷ []

pub right_of : (law : ℕ) → 1 ≤ law → law ≤ highest_law → slice_index_or right (law - 1) [] ≡ forth (law_at law).rhs
unfolding right same_bytes forth law_at laws binary_word
right_of law h l = row_of right (λ k. forth (law_at k).rhs) refl law h l

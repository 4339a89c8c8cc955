-- What is left of the words and of the steps, word after word and step after step.
use Prim.Native.Nat.{ℕ, suc, ◌+◌, ◌*◌, ◌≤◌, ◌<◌}
use native.Mathlib.Omega.{arith}
use native.Mathlib.Numerals.{add-one}
use mathlib.Core.Path.{◌≡◌, refl}
use mathlib.Core.List.{List, [], ◌∷◌, ◌++◌, append_assoc}
use lib.ListN.{length, get_or, drop, drop_of_length-le}
use lib.Seq.{drop-cons}
use Rattle.rewritings.specs.Moves.{moves_of}
use Rattle.listing.specs.Text.{labelled, line_end, space}
use Rattle.listing.specs.Listing.{further_words, words_line, step_line, step_lines}

-- the words from word i on, and the end of their line
abbrev pub words_left : List ℕ → ℕ → List ℕ
words_left ws i = further_words (drop i ws) ++ line_end

pub words_none : (ws : List ℕ) → length ws ≡ 0 → words_line ws ≡ line_end
unfolding words_line
words_none [] h = refl
words_none (w ∷ ws) h = absurd (omega arith)

pub words-first : (ws : List ℕ) → 0 < length ws → words_line ws ≡ labelled [] (get_or ws 0 0) ++ words_left ws 1
unfolding words_line
words-first [] h = absurd (omega arith)
words-first (w ∷ ws) h = refl

pub words-turn : (ws : List ℕ) (i : ℕ) → i < length ws → words_left ws i ≡ labelled space (get_or ws i 0) ++ words_left ws (i + 1)
unfolding further_words
words-turn ws i h = rw (add-one i, drop-cons ws i 0 h) (append_assoc (labelled space (get_or ws i 0)) (further_words (drop (suc i) ws)) line_end)

pub words-end : (ws : List ℕ) (i : ℕ) → length ws ≤ i → words_left ws i ≡ line_end
unfolding further_words
words-end ws i h = rw (drop_of_length-le ws h)

-- the steps recorded, one after another
pub steps_turn : (rs : List ℕ) → 3 ≤ length rs
    → step_lines (moves_of rs) ≡ step_line (get_or rs 0 0) (get_or rs 1 0 + 256 * get_or rs 2 0) ++ step_lines (moves_of (drop 3 rs))
unfolding step_lines moves_of
steps_turn [] h = absurd (omega arith)
steps_turn (k ∷ []) h = absurd (omega arith)
steps_turn (k ∷ (l ∷ [])) h = absurd (omega arith)
steps_turn (k ∷ (l ∷ (x ∷ r))) h = refl

-- one or two bytes are no step
pub steps_end : (rs : List ℕ) → length rs < 3 → step_lines (moves_of rs) ≡ []
unfolding step_lines moves_of
steps_end [] h = refl
steps_end (k ∷ []) h = refl
steps_end (k ∷ (l ∷ [])) h = refl
steps_end (k ∷ (l ∷ (x ∷ r))) h = absurd (omega arith)

-- How long the printed lines can be, where words and records are bytes.
use Prim.Native.Nat.{ℕ, suc, ◌+◌, ◌*◌, ◌≤◌, ◌<◌}
use native.Mathlib.Omega.{arith}
use mathlib.Core.List.{List, [], ◌∷◌, ◌++◌}
use lib.ListN.{length, get_or, length-append}
use Rattle.refusals.specs.declared.Refusal.{Refusal}
use Rattle.refusals.specs.Refusal.{printed}
use Rattle.plans.specs.declared.Counts.{Counts}
use Rattle.rewritings.specs.Moves.{moves_of}
use Rattle.listing.specs.Text.{decimal, labelled, line_end, space, ascii}
use Rattle.listing.specs.Listing.{first_line, further_words, words_line, step_line, step_lines, refused_line}
use Rattle.listing.proofs.Decimal.{decimal-count, decimal-short, labelled-length}

-- one more piece in front
joined : (v rest : List ℕ) (a b : ℕ) → length v ≤ a → length rest ≤ b → length (v ++ rest) ≤ a + b
joined v rest a b h k = omega (arith, length-append v rest)

-- a number has at most twenty digits
pub any_label : (l : List ℕ) (n : ℕ) → length (labelled l n) ≤ length l + 20
any_label l n = omega (arith, labelled-length l n, decimal-count n)

short_label : (l : List ℕ) (k n : ℕ) → length (decimal n) ≤ k → length (labelled l n) ≤ length l + k
short_label l k n h = omega (arith, labelled-length l n)

pub first_short : (e s z : ℕ) (c : Counts) → length (first_line e s z c) ≤ 133
unfolding first_line
first_short e s z c =
    joined (labelled (ascii "end ") e) _ 24 109 (any_label (ascii "end ") e)
    (joined (labelled (ascii " steps ") s) _ 27 82 (any_label (ascii " steps ") s)
    (joined (labelled (ascii " size ") z) _ 26 56 (any_label (ascii " size ") z)
    (joined (labelled (ascii " orders ") c.orders) _ 28 28 (any_label (ascii " orders ") c.orders)
    (joined (labelled (ascii " stuck ") c.stuck) line_end 27 1 (any_label (ascii " stuck ") c.stuck) (omega arith)))))

pub refused-short : (r : Refusal) → length (refused_line r) ≤ 50
unfolding refused_line
refused-short r =
    joined (labelled (ascii "refused ") r.number) _ 28 22 (any_label (ascii "refused ") r.number)
    (joined (labelled space (printed r.place)) line_end 21 1 (any_label space (printed r.place)) (omega arith))

byte_label : (l : List ℕ) (n : ℕ) → n < 256 → length (labelled l n) ≤ length l + 3
byte_label l n h = short_label l 3 n (decimal-short 2 n (omega arith))

further-short : (ws : List ℕ) → ((i : ℕ) → get_or ws i 0 < 256) → length (further_words ws) ≤ 4 * length ws
unfolding further_words
further-short [] h = omega arith
further-short (w ∷ ws) h =
    let m : length (labelled space w ++ further_words ws) ≤ 4 + 4 * length ws = joined (labelled space w) (further_words ws) 4 (4 * length ws) (byte_label space w (h 0)) (further-short ws (λ i. h (suc i))) in
    omega arith

pub words-short : (ws : List ℕ) → ((i : ℕ) → get_or ws i 0 < 256) → length (words_line ws) ≤ 4 * length ws + 1
unfolding words_line
words-short [] h = omega arith
words-short (w ∷ ws) h =
    let m = joined (labelled [] w) (further_words ws ++ line_end) 3 (4 * length ws + 1) (byte_label [] w (h 0)) (joined (further_words ws) line_end (4 * length ws) 1 (further-short ws (λ i. h (suc i))) (omega arith)) in
    omega arith

step-short : (k p : ℕ) → k < 256 → p < 65536 → length (step_line k p) ≤ 10
unfolding step_line
step-short k p h l =
    joined (labelled [] k) _ 3 7 (byte_label [] k h) (joined (labelled space p) line_end 6 1 (short_label space 5 p (decimal-short 4 p (omega arith))) (omega arith))

pub steps-short : (rs : List ℕ) → ((i : ℕ) → get_or rs i 0 < 256) → length (step_lines (moves_of rs)) ≤ 4 * length rs
unfolding step_lines moves_of
steps-short [] h = omega arith
steps-short (k ∷ []) h = omega arith
steps-short (k ∷ (l ∷ [])) h = omega arith
steps-short (k ∷ (l ∷ (x ∷ rs))) h =
    let m = joined (step_line k (l + 256 * x)) (step_lines (moves_of rs)) 10 (4 * length rs) (step-short k (l + 256 * x) (h 0) (omega (arith, h 1, h 2))) (steps-short rs (λ i. h (suc (suc (suc i))))) in
    omega arith

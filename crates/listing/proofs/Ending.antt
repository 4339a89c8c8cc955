-- The three parts of a listing written one after another, and how long the plan reached can be.
use Prim.Native.Nat.{ℕ, ◌≤◌}
use native.Mathlib.Omega.{arith}
use mathlib.Core.Path.{◌≡◌}
use mathlib.Core.Bool.{Bool, true, false}
use mathlib.Core.List.{List}
use lib.ListN.{length, take, length-take}
use Rattle.plans.specs.declared.Counts.{Counts}
use Rattle.plans.specs.Orders.{counts_of}
use Rattle.rewritings.specs.Moves.{Move}
use Rattle.areas.specs.Reached.{reached_part}
use Rattle.listing.specs.Listing.{first_line, words_line, step_lines, ending}
use Rattle.listing.specs.Writing.{Wrote}
use Rattle.listing.proofs.Writing.{left_all, left_less, left-last}

pub wrote-ending : {out d d' d'' : List ℕ} {at next next' last : ℕ} (n e s : ℕ) (counts : Counts) (plan : List ℕ) (moves : List Move) → at ≡ 0
    → counts ≡ counts_of n plan → Wrote out at (first_line e s (length plan) counts) d next → Wrote d next (words_line plan) d' next'
    → Wrote d' next' (step_lines moves) d'' last → take last d'' ≡ ending n e s plan moves
unfolding ending
wrote-ending {out} n e s counts plan moves z q f w t =
    (left-last (left_less (left_less (left_all out 0 _) (rw (z, q) at f)) w) t).so_far

-- a line that is all of the text
pub only_line : {out d line : List ℕ} {at last : ℕ} → at ≡ 0 → Wrote out at line d last → take last d ≡ line
only_line z w = (rw z at w).so_far

pub part-short : (e : Bool) (size m : ℕ) (a b : List ℕ) → length a ≡ m → length b ≡ m → length (reached_part e size a b) ≤ m
unfolding reached_part
part-short true size m a b h k = rw (length-take size a) (omega arith)
part-short false size m a b h k = rw (length-take size b) (omega arith)

-- `listing::text::Text::put_steps` meets its contract. The invariant: what is written so far, and then the lines of the steps left, are the whole text.
use Prim.Native.Nat.{◌+◌, ◌*◌, ◌≤◌}
use native.Mathlib.Omega.{arith}
use mathlib.Core.List.{◌++◌}
use lib.ListN.{length, get_or, drop}
use Rattle.rewritings.specs.Moves.{moves_of}
use Rattle.listing.specs.Listing.{step_line, step_lines}
use Rattle.listing.proofs.Lengths.{steps-short}
use Rattle.listing.proofs.Turns.{steps_turn, steps_end}
use Rattle.listing.proofs.Writing.{Left, left_room, left_less, left_none, wrote-within}
use Rattle.std.proofs.lemmas.List.{take_rest}
use Rattle.listing.proofs.text.Text.put_steps.Goals.{In-len3-up}
use Rattle.listing.proofs.text.Text.put_steps.Goals as goal

-- the step at which a turn stands
turned : (c : In-len3-up)
    → let l = c.loop-left.left.now in
    Left c.args.self.now.bytes c.args.self.now.size (step_lines (moves_of c.args.records.now)) c.loop-left.self.bytes c.loop-left.self.size
    (step_line (get_or l 0 0) (get_or l 1 0 + 256 * get_or l 2 0) ++ step_lines (moves_of (drop 3 l)))
turned c = rw (← steps_turn c.loop-left.left.now c.in-len3-up.len_at_least) c.loop-left.invariant

pub put_step-requires : goal.put_step-requires
put_step-requires c =
    let rs = c.args.records.now in
    -- the records are bytes, so there is room for all their lines
    let room : c.args.self.now.size + length (step_lines (moves_of rs)) ≤ 93000 = omega (arith, steps-short rs (λ i. omega (arith, c.type_inv.records i))) in
    left_room (step_line _ _) _ (turned (goal.at.put_step-requires c).In-len3-up) room

pub loop-left-preserved : goal.loop-left-preserved
loop-left-preserved c = rw (take_rest c.loop-left.left.now 3) (left_less (turned (goal.at.loop-left-preserved c).In-len3-up) c.put_step.ensures)

pub returns : goal.returns
returns c =
    let w = left_none (rw (steps_end c.loop-left.left.now c.in_default.len_below) at c.loop-left.invariant) in
    (w, wrote-within _ w (steps-short c.args.records.now (λ i. omega (arith, c.type_inv.records i))))

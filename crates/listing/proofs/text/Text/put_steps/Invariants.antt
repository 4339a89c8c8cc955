-- `listing::text::Text::put_steps` meets its contract. The invariant: what is written so far, and then the lines of the steps left, are the whole text.
use lib.ListN.{length}
use Rattle.rewritings.specs.Moves.{moves_of}
use Rattle.listing.specs.Listing.{step_lines}
use Rattle.listing.proofs.Writing.{Left}
use Rattle.listing.proofs.text.Text.put_steps.Given as goal

abbrev pub invariant-loop-left : goal.invariant-loop-left
invariant-loop-left l = Left l.fn.self.bytes l.fn.self.size (step_lines (moves_of l.records)) l.self.bytes l.self.size (step_lines (moves_of l.left))

abbrev pub decreases-loop-left : goal.decreases-loop-left
decreases-loop-left l = length l.left

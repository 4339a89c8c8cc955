-- `listing::text::Text::put_step` meets its contract: two labelled numbers and the end of the line, one after another.
use Prim.Native.Nat.{ℕ}
use native.Mathlib.Omega.{arith}
use lib.ListN.{length-append}
use Rattle.listing.specs.Listing.{step_line}
use Rattle.listing.proofs.Writing.{left_all, left_less, left-last}
use Rattle.listing.proofs.text.Text.put_step.Goals as goal

pub put_labelled-requires : goal.put_labelled-requires
unfolding step_line
put_labelled-requires c = omega (arith, length-append {A = ℕ})

pub put_labelled-requires-2 : goal.put_labelled-requires-2
unfolding step_line
put_labelled-requires-2 c = omega (arith, length-append {A = ℕ})

pub end_line-requires : goal.end_line-requires
unfolding step_line
end_line-requires c = omega (arith, length-append {A = ℕ})

pub returns : goal.returns
unfolding step_line
returns c =
    let one = left_less (left_all c.args.self.now.bytes c.args.self.now.size (step_line c.args.law c.args.place)) c.put_labelled.ensures in
    left-last (left_less one c.put_labelled-2.ensures) c.end_line.ensures

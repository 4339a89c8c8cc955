-- `listing::text::Text::put_refusal` meets its contract: two labelled numbers and the end of the line, one after another.
use Rattle.listing.specs.Listing.{refused_line}
use Rattle.listing.proofs.Lengths.{refused-short}
use Rattle.listing.proofs.Writing.{left_all, left_less, left-last, wrote-within}
use Rattle.listing.proofs.text.Text.put_refusal.Goals as goal

pub returns : goal.returns
unfolding refused_line
returns c =
    let one = left_less (left_all c.args.self.now.bytes c.args.self.now.size (refused_line c.args.refusal)) c.put_labelled.ensures in
    let place = rw c.print_place.ensures.whole at c.put_labelled-2.ensures in
    let w = left-last (left_less one place) c.end_line.ensures in
    (w, wrote-within 50 w (refused-short c.args.refusal))

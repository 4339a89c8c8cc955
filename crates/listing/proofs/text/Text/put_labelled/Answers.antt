-- `listing::text::Text::put_labelled` meets its contract: the label and the digits are written, one after the other.
use native.Mathlib.Omega.{arith}
use mathlib.Core.Path.{◌≡◌, ◌∙◌, ap}
use lib.ListN.{length, take}
use Rattle.listing.specs.Text.{decimal}
use Rattle.listing.proofs.Decimal.{fewest_decimal, fewest_twenty, labelled-length}
use Rattle.listing.proofs.Writing.{wrote-labelled}
use Rattle.listing.proofs.text.Text.put_labelled.Goals.{After-decimal-width}
use Rattle.listing.proofs.text.Text.put_labelled.Goals as goal

-- the kit's digits are those of the definition
digits_are : (c : After-decimal-width) → take c.decimal-width.result c.decimal-width.new.out ≡ decimal c.args.number
digits_are c =
    let e = c.decimal-width.ensures in
    e.digits ∙ fewest_decimal c.args.number _ (fewest_twenty c.args.number _ c.ranges.number.fits e.len) e.len

pub copy_in-self-requires : goal.copy_in-self-requires
copy_in-self-requires c = omega (arith, labelled-length c.args.label.now c.args.number)

pub copy_in-self-requires-2 : goal.copy_in-self-requires-2
copy_in-self-requires-2 c =
    let d = digits_are (goal.at.copy_in-self-requires-2 c).After-decimal-width in
    omega (arith, c.copy_in-self.ensures.1, ap length d, labelled-length c.args.label.now c.args.number)

pub invariant_of-self : goal.invariant_of-self
invariant_of-self c =
    let d = digits_are (goal.at.invariant_of-self c).After-decimal-width in
    record {
      long = omega (arith, c.copy_in-self.auto.dst, c.copy_in-self-2.auto.dst);
      within = omega (arith, c.copy_in-self.ensures.1, c.copy_in-self-2.ensures.1, ap length d, labelled-length c.args.label.now c.args.number);
    }

pub returns : goal.returns
returns c =
    wrote-labelled c.args.label.now c.args.number (omega arith) c.copy_in-self.auto.dst c.copy_in-self.ensures
    (digits_are (goal.at.returns c).After-decimal-width) c.copy_in-self-2.ensures

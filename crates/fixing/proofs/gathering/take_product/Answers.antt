-- `fixing::gathering::take_product` meets its contract: the part that is lent to `close` comes back with its first summand in front.
use Prim.Native.Nat.{◌-◌, ◌≤◌}
use mathlib.Core.Path.{refl, ◌∙◌}
use mathlib.Core.Logic.{inr}
use lib.ListN.{length, get_or}
use Rattle.fixing.proofs.Steps.{operator_passed}
use Rattle.fixing.proofs.Products.{parts-few, start-below, start-above, action_is_low, product-room, product-done}
use Rattle.fixing.proofs.Spans.{part_length, put_back, put_back-below}
use native.Mathlib.Omega.{arith}
use Rattle.fixing.proofs.gathering.take_product.Goals as goal

pub returns-then-parts-lt2 : goal.returns-then-parts-lt2
returns-then-parts-lt2 c = operator_passed c.requires.1 c.requires.2 c.requires.0 c.if-parts-lt2.true (inr c.requires.3)

pub offset_bounds-starts-parts : goal.offset_bounds-starts-parts
offset_bounds-starts-parts c = omega (arith, parts-few c.requires.0 c.if-parts-lt2.false)

pub bounds-starts-parts : goal.bounds-starts-parts
bounds-starts-parts c = omega (arith, parts-few c.requires.0 c.if-parts-lt2.false)

pub put_behind-requires : goal.put_behind-requires
put_behind-requires c =
    let s = c.args in
    let g = c.requires.0 in
    let two = c.if-parts-lt2.false in
    let first = get_or s.starts.now (s.stack.parts - 1) 0 in
    let below = start-below g two in
    let above = start-above g two in
    let room : s.stack.entries ≤ length s.entries.now = omega arith in
    let back = put_back s.entries.now c.close-size.new.part first s.stack.entries below room (c.close-size.auto.part ∙ part_length s.entries.now first s.stack.entries room below) in
    let same = put_back-below back (first - 1) (omega arith) in
    let fits = product-room g two c.requires.1 c.requires.2 c.requires.3 c.close-size.new.links c.close-size.new.part c.close-size.result c.close-size.ensures _ (back.long ∙ g.entries_long) back.below back.first in (
      above,
      omega (arith, back.long, g.entries_long),
      omega (arith, back.long, g.entries_long),
      rw same (action_is_low g two),
      rw same (omega (arith, fits)),
      omega arith,
      c.close-size.auto.links ∙ g.links_long,
      g.sizes_long,
      g.ends_long,
    )

pub returns : goal.returns
returns c =
    let s = c.args in
    let g = c.requires.0 in
    let two = c.if-parts-lt2.false in
    let first = get_or s.starts.now (s.stack.parts - 1) 0 in
    let below = start-below g two in
    let above = start-above g two in
    let room : s.stack.entries ≤ length s.entries.now = omega arith in
    let back = put_back s.entries.now c.close-size.new.part first s.stack.entries below room (c.close-size.auto.part ∙ part_length s.entries.now first s.stack.entries room below) in
    let same = put_back-below back (first - 1) (omega arith) in
    let e = c.put_behind.ensures in
    rw (e.linked_on, e.grown, e.ended)
    (product-done g two c.requires.1 c.requires.2 c.requires.3 c.close-size.new.links c.close-size.new.part c.close-size.result c.close-size.ensures _ (back.long ∙ g.entries_long) back.below back.first _ _ same refl)

-- `areas::put_plan` meets its contract: the two parts one behind the other, then zeros.
use Prim.Native.Nat.{◌≤◌}
use native.Mathlib.Omega.{arith}
use mathlib.Core.Path.{◌∙◌}
use lib.ListN.{length}
use Rattle.areas.proofs.Storing.{filled_first, filled_within, filled_padded, filled_room, filled_more, first_fits}
use Rattle.areas.proofs.put_plan.Goals as goal

pub copy_in-middle-requires : goal.copy_in-middle-requires
copy_in-middle-requires c =
    let fits : length c.args.left.now ≤ length c.args.dst.now = first_fits _ c.args.right.now _ c.requires in
    omega arith

pub copy_in-end-requires : goal.copy_in-end-requires
copy_in-end-requires c =
    let v = c.args.left.now in
    let fits = first_fits v c.args.right.now _ c.requires in
    let first = filled_first c.args.dst.now v fits _ _ c.copy_in-middle.ensures in
    filled_room c.args.dst.now v _ _ first c.args.right.now c.requires

pub clear_from-requires : goal.clear_from-requires
clear_from-requires c =
    let v = c.args.left.now in
    let fits = first_fits v c.args.right.now _ c.requires in
    let first = filled_first c.args.dst.now v fits _ _ c.copy_in-middle.ensures in
    let both = filled_more c.args.dst.now v _ _ first c.args.right.now c.requires _ _ c.copy_in-end.ensures.0 c.copy_in-end.ensures.1 in
    filled_within c.args.dst.now _ _ _ both c.requires

pub returns : goal.returns
returns c =
    let v = c.args.left.now in
    let fits = first_fits v c.args.right.now _ c.requires in
    let first = filled_first c.args.dst.now v fits _ _ c.copy_in-middle.ensures in
    let both = filled_more c.args.dst.now v _ _ first c.args.right.now c.requires _ _ c.copy_in-end.ensures.0 c.copy_in-end.ensures.1 in
    (c.clear_from.ensures ∙ filled_padded c.args.dst.now _ _ _ both c.requires, both.place)

-- `areas::put_before` meets its contract: the plan up to the last step, the words that it took away, the plan behind it, then zeros.
use native.Mathlib.Omega.{arith}
use Prim.Native.Nat.{◌≤◌, ◌+◌}
use mathlib.Core.Path.{refl, sym, ◌∙◌}
use lib.ListN.{length}
use lib.Seq.{length-take-le}
use Rattle.areas.proofs.Storing.{behind-within, before_none, one-fits, second-room, third-room, third-within, third-padded}
use Rattle.areas.proofs.put_before.Goals as goal

pub overflow_add-behind : goal.overflow_add-behind
overflow_add-behind c =
    let inside : c.args.state.at + c.args.state.new ≤ c.args.size = behind-within c.args.plan.now c.args.old.now _ _ _ c.requires.0 c.requires.1 in
    omega arith

pub slice_bounds-copy_in-end : goal.slice_bounds-copy_in-end
slice_bounds-copy_in-end c =
    let inside : c.args.state.at + c.args.state.new ≤ c.args.size = behind-within c.args.plan.now c.args.old.now _ _ _ c.requires.0 c.requires.1 in
    sym (length-take-le _ _ (omega arith))

pub copy_in-first-requires : goal.copy_in-first-requires
copy_in-first-requires c =
    let fits = one-fits c.args.plan.now c.args.old.now c.args.dst.now c.args.size c.args.state c.requires.0 c.requires.1 c.if-state-eq0.false in
    omega (arith, fits)

pub slice_bounds-copy_in-end-else-state-eq0 : goal.slice_bounds-copy_in-end-else-state-eq0
slice_bounds-copy_in-end-else-state-eq0 c = sym (length-take-le _ _ (omega (arith, c.requires.1.old_in)))

pub copy_in-second-requires : goal.copy_in-second-requires
copy_in-second-requires c =
    second-room c.args.plan.now c.args.old.now c.args.dst.now c.args.size c.args.state c.requires.0 c.requires.1 c.if-state-eq0.false
    _ _ c.copy_in-first.ensures

pub slice_bounds-copy_in-count : goal.slice_bounds-copy_in-count
slice_bounds-copy_in-count c = behind-within c.args.plan.now c.args.old.now _ _ _ c.requires.0 c.requires.1

pub slice_bounds-copy_in-start : goal.slice_bounds-copy_in-start
slice_bounds-copy_in-start c = behind-within c.args.plan.now c.args.old.now _ _ _ c.requires.0 c.requires.1

pub copy_in-third-requires : goal.copy_in-third-requires
copy_in-third-requires c =
    third-room c.args.plan.now c.args.old.now c.args.dst.now c.args.size c.args.state c.requires.0 c.requires.1 c.if-state-eq0.false
    _ _ c.copy_in-first.ensures _ _ c.copy_in-second.ensures

pub clear_from-requires-else-state-eq0 : goal.clear_from-requires-else-state-eq0
clear_from-requires-else-state-eq0 c =
    let within = third-within c.args.plan.now c.args.old.now c.args.dst.now c.args.size c.args.state c.requires.0 c.requires.1 c.if-state-eq0.false
    _ _ c.copy_in-first.ensures _ _ c.copy_in-second.ensures _ _ c.copy_in-third.ensures in
    omega (arith, within)

pub returns-then-state-eq0 : goal.returns-then-state-eq0
returns-then-state-eq0 c =
    c.clear_from.ensures
    ∙ rw (before_none c.args.plan.now c.args.old.now c.args.size (length c.args.dst.now) c.args.state c.requires.0 c.requires.1 c.if-state-eq0.true) refl

pub returns-else-state-eq0 : goal.returns-else-state-eq0
returns-else-state-eq0 c =
    c.clear_from-else-state-eq0.ensures
    ∙ third-padded c.args.plan.now c.args.old.now c.args.dst.now c.args.size c.args.state c.requires.0 c.requires.1 c.if-state-eq0.false
    _ _ c.copy_in-first.ensures _ _ c.copy_in-second.ensures _ _ c.copy_in-third.ensures

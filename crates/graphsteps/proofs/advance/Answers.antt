-- `graphsteps::advance` meets its contract: by what the next entry is, and by whether a law fits there.
use native.Mathlib.Omega.{arith}
use mathlib.Core.Path.{refl, sym}
use lib.Seq.{length-take-le}
use Rattle.graphsteps.specs.Holding.{arrays, no_node}
use Rattle.graphsteps.proofs.Terms.{some_room, node-inside}
use Rattle.graphsteps.proofs.Outcomes as out
use Rattle.graphsteps.proofs.advance.Goals as goal

pub read_term-requires : goal.read_term-requires
read_term-requires c =
    let room = some_room c.args.tables.now c.requires.n_value.1 c.args.limit c.requires.n_value.2 (arrays c.args.own.now c.args.first.now c.args.second.now c.args.sizes.now c.args.stack.now c.args.todo.now) c.args.reading c.requires.fits.0 c.requires.n_value.3 c.requires.fits.1.some_plan c.requires.fits.1.holding in
    record { height_in_bounds = (omega (arith, room, c.requires.fits.0.stack_long), c.requires.n_value.3, omega (arith, room), c.requires.fits.0.stack_long); v_in_bounds = λ l. omega (arith, c.requires.fits.0.sizes_long, node-inside c.args.tables.now c.requires.n_value.1 c.args.limit c.requires.n_value.2 (arrays c.args.own.now c.args.first.now c.args.second.now c.args.sizes.now c.args.stack.now c.args.todo.now) c.args.reading c.requires.fits.0 c.requires.n_value.3 c.requires.fits.1.some_plan c.requires.fits.1.holding l) }

pub returns-then-v-ge-FIRST_NODE : goal.returns-then-v-ge-FIRST_NODE
returns-then-v-ge-FIRST_NODE c =
    let d = c.read_term.ensures in
    out.on-node c.args.tables.now c.requires.n_value.1 c.args.limit c.requires.n_value.2 c.args.allowed c.args.room _ _ _ _ _ _ c.args.reading c.requires.fits.0 c.requires.n_value.3 c.if-v-ge-FIRST_NODE.true d.1 d.0

pub read_term-requires-then-v-n : goal.read_term-requires-then-v-n
read_term-requires-then-v-n c =
    let room = some_room c.args.tables.now c.requires.n_value.1 c.args.limit c.requires.n_value.2 (arrays c.args.own.now c.args.first.now c.args.second.now c.args.sizes.now c.args.stack.now c.args.todo.now) c.args.reading c.requires.fits.0 c.requires.n_value.3 c.requires.fits.1.some_plan c.requires.fits.1.holding in
    record { height_in_bounds = (omega (arith, room, c.requires.fits.0.stack_long), c.requires.n_value.3, omega (arith, room), c.requires.fits.0.stack_long); v_in_bounds = λ l. absurd (omega (arith, c.if-v-ge-FIRST_NODE.false)) }

pub returns-then-v-n : goal.returns-then-v-n
returns-then-v-n c =
    let d = c.read_term-then-v-n.ensures in
    out.on-action c.args.tables.now c.requires.n_value.1 c.args.limit c.requires.n_value.2 c.args.allowed c.args.room _ _ _ _ _ _ c.args.reading c.requires.fits.0 c.requires.n_value.3 (rw (← c.requires.n_value.0) c.if-v-n.true) d.1 d.0

pub take_operands-operands-requires : goal.take_operands-operands-requires
take_operands-operands-requires c =
    let low = rw c.requires.n_value.0 at c.if-v-n.false in
    out.signed_here c.args.tables.now c.requires.n_value.1 c.args.limit c.requires.n_value.2 c.args.allowed c.args.room _ _ _ _ _ _ c.args.reading c.requires.fits.0 c.requires.n_value.3 low c.if-v-ge-FIRST_NODE.false c.requires.fits.1

pub redex_size-old-requires : goal.redex_size-old-requires
redex_size-old-requires c =
    let low = rw c.requires.n_value.0 at c.if-v-n.false in
    out.sizes-there c.args.tables.now c.requires.n_value.1 c.args.limit c.requires.n_value.2 c.args.allowed c.args.room _ _ _ _ _ _ c.args.reading c.requires.fits.0 c.requires.n_value.3 low c.if-v-ge-FIRST_NODE.false c.take_operands-operands.result c.take_operands-operands.ensures c.requires.fits.1

pub slice_bounds-redex_at-end-2 : goal.slice_bounds-redex_at-end-2
slice_bounds-redex_at-end-2 c =
    sym (length-take-le c.args.reading.count c.args.own.now c.requires.fits.0.nodes_in)

pub slice_bounds-redex_at-end-4 : goal.slice_bounds-redex_at-end-4
slice_bounds-redex_at-end-4 c =
    sym (length-take-le c.args.reading.count c.args.first.now (omega (arith, c.requires.fits.0.first_long, c.requires.fits.0.nodes_in)))

pub slice_bounds-redex_at-end-6 : goal.slice_bounds-redex_at-end-6
slice_bounds-redex_at-end-6 c =
    sym (length-take-le c.args.reading.count c.args.second.now (omega (arith, c.requires.fits.0.second_long, c.requires.fits.0.nodes_in)))

pub redex_at-requires : goal.redex_at-requires
redex_at-requires c =
    let low = rw c.requires.n_value.0 at c.if-v-n.false in
    (c.requires.n_value.1, out.nodes-there c.args.tables.now c.requires.n_value.1 c.args.limit c.requires.n_value.2 c.args.allowed c.args.room _ _ _ _ _ _ c.args.reading c.requires.fits.0 c.requires.n_value.3 low c.if-v-ge-FIRST_NODE.false c.take_operands-operands.result c.take_operands-operands.ensures, out.root-term c.args.tables.now c.requires.n_value.1 c.args.limit c.requires.n_value.2 c.args.allowed c.args.room _ _ _ _ _ _ c.args.reading c.requires.fits.0 c.requires.n_value.3 low c.if-v-ge-FIRST_NODE.false c.take_operands-operands.result c.take_operands-operands.ensures c.requires.fits.1)

pub returns-then-count-own : goal.returns-then-count-own
returns-then-count-own c = record { advanced = λ w h. no_node c.if-count-own.true refl }

pub read_sign-requires : goal.read_sign-requires
read_sign-requires c =
    let low = rw c.requires.n_value.0 at c.if-v-n.false in
    let old_less = out.old_less c.args.tables.now c.requires.n_value.1 c.args.limit c.requires.n_value.2 c.args.allowed c.args.room _ _ _ _ _ _ c.args.reading c.requires.fits.0 c.requires.n_value.3 low c.if-v-ge-FIRST_NODE.false c.take_operands-operands.result c.take_operands-operands.ensures c.requires.fits.1 in
    let room = some_room c.args.tables.now c.requires.n_value.1 c.args.limit c.requires.n_value.2 (arrays c.args.own.now c.args.first.now c.args.second.now c.args.sizes.now c.args.stack.now c.args.todo.now) c.args.reading c.requires.fits.0 c.requires.n_value.3 c.requires.fits.1.some_plan c.requires.fits.1.holding in
    let f = c.requires.fits.0 in
    record { own_len_bound = (f.own_most, f.first_long, f.second_long, f.sizes_long, f.stack_long); count_in_bounds = (omega (arith, f.nodes_in, c.if-count-own.false), c.requires.n_value.3, omega (arith, room), old_less.3, omega (arith, old_less, c.redex_size-old.ensures.0)) }

pub returns-in_default : goal.returns-in_default
returns-in_default c =
    let low = rw c.requires.n_value.0 at c.if-v-n.false in
    let e = c.read_sign.ensures in
    out.on-sign c.args.tables.now c.requires.n_value.1 c.args.limit c.requires.n_value.2 c.args.allowed c.args.room _ _ _ _ _ _ c.args.reading c.requires.fits.0 c.requires.n_value.3 low c.if-v-ge-FIRST_NODE.false c.take_operands-operands.result c.take_operands-operands.ensures _ c.redex_at.ensures.0 c.in_default.is (omega (arith, c.requires.fits.0.nodes_in, c.if-count-own.false)) _ c.redex_size-old.ensures.0 e.0 e.1 e.2 e.3 e.4 e.5

pub returns-then-allowed-eq0 : goal.returns-then-allowed-eq0
returns-then-allowed-eq0 c =
    let low = rw c.requires.n_value.0 at c.if-v-n.false in
    out.on-none_allowed c.args.tables.now c.requires.n_value.1 c.args.limit c.requires.n_value.2 c.args.allowed c.args.room _ _ _ _ _ _ c.args.reading c.requires.fits.0 c.requires.n_value.3 low c.if-v-ge-FIRST_NODE.false c.take_operands-operands.result c.take_operands-operands.ensures _ c.redex_at.ensures.0 c.in-Some.redex c.in-Some.is c.if-allowed-eq0.true

pub returns-then-room-lt3 : goal.returns-then-room-lt3
returns-then-room-lt3 c =
    let low = rw c.requires.n_value.0 at c.if-v-n.false in
    out.on-list_full c.args.tables.now c.requires.n_value.1 c.args.limit c.requires.n_value.2 c.args.allowed c.args.room _ _ _ _ _ _ c.args.reading c.requires.fits.0 c.requires.n_value.3 low c.if-v-ge-FIRST_NODE.false c.take_operands-operands.result c.take_operands-operands.ensures _ c.redex_at.ensures.0 c.in-Some.redex c.in-Some.is (omega (arith, c.if-allowed-eq0.false)) c.if-room-lt3.true

pub overflow_sub-kept : goal.overflow_sub-kept
overflow_sub-kept c =
    let low = rw c.requires.n_value.0 at c.if-v-n.false in
    let old_less = out.old_less c.args.tables.now c.requires.n_value.1 c.args.limit c.requires.n_value.2 c.args.allowed c.args.room _ _ _ _ _ _ c.args.reading c.requires.fits.0 c.requires.n_value.3 low c.if-v-ge-FIRST_NODE.false c.take_operands-operands.result c.take_operands-operands.ensures c.requires.fits.1 in
    omega (arith, old_less, c.redex_size-old.ensures.0)

pub overflow_add-bounds : goal.overflow_add-bounds
overflow_add-bounds c = omega (arith, c.requires.n_value.3)

pub overflow_sub-bounds : goal.overflow_sub-bounds
overflow_sub-bounds c =
    -- the plan is no longer than it may be
    let h = c.requires.fits.1.holding in
    omega (arith, h.size_is, h.short)

pub put_side-requires : goal.put_side-requires
put_side-requires c =
    let low = rw c.requires.n_value.0 at c.if-v-n.false in
    let d = out.law_bounds c.args.tables.now c.requires.n_value.1 c.args.limit c.requires.n_value.2 c.args.allowed c.args.room _ _ _ _ _ _ c.args.reading c.requires.fits.0 c.requires.n_value.3 low c.if-v-ge-FIRST_NODE.false c.take_operands-operands.result c.take_operands-operands.ensures _ c.redex_at.ensures.0 c.in-Some.redex c.in-Some.is c.requires.fits.1 in
    record { first_choice_le_law = (d.0, d.1, omega (arith, c.requires.n_value.3, c.requires.fits.0.todo_long)); put_ready = out.side_ready c.args.tables.now c.requires.n_value.1 c.args.limit c.requires.n_value.2 c.args.allowed c.args.room _ _ _ _ _ _ c.args.reading c.requires.fits.0 c.requires.n_value.3 low c.if-v-ge-FIRST_NODE.false c.take_operands-operands.result c.take_operands-operands.ensures _ c.redex_at.ensures.0 c.in-Some.redex c.in-Some.is _ c.redex_size-old.ensures.0 c.requires.fits.1 }

pub returns-in_default-put_side : goal.returns-in_default-put_side
returns-in_default-put_side c =
    let low = rw c.requires.n_value.0 at c.if-v-n.false in
    out.on-too_long c.args.tables.now c.requires.n_value.1 c.args.limit c.requires.n_value.2 c.args.allowed c.args.room _ _ _ _ _ _ c.args.reading c.requires.fits.0 c.requires.n_value.3 low c.if-v-ge-FIRST_NODE.false c.take_operands-operands.result c.take_operands-operands.ensures _ c.redex_at.ensures.0 c.in-Some.redex c.in-Some.is _ c.redex_size-old.ensures.0 (omega arith) c.if-room-lt3.false (out.was_long c.put_side.ensures c.in_default-put_side.is)

pub overflow_add-size : goal.overflow_add-size
overflow_add-size c =
    let low = rw c.requires.n_value.0 at c.if-v-n.false in
    let old_less = out.old_less c.args.tables.now c.requires.n_value.1 c.args.limit c.requires.n_value.2 c.args.allowed c.args.room _ _ _ _ _ _ c.args.reading c.requires.fits.0 c.requires.n_value.3 low c.if-v-ge-FIRST_NODE.false c.take_operands-operands.result c.take_operands-operands.ensures c.requires.fits.1 in
    let d = out.was_put c.put_side.ensures c.in-Some-put_side.placed c.in-Some-put_side.is in
    omega (arith, old_less, c.redex_size-old.ensures.0, d.3, c.requires.n_value.2)

pub overflow_add-at : goal.overflow_add-at
overflow_add-at c =
    let room = some_room c.args.tables.now c.requires.n_value.1 c.args.limit c.requires.n_value.2 (arrays c.args.own.now c.args.first.now c.args.second.now c.args.sizes.now c.args.stack.now c.args.todo.now) c.args.reading c.requires.fits.0 c.requires.n_value.3 c.requires.fits.1.some_plan c.requires.fits.1.holding in
    omega (arith, room)

pub overflow_sub-at : goal.overflow_sub-at
overflow_sub-at c =
    let low = rw c.requires.n_value.0 at c.if-v-n.false in
    let old_less = out.old_less c.args.tables.now c.requires.n_value.1 c.args.limit c.requires.n_value.2 c.args.allowed c.args.room _ _ _ _ _ _ c.args.reading c.requires.fits.0 c.requires.n_value.3 low c.if-v-ge-FIRST_NODE.false c.take_operands-operands.result c.take_operands-operands.ensures c.requires.fits.1 in
    omega (arith, old_less, c.redex_size-old.ensures.0)

pub after_step-next-requires : goal.after_step-next-requires
after_step-next-requires c = tt

pub returns : goal.returns
returns c =
    let low = rw c.requires.n_value.0 at c.if-v-n.false in
    out.on_step c.args.tables.now c.requires.n_value.1 c.args.limit c.requires.n_value.2 c.args.allowed c.args.room _ _ _ _ _ _ c.args.reading c.requires.fits.0 c.requires.n_value.3 low c.if-v-ge-FIRST_NODE.false c.take_operands-operands.result c.take_operands-operands.ensures _ c.redex_at.ensures.0 c.in-Some.redex c.in-Some.is _ c.redex_size-old.ensures.0 (omega arith) c.if-room-lt3.false _ _ (out.was_put c.put_side.ensures c.in-Some-put_side.placed c.in-Some-put_side.is) c.after_step-next.ensures

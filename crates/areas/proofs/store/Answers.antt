-- `areas::store` meets its contract: the plan stands in one area by the parity, and the one before it in the other.
use Rattle.areas.proofs.Storing.{stored_even, stored_odd}
use Rattle.areas.proofs.store.Goals as goal

pub returns-then-state : goal.returns-then-state
returns-then-state c =
    let h = c.put_both.ensures in
    stored_even c.args.a.now c.args.b.now _ _ _ c.args.old.now c.args.state _ h.size c.if-state.true h.plan h.plan_before

pub returns-else-state : goal.returns-else-state
returns-else-state c =
    let h = c.put_both-else-state.ensures in
    stored_odd c.args.a.now c.args.b.now _ _ _ c.args.old.now c.args.state _ h.size c.if-state.false h.plan h.plan_before

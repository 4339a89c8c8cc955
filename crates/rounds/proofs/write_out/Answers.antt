-- `rounds::write_out` meets its contract: the entries still to read are put on the stack, and all are written.
use native.Mathlib.Omega.{arith}
use Rattle.graph.specs.Graph.{graph}
use Rattle.rounds.proofs.Loading.{entries_fit, plan_writable, plan-written}
use Rattle.rounds.proofs.write_out.Goals as goal

pub push_rest-entries-requires : goal.push_rest-entries-requires
push_rest-entries-requires c =
    let a = c.args in
    let p = c.requires in
    (omega (arith, p.stack_len), omega (arith, entries_fit (graph a.own.now a.first.now a.second.now) a.stack.now a.height a.todo.now a.rest p.nodes.1 p.stack_len.1 p.stack_len.3, p.stack_len))

pub write_back-requires : goal.write_back-requires
write_back-requires c =
    let a = c.args in
    let p = c.requires in
    let k = c.push_rest-entries in
    plan_writable (graph a.own.now a.first.now a.second.now) a.stack.now a.height a.todo.now a.rest k.new.stack a.dst.now k.result k.ensures.1 p.nodes.0 p.nodes.1 (omega (arith, k.auto.stack, p.stack_len)) p.stack_len.2

pub returns : goal.returns
returns c =
    let a = c.args in
    let p = c.requires in
    let k = c.push_rest-entries in
    let w = c.write_back in
    plan-written (graph a.own.now a.first.now a.second.now) a.stack.now a.height a.todo.now a.rest k.new.stack a.dst.now w.new.dst k.result w.result k.ensures.1 p.stack_len.2 w.ensures

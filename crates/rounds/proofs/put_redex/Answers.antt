-- `rounds::put_redex` meets its contract: the sign stands on the entries of its operands, and all are written.
use mathlib.Core.Path.{sym, ◌∙◌}
use Rattle.graph.specs.Graph.{graph}
use Rattle.rounds.proofs.Loading.{Signed, sign-one, sign-two, root_writable, root-written}
use Rattle.rounds.proofs.put_redex.Goals.{then-takes_two, else-takes_two}
use Rattle.rounds.proofs.put_redex.Goals as goal

pub write_back-requires : goal.write_back-requires
write_back-requires c =
    let a = c.args in
    let p = c.requires in
    let j = c.if-takes_two in
    let t = c.takes_two.ensures.whole in
    -- the entries of the operands are on the stack
    let signed : Signed a.stack.now a.cut.word a.cut.a a.cut.b j.stack j.height =
    elim j.branch [ then-takes_two w ↦ sign-two (sym t ∙ w.if-takes_two.true) w.stack-is w.height-is | else-takes_two w ↦ sign-one (sym t ∙ w.if-takes_two.false) w.stack-is w.height-is ] in
    root_writable (graph a.own.now a.first.now a.second.now) a.stack.now a.cut p.stack_len.0 j.stack j.height signed a.old.now p.nodes.0 p.nodes.1 p.stack_len.1 p.stack_len.2

pub returns : goal.returns
returns c =
    let a = c.args in
    let p = c.requires in
    let j = c.if-takes_two in
    let t = c.takes_two.ensures.whole in
    let w = c.write_back in
    let signed : Signed a.stack.now a.cut.word a.cut.a a.cut.b j.stack j.height =
    elim j.branch [ then-takes_two w ↦ sign-two (sym t ∙ w.if-takes_two.true) w.stack-is w.height-is | else-takes_two w ↦ sign-one (sym t ∙ w.if-takes_two.false) w.stack-is w.height-is ] in
    root-written (graph a.own.now a.first.now a.second.now) a.stack.now a.cut p.stack_len.0 j.stack j.height signed a.old.now w.new.dst w.result p.stack_len.1 p.stack_len.2 p.nodes.1 w.ensures

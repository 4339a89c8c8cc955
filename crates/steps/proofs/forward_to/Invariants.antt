-- The gap is moved forward word by word. The invariant: the plan is the one at entry.
use Prim.Native.Nat.{◌+◌}
use Rattle.buffer.specs.Buffer.{moved}
use Rattle.steps.specs.Working.{Same}
use Rattle.steps.proofs.forward_to.Given as goal

abbrev pub invariant-loop-read : goal.invariant-loop-read
invariant-loop-read l = Same l.tables l.initial.left l.initial.starts l.right l.left l.starts l.right l.state (moved l.state l.read (l.gap + l.read))

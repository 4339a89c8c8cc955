-- The entries are copied to end before a place, unless they are too many words.
use native.Mathlib.Omega.{arith}
use Prim.Native.Nat.{◌+◌, ◌-◌, ◌≤◌}
use mathlib.Core.Path.{◌≡◌}
use lib.ListN.{length}
use Rattle.graph.proofs.Parts.{put_mid-overwrite}
use Rattle.redexes.specs.Slots.{put_at, too_long}
use Rattle.redexes.proofs.put_entries.Goals as goal

pub returns-then-at-size : goal.returns-then-at-size
returns-then-at-size c = too_long (omega (arith, c.entries_size-size.ensures.0, c.if-at-size.true))

pub returns : goal.returns
returns c =
    let a = c.args in
    let n = length a.entries.now in
    let size = c.entries_size-size.ensures.0 in
    let room : n ≤ a.at.rest = c.requires.2.room (omega (arith, size, c.if-at-size.false)) in
    let k : a.at.rest - (a.at.rest - n) ≡ n = omega arith in
    let end : a.at.rest - n + n ≡ a.at.rest = omega arith in
    rw (c.copy_from_slice.ensures.after, put_mid-overwrite (a.at.rest - n) (a.at.rest - (a.at.rest - n)) a.todo.now a.entries.now k)
    (put_at (a.at.rest - n) c.entries_size-size.result end size c.if-at-size.false)

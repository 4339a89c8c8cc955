-- `stations::file::gather` meets its contract. The invariant: what is copied and what the blocks left hold make the whole.
use Prim.Native.Nat.{◌<◌}
use Rattle.stations.specs.File.{blocks}
use Rattle.stations.proofs.Files.{block-long}
use Rattle.stations.proofs.Forms.{count_sound}
use Rattle.stations.proofs.Gathering.{gather-start, room, gather-turn, gather-end}
use native.Mathlib.Omega.{arith}
use Rattle.stations.proofs.file.gather.Goals as goal

pub loop-i-init : goal.loop-i-init
loop-i-init c = (omega arith, gather-start _ _ _ _)

pub put_used-at-requires : goal.put_used-at-requires
put_used-at-requires c =
    let f = c.args.file.now in
    let i = c.loop-i.i in
    let h : i < blocks f = omega arith in
    rw c.block_at.ensures (block-long f i h, count_sound f c.requires.0 i h, room c.loop-i.invariant.1 (omega arith) c.requires.3)

pub loop-i-preserved : goal.loop-i-preserved
loop-i-preserved c =
    let p = c.block_at.ensures in
    (omega arith, gather-turn c.loop-i.invariant.1 (omega arith) c.requires.3 c.put_used-at.auto.area (rw p at c.put_used-at.ensures.0) (rw p at c.put_used-at.ensures.1))

pub returns : goal.returns
returns c = gather-end c.loop-i.invariant.1 (omega arith)

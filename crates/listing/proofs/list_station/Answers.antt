-- `listing::list_station` meets its contract: the text made is put out where it fits, with zeros behind it.
use native.Mathlib.Omega.{arith}
use Rattle.listing.proofs.Endings.{endings}
use Rattle.listing.proofs.Outcome.{too_short, put}
use Rattle.listing.proofs.list_station.Goals as goal

pub returns-then-out-text-clause-whole : goal.returns-then-out-text-clause-whole
returns-then-out-text-clause-whole c =
    let t = c.put_station.new.text in
    too_short c.args.file.now c.args.out.now t.bytes t.size c.put_station.ensures t.within t.long (omega arith)

pub returns-then-out-text-clause-endings : goal.returns-then-out-text-clause-endings
returns-then-out-text-clause-endings c = endings c.args.file.now

pub returns-clause-whole : goal.returns-clause-whole
returns-clause-whole c =
    let t = c.put_station.new.text in
    put c.args.file.now c.args.out.now t.bytes t.size c.put_station.ensures t.within t.long (omega arith) c.put_whole.ensures

pub returns-clause-endings : goal.returns-clause-endings
returns-clause-endings c = endings c.args.file.now

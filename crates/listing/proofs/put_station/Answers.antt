-- `listing::put_station` meets its contract: what the file holds is listed, or why it was refused.
use mathlib.Core.Path.{refl, sym, ◌∙◌}
use Rattle.listing.proofs.Ending.{only_line}
use Rattle.listing.proofs.Files.{refused-file, read-file}
use Rattle.listing.proofs.put_station.Goals as goal

pub returns-in-Err : goal.returns-in-Err
returns-in-Err c =
    only_line c.requires c.put_refusal.ensures.0 ∙ sym (refused-file c.args.file.now _ _ refl refl _ _ _ c.in-Err.is c.read_station.ensures.whole)

pub returns-in-Ok : goal.returns-in-Ok
returns-in-Ok c =
    let p = read-file c.args.file.now _ _ refl refl _ _ _ c.in-Ok.is c.read_station.ensures.whole in
    c.put_plan.ensures ∙ sym p.text

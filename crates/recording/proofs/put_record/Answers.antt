-- `recording::put_record` meets its contract: the law and the two bytes of the place are copied into the list.
use native.Mathlib.Omega.{arith}
use Prim.Native.Nat.{◌+◌, ◌-◌, ◌%◌, ◌/◌}
use mathlib.Core.Path.{◌≡◌}
use mathlib.Core.List.{[], ◌∷◌}
use Rattle.graph.proofs.Parts.{put_mid-overwrite}
use Rattle.rewritings.specs.Moves.{record_of}
use Rattle.recording.proofs.put_record.Goals as goal

pub returns : goal.returns
unfolding record_of
returns c =
    let a = c.args in
    let three : a.used + 3 - a.used ≡ 3 = omega arith in
    -- the place is below 65,536, so that its second byte is its last
    let high : a.place / 256 % 256 ≡ a.place / 256 = omega (arith, c.requires.1) in
    rw (
      c.copy_from_slice.ensures.after,
      c.to_le_bytes.ensures,
      high,
      put_mid-overwrite a.used (a.used + 3 - a.used) a.list.now (a.law ∷ (a.place % 256 ∷ (a.place / 256 ∷ []))) three,
    )

-- A part of an array that is copied over, as words written over the array.
use Prim.Native.Nat.{ℕ}
use mathlib.Core.Path.{◌≡◌}
use mathlib.Core.List.{List}
use lib.ListN.{length}
use lib.Seq.{drop-drop}
use borrow.Rule.Slice.PartMut.{put_mid}
use Rattle.areas.specs.Area.{overwrite}

pub put_mid-overwrite : (a k : ℕ) (xs ys : List ℕ) → k ≡ length ys → put_mid a k xs ys ≡ overwrite xs a ys
unfolding overwrite
put_mid-overwrite a k xs ys e = rw (e, drop-drop (length ys) a xs)

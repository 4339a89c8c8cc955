-- An operator's number in its enum is its word.
use Prim.Native.Nat.{◌+◌}
use mathlib.Core.Path.{◌≡◌, refl}
use denote.Enum.Declared.{tag_of}
use Rattle.plans.specs.contracts.Binary.{the_type}
use Rattle.plans.specs.declared.Binary.{Binary}
use Rattle.plans.specs.declared.Binary.TheVariants.{Choice, Sequence, Merge, LeftMerge, CommunicationMerge, Unless}
use Rattle.plans.specs.Word.{binary_word}
use Rattle.plans.proofs.U8FromBinary.from.Goals as goal

numbered : (o : Binary) → tag_of the_type o + 64 ≡ binary_word o
unfolding binary_word
numbered Choice = refl
numbered Sequence = refl
numbered Merge = refl
numbered LeftMerge = refl
numbered CommunicationMerge = refl
numbered Unless = refl

pub returns : goal.returns
returns c = numbered c.args.operator

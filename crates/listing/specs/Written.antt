-- Nobody need believe this: contracts of functions cite it. The text of a listing so far.
use Rattle.std.specs.Prelude.{ℕ, List, take}
use Rattle.listing.specs.declared.text.Text.{Text}

abbrev pub written : Text → List ℕ
written t = take t.size t.bytes

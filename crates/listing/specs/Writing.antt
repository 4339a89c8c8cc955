-- What the functions that write text answer and leave.
use Rattle.std.specs.Prelude.{ℕ, ◌+◌, ◌≡◌, Bool, true, false, List, ◌++◌, length, take, leb, Some, None, Option as Maybe}
use Rattle.areas.specs.Area.{padded}
use Rattle.listing.specs.Listing.{listing}

-- Text written into d at a place, which left d' and the place r: what stands before r is what stood before, then the text.
pub record Wrote (d : List ℕ) (at : ℕ) (text d' : List ℕ) (r : ℕ) : Type 0 where
  pub so_far : take r d' ≡ take at d ++ text
  pub after : r ≡ at + length text

-- everything that listing a station file answers and leaves
pub record ListOutcome : Type 0 where
  pub answer : Maybe ℕ
  pub out : List ℕ

-- a text for an area: all of it with zeros after it where it fits, and else the area keeps its bytes
abbrev pub if_fits : Bool → List ℕ → List ℕ → ListOutcome
if_fits true text out = record { answer = Some (length text); out = padded text (length out) }
if_fits false text out = record { answer = None; out = out }

unfoldable pub list_outcome : List ℕ → List ℕ → ListOutcome
list_outcome f out = if_fits (leb (length (listing f)) (length out)) (listing f) out

-- no listing is longer
abbrev pub most : ℕ
most = 93000

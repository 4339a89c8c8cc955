-- A rewriting, cut into its records: what the checker is handed. (01, "Checking"; request 108; the customer's word REWRITING.)
use Rattle.std.specs.Prelude.{ℕ, suc, zero, ◌+◌, ◌-◌, ◌*◌, ◌/◌, ◌%◌, Bool, true, false, cond, ◌&&◌, List, [], ◌∷◌, ◌++◌, length, take, leb}
use Rattle.laws.specs.Laws.{highest_law}
use Rattle.rewritings.specs.Moves.{Move, record_of}

-- a step as a rewriting records it: a law from left to right and a place (or a first byte that names no law, and a place); or a law from right to
-- left, a place and the words of the left side
pub data Recorded : Type 0 where
  forward : Move → Recorded
  backward : Move → List ℕ → Recorded

-- "A step whose first byte is 128 more than a law's number goes backwards."
unfoldable pub backward? : ℕ → Bool
backward? k = leb 129 k && leb k (128 + highest_law)

-- "Its place is followed by a two-byte length, low first, and the words of the left side."
unfoldable pub bytes_of_one : Recorded → List ℕ
unfolding record_of
bytes_of_one (forward m) = record_of m.law m.place
bytes_of_one (backward m left) = record_of (128 + m.law) m.place ++ (length left % 256 ∷ (length left / 256 ∷ left))

-- the records of steps, one after another
unfoldable pub bytes_of_all : List Recorded → List ℕ
unfolding bytes_of_one
bytes_of_all [] = []
bytes_of_all (r ∷ rs) = bytes_of_one r ++ bytes_of_all rs

-- what a rewriting begins with: nothing, a record cut short, or a step, with how many bytes its record takes
pub data First : Type 0 where
  nothing cut_short : First
  one_step : Recorded → ℕ → First

-- a step backwards whose left side has so many words, by the bytes behind its length
unfoldable pub first_carried : Move → ℕ → List ℕ → First
first_carried m size r = cond (leb size (length r)) (one_step (backward m (take size r)) (5 + size)) cut_short

-- a step backwards, by the bytes behind its place
unfoldable pub first_backward : Move → List ℕ → First
first_backward m [] = cut_short
first_backward m (l ∷ []) = cut_short
first_backward m (l ∷ (h ∷ r)) = first_carried m (l + 256 * h) r

-- a first byte, a place and the bytes behind it: "any unknown first byte counts as a record of three"
unfoldable pub first_with : ℕ → ℕ → List ℕ → First
first_with k p r =
    cond (backward? k) (first_backward (record { law = k - 128; place = p }) r) (one_step (forward (record { law = k; place = p })) 3)

-- the one place that says where a record ends
unfoldable pub first_record : List ℕ → First
first_record [] = nothing
first_record (k ∷ []) = cut_short
first_record (k ∷ (l ∷ [])) = cut_short
first_record (k ∷ (l ∷ (h ∷ r))) = first_with k (l + 256 * h) r

-- a rewriting gone through: its records, and whether the last one is whole
pub record Cut : Type 0 where
  pub records : List Recorded
  pub whole : Bool

abbrev pub one_more : Recorded → Cut → Cut
one_more r c = record { records = r ∷ c.records; whole = c.whole }

-- one record, and the others from so many bytes on
abbrev pub go_on : First → (ℕ → Cut) → Cut
go_on nothing go = record { records = []; whole = true }
go_on cut_short go = record { records = []; whole = false }
go_on (one_step r size) go = one_more r (go size)

-- record after record: passed over are the first s bytes, which belong to the record before (all of a step's bytes are there, so none is left
-- to pass at the end)
unfoldable pub cut_from : ℕ → List ℕ → Cut
unfolding first_record
cut_from s [] = record { records = []; whole = true }
cut_from zero (b ∷ r) = go_on (first_record (b ∷ r)) (λ size. cut_from (size - 1) r)
cut_from (suc s) (b ∷ r) = cut_from s r

-- a rewriting's records, up to its end or to one that is cut short
unfoldable pub records_of : List ℕ → List Recorded
unfolding cut_from
records_of rewriting = (cut_from 0 rewriting).records

-- whether no record is cut short
unfoldable pub whole? : List ℕ → Bool
unfolding cut_from
whole? rewriting = (cut_from 0 rewriting).whole

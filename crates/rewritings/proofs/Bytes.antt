-- The bytes of records, cut again into the same records; the bytes of steps from left to right are those of their records.
use Prim.Native.Nat.{ℕ, ◌+◌, ◌-◌, ◌≤◌}
use native.Mathlib.Omega.{arith}
use mathlib.Core.Path.{◌≡◌, refl, ap, ◌∙◌}
use mathlib.Core.Bool.{true}
use mathlib.Core.List.{List, [], ◌∷◌, ◌++◌}
use lib.ListN.{length, length-append}
use lib.Seq.{take_at, drop_at}
use borrow.Author.Tests.{le-leb}
use Rattle.laws.specs.Laws.{highest_law}
use Rattle.rewritings.specs.Moves.{Move, record_of, bytes_of}
use Rattle.rewritings.specs.Records.{Recorded, forward, backward, bytes_of_one, bytes_of_all, one_step, first_carried, first_backward, first_with, first_record, Cut, one_more, cut_from, records_of, whole?}
use Rattle.rewritings.proofs.Moves.{place-again}
use Rattle.rewritings.proofs.Cutting.{low_backward, high_backward, cut_by}

-- records whose laws are known
abbrev pub Lawed : Recorded → Type 0
Lawed (forward m) = (1 ≤ m.law) × (m.law ≤ highest_law)
Lawed (backward m left) = (1 ≤ m.law) × (m.law ≤ highest_law)

abbrev pub LawedAll : List Recorded → Type 0
LawedAll [] = Unit
LawedAll (r ∷ rs) = Lawed r × LawedAll rs

-- a record is cut out of its bytes
first-again : (r : Recorded) (rest : List ℕ) → Lawed r → first_record (bytes_of_one r ++ rest) ≡ one_step r (length (bytes_of_one r))
unfolding first_record first_with first_backward first_carried bytes_of_one record_of
first-again (forward m) rest g = rw (low_backward m.law (omega (arith, g.1)), place-again m.place)
first-again (backward m left) rest g =
    let again : 128 + m.law - 128 ≡ m.law = omega arith in
    let size = length left in
    rw (high_backward m.law g.0 g.1, place-again m.place, place-again size, le-leb size (length (left ++ rest)) (omega (arith, length-append left rest)), take_at left rest size refl, again)
    (ap (one_step (backward m left)) (omega arith))

cut_one : (r : Recorded) (rest : List ℕ) → Lawed r → cut_from 0 (bytes_of_one r ++ rest) ≡ one_more r (cut_from 0 rest)
cut_one r rest g =
    cut_by (bytes_of_one r ++ rest) _ (first-again r rest g)
    ∙ ap (λ (l : List ℕ). one_more r (cut_from 0 l)) (drop_at (bytes_of_one r) rest (length (bytes_of_one r)) refl)

cut_all : (rs : List Recorded) → LawedAll rs → cut_from 0 (bytes_of_all rs) ≡ record { records = rs; whole = true }
unfolding bytes_of_all cut_from
cut_all [] g = refl
cut_all (r ∷ rs) g = cut_one r (bytes_of_all rs) g.0 ∙ ap (one_more r) (cut_all rs g.1)

-- records are cut out of their bytes, and all of them are whole
pub cut_again : (rs : List Recorded) → LawedAll rs → records_of (bytes_of_all rs) ≡ rs
unfolding records_of
cut_again rs g = ap (λ (c : Cut). c.records) (cut_all rs g)

pub whole_again : (rs : List Recorded) → LawedAll rs → whole? (bytes_of_all rs) ≡ true
unfolding whole?
whole_again rs g = ap (λ (c : Cut). c.whole) (cut_all rs g)

-- steps from left to right, as records of both directions
unfoldable pub forwards : List Move → List Recorded
forwards [] = []
forwards (m ∷ ms) = forward m ∷ forwards ms

pub bytes_forwards : (ms : List Move) → bytes_of_all (forwards ms) ≡ bytes_of ms
unfolding forwards bytes_of_all bytes_of_one bytes_of
bytes_forwards [] = refl
bytes_forwards (m ∷ ms) = ap (λ (l : List ℕ). record_of m.law m.place ++ l) (bytes_forwards ms)

-- the list of an unfolding, whose laws are all known, is cut into its steps
pub forwards_cut : (ms : List Move) → LawedAll (forwards ms) → (records_of (bytes_of ms) ≡ forwards ms) × (whole? (bytes_of ms) ≡ true)
forwards_cut ms g = rw (← bytes_forwards ms) (cut_again (forwards ms) g, whole_again (forwards ms) g)

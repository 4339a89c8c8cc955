-- How many blocks plans need, what stands around the content of a file's blocks, what blocks hold, and what is refused.
use Prim.Native.Nat.{ℕ}
use mathlib.Core.Path.{◌≡◌, refl}
use mathlib.Core.List.{List, [], ◌∷◌, ◌++◌}
use mathlib.Core.Option.{none}
use lib.ListN.{length, take, drop, replicate}
use Rattle.refusals.specs.Refusal.{reported}
use Rattle.areas.specs.Area.{padded}
use Rattle.blocks.specs.Block.{word, words_sum, two_bytes, unsummed, with_sum, block_of}
use Rattle.tables.specs.Judging.{table_refusal}
use Rattle.plans.specs.Judging.{plan_refusal}
use Rattle.stations.specs.File.{block, joined}
use Rattle.stations.proofs.Examples.{trial}
use Rattle.writing.specs.Writing.{part, held_due, block_due, block_count, station_file, file_length, write_refusal}

-- plans of 1, 504, 505, 1,008, 16,128 and 16,384 words
blocks_needed : block_count 1 ∷ block_count 504 ∷ block_count 505 ∷ block_count 1008 ∷ block_count 16128 ∷ block_count 16384 ∷ [] ≡ 6 ∷ 6 ∷ 7 ∷ 7 ∷ 37 ∷ 38 ∷ []
unfolding block_count
blocks_needed = refl

lengths_needed : file_length 1 ∷ file_length 504 ∷ file_length 505 ∷ file_length 1008 ∷ file_length 16128 ∷ file_length 16384 ∷ []
    ≡ 3072 ∷ 3072 ∷ 3584 ∷ 3584 ∷ 18944 ∷ 19456 ∷ []
unfolding file_length block_count
lengths_needed = refl

-- the file of the first trial tray: of each block the six bytes before the content and the two of the sum
frame : List ℕ → ℕ → List ℕ
frame f i = take 6 (block f i) ++ drop 510 (block f i)

tray_frames : joined (frame (station_file trial (1 ∷ 2 ∷ 66 ∷ []))) 0 6
    ≡ 0 ∷ 0 ∷ 1 ∷ 0 ∷ 248 ∷ 1 ∷ 0 ∷ 5
    ∷ 1 ∷ 0 ∷ 1 ∷ 0 ∷ 248 ∷ 1 ∷ 250 ∷ 1
    ∷ 2 ∷ 0 ∷ 1 ∷ 0 ∷ 248 ∷ 1 ∷ 253 ∷ 4
    ∷ 3 ∷ 0 ∷ 1 ∷ 0 ∷ 248 ∷ 1 ∷ 252 ∷ 1
    ∷ 4 ∷ 0 ∷ 1 ∷ 0 ∷ 33 ∷ 1 ∷ 39 ∷ 2
    ∷ 5 ∷ 0 ∷ 2 ∷ 0 ∷ 3 ∷ 0 ∷ 77 ∷ 2
    ∷ []
unfolding frame trial station_file block_due held_due part block_count joined block block_of with_sum unsummed two_bytes padded words_sum word
tray_frames = refl

-- what blocks 3, 4, 5 and 6 hold of tables and of a plan of 505 words: how much, and of block 6 what
abbrev tables : List ℕ
tables = replicate 2305 1

abbrev words : List ℕ
words = replicate 504 2 ++ (3 ∷ [])

held_lengths : length (held_due tables words 3) ∷ length (held_due tables words 4) ∷ length (held_due tables words 5) ∷ length (held_due tables words 6) ∷ []
    ≡ 504 ∷ 289 ∷ 504 ∷ 1 ∷ []
unfolding held_due part
held_lengths = refl

held-last : held_due tables words 6 ≡ 3 ∷ []
unfolding held_due part
held-last = refl

-- an area a byte short, one that is exact, and one that is longer, where tables and plan are accepted
module _ (t ws : List ℕ) (accepted : plan_refusal t ws ≡ none) (long : length ws ≡ 3) where
  areas : (reported (write_refusal t ws 3071) []).number ∷ (reported (write_refusal t ws 3072) []).number ∷ (reported (write_refusal t ws 3073) []).number ∷ [] ≡ 74 ∷ 0 ∷ 0 ∷ []
  unfolding write_refusal file_length block_count
  areas = rw (accepted, long)

-- tables are judged first, with no area at all
no_tables : (reported (write_refusal [] (1 ∷ 2 ∷ 66 ∷ []) 0) []).number ≡ 1
unfolding write_refusal file_length block_count plan_refusal table_refusal
no_tables = refl

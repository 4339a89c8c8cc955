-- Where each byte of the tables and each word of the plan stands in a written file.
use Prim.Native.Nat.{ℕ, ◌+◌, ◌*◌, ◌/◌, ◌%◌, ◌≤◌, ◌<◌}
use mathlib.Core.Path.{◌≡◌, sym, ◌∙◌, ap}
use mathlib.Core.List.{List}
use native.Mathlib.Omega.{arith}
use lib.ListN.{length, get_or, drop, get_or-append}
use lib.Seq.{get_or-take, get_or-drop}
use Rattle.areas.specs.Area.{padded}
use Rattle.blocks.specs.Block.{sum_due, two_bytes, unsummed, with_sum, block_of}
use Rattle.blocks.proofs.Made.{length-padded}
use Rattle.stations.specs.File.{block}
use Rattle.writing.specs.Writing.{part, held_due, block_due, block_count, station_file}
use Rattle.writing.specs.Claims.{stands_at}
use Rattle.areas.proofs.Area.{padded_at}
use Rattle.writing.proofs.File.{file-block, tables_due, plan_due, held-short}

-- a byte of a part
part_byte : (l : List ℕ) (k j : ℕ) → j < 504 → get_or (part l k) j 0 ≡ get_or l (504 * k + j) 0
unfolding part
part_byte l k j h = get_or-take 504 (drop (504 * k) l) j 0 h ∙ get_or-drop (504 * k) l j 0

-- a byte of what a block holds
content_byte : (number kind : ℕ) (c : List ℕ) → length c ≤ 504 → (j : ℕ) → j < 504 → get_or (block_of number kind c) (6 + j) 0 ≡ get_or c j 0
unfolding block_of with_sum unsummed two_bytes
content_byte number kind c h j l =
    sym (get_or-drop 6 (block_of number kind c) j 0)
    ∙ get_or-append (padded c 504) (two_bytes (sum_due (unsummed number kind c))) 0 j (omega (arith, length-padded c 504 h))
    ∙ padded_at c 504 j

-- the bytes of a file, by block and place in the block; and where those of the tables and of the plan stand
module _ (t ws : List ℕ) where
  file_byte : (i j : ℕ) → i < block_count (length ws) → j < 512 → get_or (station_file t ws) (512 * i + j) 0 ≡ get_or (block_due t ws i) j 0
  unfolding block
  file_byte i j h l =
      sym (get_or-drop (512 * i) (station_file t ws) j 0)
      ∙ sym (get_or-take 512 (drop (512 * i) (station_file t ws)) j 0 l)
      ∙ ap (λ (b : List ℕ). get_or b j 0) (file-block t ws i h)

  -- byte j of what block i holds
  held_byte : (i j : ℕ) → i < block_count (length ws) → j < 504 → get_or (station_file t ws) (512 * i + (6 + j)) 0 ≡ get_or (held_due t ws i) j 0
  unfolding block_due
  held_byte i j h l = file_byte i (6 + j) h (omega arith) ∙ content_byte i _ (held_due t ws i) (held-short t ws i) j l

  -- byte j of a list whose parts are held by the blocks from block i on
  stands : (l : List ℕ) (i j : ℕ) → i + j / 504 < block_count (length ws) → held_due t ws (i + j / 504) ≡ part l (j / 504)
      → get_or (station_file t ws) (stands_at i j) 0 ≡ get_or l j 0
  stands l i j h e =
      let q : 504 * (j / 504) + j % 504 ≡ j = omega arith in
      held_byte (i + j / 504) (j % 504) h (omega arith)
      ∙ ap (λ (b : List ℕ). get_or b (j % 504) 0) e
      ∙ part_byte l (j / 504) (j % 504) (omega arith)
      ∙ ap (λ (k : ℕ). get_or l k 0) q

  pub tables_stand : (j : ℕ) → j < 2520 → get_or (station_file t ws) (stands_at 0 j) 0 ≡ get_or t j 0
  unfolding block_count
  tables_stand j h = stands t 0 j (omega arith) (tables_due t ws (0 + j / 504) (omega arith) ∙ ap (part t) (omega arith))

  pub words_stand : (j : ℕ) → j < length ws → get_or (station_file t ws) (stands_at 5 j) 0 ≡ get_or ws j 0
  unfolding block_count
  words_stand j h = stands ws 5 j (omega arith) (plan_due t ws (5 + j / 504) (omega arith) ∙ ap (part ws) (omega arith))

-- A written file: how long it is, each of its blocks, what the reader finds in it, and that the reader takes it.
use Prim.Native.Nat.{ℕ, suc, ◌+◌, ◌-◌, ◌*◌, ◌/◌, ◌%◌, ◌≤◌, ◌<◌, min}
use mathlib.Core.Path.{◌≡◌, refl, ◌∙◌, ap}
use mathlib.Core.Bool.{Bool, true, false, cond, ◌&&◌}
use mathlib.Core.List.{List}
use mathlib.Core.Option.{none}
use native.Mathlib.Omega.{arith}
use lib.ListN.{length, take, drop, length-take, length-drop}
use lib.Seq.{take_all}
use lib.Dec.{eqb, leb, ltb}
use borrow.Author.Tests.{eq-eqb, eqb-true, eqb-false, le-leb, lt-ltb, le-ltb, ltb-true, ltb-false}
use Rattle.blocks.specs.Block.{used, count_right, block_refusal}
use Rattle.stations.proofs.Files.{found_nowhere}
use Rattle.stations.specs.File.{joined, blocks, block, length_right, tables_held, plan_held, form_refusal}
use Rattle.writing.specs.Writing.{part, held_due, block_due, block_count, station_file, file_length}
use Rattle.writing.proofs.Joined.{joined_same, joined-part, joined_full, parts-joined}
use Rattle.blocks.proofs.Made.{block_of-long, block_of-used, block-taken}

-- Parts

pub part_length : (l : List ℕ) (k : ℕ) → length (part l k) ≡ min 504 (length l - 504 * k)
unfolding part
part_length l k = length-take 504 (drop (504 * k) l) ∙ ap (min 504) (length-drop (504 * k) l)

pub part-short : (l : List ℕ) (k : ℕ) → length (part l k) ≤ 504
part-short l k = omega (arith, part_length l k)

-- a part as a slice has it: 504 of the rest, or all of it where that is less
pub part-least : (l : List ℕ) (k : ℕ) → part l k ≡ take 504 (take (length l - 504 * k) (drop (504 * k) l))
unfolding part
part-least l k = rw (take_all (length l - 504 * k) (drop (504 * k) l) (omega (arith, length-drop (504 * k) l)))

-- a list is its parts, where there are enough of them
parts_all : (l : List ℕ) (m : ℕ) → length l ≤ 504 * m → joined (part l) 0 m ≡ l
unfolding part
parts_all l m h = parts-joined 504 l 0 m ∙ take_all (504 * m) l h

module _ (t ws : List ℕ) where
  -- what a block holds: of the tables, and of the plan
  pub tables_due : (i : ℕ) → i < 5 → held_due t ws i ≡ part t i
  unfolding held_due
  tables_due i h = rw (lt-ltb i 5 h)

  pub plan_due : (i : ℕ) → 5 ≤ i → held_due t ws i ≡ part ws (i - 5)
  unfolding held_due
  plan_due i h = rw (le-ltb i 5 h)

  pub held-short : (i : ℕ) → length (held_due t ws i) ≤ 504
  unfolding held_due
  held-short i = go (ltb i 5)
    where
      go : (b : Bool) → length (cond b (part t i) (part ws (i - 5))) ≤ 504
      go true = part-short t i
      go false = part-short ws (i - 5)

  pub block_due-long : (i : ℕ) → length (block_due t ws i) ≡ 512
  unfolding block_due
  block_due-long i = block_of-long _ _ (held_due t ws i) (held-short i)

  -- the file: its length, its blocks, and what they hold
  pub file-long : length (station_file t ws) ≡ file_length (length ws)
  unfolding station_file file_length
  file-long = joined_full 512 (block_due t ws) 0 (block_count (length ws)) (λ j a b. block_due-long j)

  file-blocks : blocks (station_file t ws) ≡ block_count (length ws)
  unfolding blocks file_length
  file-blocks = omega (arith, file-long)

  pub file-block : (i : ℕ) → i < block_count (length ws) → block (station_file t ws) i ≡ block_due t ws i
  unfolding block station_file
  file-block i h = joined-part 512 (block_due t ws) 0 (block_count (length ws)) i h (record { full = λ j a b. block_due-long j; short = λ j a b. omega (arith, block_due-long j) })
      ∙ ap (block_due t ws) (zero_left i)
    where
      zero_left : (k : ℕ) → 0 + k ≡ k
      zero_left k = omega arith

  file-used : (i : ℕ) → i < block_count (length ws) → used (block (station_file t ws) i) ≡ held_due t ws i
  unfolding block_due
  file-used i h = ap used (file-block i h) ∙ block_of-used _ _ (held_due t ws i) (held-short i)

  pub file-tables : length t ≤ 2520 → tables_held (station_file t ws) ≡ t
  unfolding tables_held block_count
  file-tables h =
      joined_same (λ j. used (block (station_file t ws) j)) (part t) 0 0 5 (λ k l. file-used (0 + k) (omega arith) ∙ tables_due (0 + k) (omega arith))
      ∙ parts_all t 5 h

  pub file-plan : plan_held (station_file t ws) ≡ ws
  unfolding plan_held block_count
  file-plan =
      let m : blocks (station_file t ws) - 5 ≡ (length ws + 503) / 504 = omega (arith, file-blocks) in
      rw m
      (joined_same (λ j. used (block (station_file t ws) j)) (part ws) 5 0 ((length ws + 503) / 504) (λ k l. file-used (5 + k) (omega arith) ∙ plan_due (5 + k) (omega arith) ∙ ap (part ws) (back k))
      ∙ parts_all ws ((length ws + 503) / 504) (omega arith))
    where
      back : (k : ℕ) → 5 + k - 5 ≡ 0 + k
      back k = omega arith

-- The reader takes the file

module _ (t ws : List ℕ) (long : length t ≡ 2305) (some_words : 1 ≤ length ws) (few_words : length ws ≤ 16632) where
  tables-count : (i : ℕ) → i < 5 → length (held_due t ws i) ≡ min 504 (2305 - 504 * i)
  tables-count i h = ap length (tables_due t ws i h) ∙ part_length t i ∙ rw long

  plan-count : (i : ℕ) → 5 ≤ i → length (held_due t ws i) ≡ min 504 (length ws - 504 * (i - 5))
  plan-count i h = ap length (plan_due t ws i h) ∙ part_length ws (i - 5)

  count_due : (i : ℕ) → i < block_count (length ws) → count_right (block_count (length ws)) i (length (held_due t ws i)) ≡ true
  unfolding count_right block_count
  count_due i h = go (ltb i 4) (eqb i 4) (eqb (suc i) (block_count (length ws))) (length (held_due t ws i)) refl refl refl refl
    where
      go : (x y z : Bool) (c : ℕ) → ltb i 4 ≡ x → eqb i 4 ≡ y → eqb (suc i) (block_count (length ws)) ≡ z → length (held_due t ws i) ≡ c
          → cond x (eqb c 504) (cond y (eqb c 289) (cond z (leb 1 c && leb c 504) (eqb c 504))) ≡ true
      go true y z c p q r e =
          let a = ltb-true i 4 p in
          eq-eqb c 504 (omega (arith, tables-count i (omega arith)))
      go false true z c p q r e =
          let a = eqb-true i 4 q in
          eq-eqb c 289 (omega (arith, tables-count i (omega arith)))
      go false false true c p q r e =
          let a = ltb-false i 4 p in
          let b = eqb-false i 4 q in
          let d = eqb-true (suc i) (block_count (length ws)) r in
          let k = plan-count i (omega arith) in
          rw (le-leb 1 c (omega arith), le-leb c 504 (omega arith))
      go false false false c p q r e =
          let a = ltb-false i 4 p in
          let b = eqb-false i 4 q in
          let d = eqb-false (suc i) (block_count (length ws)) r in
          let k = plan-count i (omega arith) in
          eq-eqb c 504 (omega arith)

  length_due : length_right (station_file t ws) ≡ true
  unfolding length_right file_length block_count
  length_due =
      rw (
        file-blocks t ws,
        eq-eqb (length (station_file t ws) % 512) 0 (omega (arith, file-long t ws)),
        le-leb 6 (5 + (length ws + 503) / 504) (omega arith),
        le-leb (5 + (length ws + 503) / 504) 38 (omega arith),
      )

  pub form_due : form_refusal (station_file t ws) ≡ none
  unfolding form_refusal block_due
  form_due =
      rw (length_due, file-blocks t ws)
      (found_nowhere (λ i. block_refusal (block_count (length ws)) i (block (station_file t ws) i)) 0 (block_count (length ws))
      (λ i a b. rw (file-block t ws i (omega arith)) (block-taken (block_count (length ws)) i (held_due t ws i) (held-short t ws i) (count_due i (omega arith)))))

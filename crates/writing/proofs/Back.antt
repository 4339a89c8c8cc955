-- A file of bytes that the reader takes is the one written from what it holds.
use Prim.Native.Nat.{ℕ, suc, ◌+◌, ◌-◌, ◌*◌, ◌%◌, ◌≤◌, ◌<◌}
use mathlib.Core.Path.{◌≡◌, refl, sym, ◌∙◌, ap}
use mathlib.Core.Bool.{Bool, true, false, ◌&&◌}
use mathlib.Core.List.{List}
use mathlib.Core.Option.{none}
use native.Mathlib.Omega.{arith}
use lib.ListN.{length, get_or, take, drop, length-take, get_or-eq_default}
use lib.Seq.{take_all, get_or-take, get_or-drop}
use lib.Dec.{eqb, leb, ltb}
use borrow.Author.Tests.{eq-eqb, eqb-true, leb-true, lt-ltb, le-ltb, ltb-true, ltb-false, ne_eqb}
use Rattle.blocks.specs.Block.{used, count_of, kind_due, count_right, block_of}
use Rattle.stations.specs.File.{joined, blocks, block, length_right, tables_held, plan_held, form_refusal}
use Rattle.blocks.proofs.Answers.{both}
use Rattle.blocks.proofs.Right.{used-short}
use Rattle.stations.proofs.Files.{block-long}
use Rattle.stations.proofs.Forms.{length_met, few, right_at, used-long}
use Rattle.writing.specs.Writing.{part, held_due, block_due, block_count, station_file}
use Rattle.writing.proofs.Joined.{FullButLast, joined_same, joined-part, joined_length, parts-joined}
use Rattle.blocks.proofs.Made.{Bytes, block_back}
use Rattle.writing.proofs.File.{tables_due, plan_due}

-- bytes of a part are bytes
bytes_taken : (l : List ℕ) (n k : ℕ) → Bytes l → Bytes (take n (drop k l))
bytes_taken l n k h i = go (ltb i n) refl
  where
    go : (x : Bool) → ltb i n ≡ x → get_or (take n (drop k l)) i 0 < 256
    go true e = rw (get_or-take n (drop k l) i 0 (ltb-true i n e), get_or-drop k l i 0) (h (k + i))
    go false e =
        let a = ltb-false i n e in
        omega (arith, get_or-eq_default (take n (drop k l)) 0 {n = i} (omega (arith, length-take n (drop k l))))

block_bytes : (f : List ℕ) → Bytes f → (i : ℕ) → Bytes (block f i)
unfolding block
block_bytes f h i = bytes_taken f 512 (512 * i) h

-- the count that a block may have, by where it stands
module _ (n i c : ℕ) (r : count_right n i c ≡ true) where
  tables_full : i < 4 → c ≡ 504
  unfolding count_right
  tables_full h = eqb-true c 504 (rw (lt-ltb i 4 h) at r)

  plan_full : 5 ≤ i → suc i < n → c ≡ 504
  unfolding count_right
  plan_full h l = eqb-true c 504 (rw (le-ltb i 4 (omega arith), ne_eqb i 4 (λ e. omega arith), ne_eqb (suc i) n (λ e. omega arith)) at r)

  plan-last : 5 ≤ i → suc i ≡ n → 1 ≤ c
  unfolding count_right
  plan-last h l = leb-true 1 c (both (leb 1 c) (leb c 504) (rw (le-ltb i 4 (omega arith), ne_eqb i 4 (λ e. omega arith), eq-eqb (suc i) n l) at r)).0

module _ (f : List ℕ) (sound : form_refusal f ≡ none) where
  whole-blocks : length f ≡ 512 * blocks f
  unfolding length_right blocks
  whole-blocks =
      let e = eqb-true (length f % 512) 0 (both (eqb (length f % 512) 0) (leb 6 (blocks f) && leb (blocks f) 38) (length_met f sound).0).0 in
      omega arith

  file-joined : f ≡ joined (block f) 0 (blocks f)
  unfolding block
  file-joined = sym (parts-joined 512 f 0 (blocks f) ∙ take_all (512 * blocks f) f (omega (arith, whole-blocks)))

  -- the blocks of tables, and those of the plan, are full but the last
  tables-parts : FullButLast 504 (λ j. used (block f j)) 0 5
  tables-parts =
      let l = (few f sound).0 in
      record {
        full = λ j a b. used-long f sound j (omega arith) ∙ tables_full (blocks f) j (count_of (block f j)) (right_at f sound j (omega arith)).count (omega arith);
        short = λ j a b. used-short (block f j);
      }

  plan-parts : FullButLast 504 (λ j. used (block f j)) 5 (blocks f - 5)
  plan-parts = record {
    full = λ j a b. used-long f sound j (omega arith) ∙ plan_full (blocks f) j (count_of (block f j)) (right_at f sound j (omega arith)).count a (omega arith);
    short = λ j a b. used-short (block f j);
  }

  -- so each block holds the part that is due
  used_due : (i : ℕ) → i < blocks f → held_due (tables_held f) (plan_held f) i ≡ used (block f i)
  unfolding tables_held plan_held part
  used_due i h = go (ltb i 5) refl
    where
      go : (x : Bool) → ltb i 5 ≡ x → held_due (tables_held f) (plan_held f) i ≡ used (block f i)
      go true e =
          let a = ltb-true i 5 e in
          let z : 0 + i ≡ i = omega arith in
          tables_due (tables_held f) (plan_held f) i a
          ∙ joined-part 504 (λ j. used (block f j)) 0 5 i a tables-parts
          ∙ ap (λ (j : ℕ). used (block f j)) z
      go false e =
          let a = ltb-false i 5 e in
          let z : 5 + (i - 5) ≡ i = omega arith in
          plan_due (tables_held f) (plan_held f) i a
          ∙ joined-part 504 (λ j. used (block f j)) 5 (blocks f - 5) (i - 5) (omega arith) plan-parts
          ∙ ap (λ (j : ℕ). used (block f j)) z

  -- and the plan has as many blocks as are due to it
  blocks-right : block_count (length (plan_held f)) ≡ blocks f
  unfolding block_count plan_held
  blocks-right =
      let l = (few f sound).0 in
      let m : blocks f - 5 ≡ suc (blocks f - 6) = omega arith in
      let j : 5 + (blocks f - 6) ≡ blocks f - 1 = omega arith in
      let e : FullButLast 504 (λ k. used (block f k)) 5 (suc (blocks f - 6)) = rw m at plan-parts in
      let d : length (plan_held f) ≡ 504 * (blocks f - 6) + length (used (block f (blocks f - 1))) =
      rw (m, ← j) (joined_length 504 (λ k. used (block f k)) 5 (blocks f - 6) e) in
      let c : 1 ≤ length (used (block f (blocks f - 1))) =
      rw (used-long f sound (blocks f - 1) (omega arith))
      (plan-last (blocks f) (blocks f - 1) (count_of (block f (blocks f - 1))) (right_at f sound (blocks f - 1) (omega arith)).count (omega arith) (omega arith)) in
      omega (arith, used-short (block f (blocks f - 1)))

  -- "any file that the reader accepts is the one written from what it read"
  pub file-back : Bytes f → f ≡ station_file (tables_held f) (plan_held f)
  unfolding station_file block_due
  file-back bytes =
      file-joined
      ∙ joined_same (block f) (block_due (tables_held f) (plan_held f)) 0 0 (blocks f)
      (λ k l.
      block_back (block f (0 + k)) (block-long f (0 + k) (omega arith)) (block_bytes f bytes (0 + k)) (blocks f) (0 + k) (right_at f sound (0 + k) (omega arith))
      ∙ ap (λ (c : List ℕ). block_of (0 + k) (kind_due (0 + k)) c) (sym (used_due (0 + k) (omega arith))))
      ∙ ap (λ (m : ℕ). joined (block_due (tables_held f) (plan_held f)) 0 m) (sym blocks-right)

-- The blocks of a file put into an area one by one, and zeros behind them.
use Rattle.std.specs.Prelude.{Ok}
use Prim.Native.Nat.{ℕ, suc, ◌+◌, ◌-◌, ◌*◌, ◌≤◌, ◌<◌}
use mathlib.Core.Path.{◌≡◌, refl, sym, ◌∙◌, ap}
use mathlib.Core.List.{List, ◌++◌}
use mathlib.Core.Option.{none}
use native.Mathlib.Omega.{arith}
use native.Mathlib.Numerals.{add-one}
use lib.ListN.{length, take, drop, length-drop}
use lib.Seq.{drop-drop, length-take-le}
use Rattle.areas.specs.Area.{overwrite, padded}
use Rattle.areas.proofs.Area.{overwrite-two, overwrite_none, padded-whole}
use Rattle.stations.specs.File.{joined}
use Rattle.writing.specs.Writing.{block_due, block_count, station_file, file_length, write_refusal, WriteOutcome, write_outcome}
use Rattle.writing.proofs.Joined.{joined_full}
use Rattle.writing.proofs.File.{block_due-long, file-long}
use Rattle.writing.proofs.Outcomes.{write_accepted}

-- the part of an area that block i stands in, and the area when that part came back holding v
pub block_room : (a : List ℕ) (i : ℕ) → 512 * i + 512 ≤ length a → length (take (512 * i + 512 - 512 * i) (drop (512 * i) a)) ≡ 512
block_room a i h = length-take-le (512 * i + 512 - 512 * i) (drop (512 * i) a) (omega (arith, length-drop (512 * i) a)) ∙ gone i
  where
    gone : (k : ℕ) → 512 * k + 512 - 512 * k ≡ 512
    gone k = omega arith

pub part-put : (a v : List ℕ) (k e : ℕ) → e ≡ k + length v → take k a ++ (v ++ drop (e - k) (drop k a)) ≡ overwrite a k v
unfolding overwrite
part-put a v k e q =
    let m : e - k ≡ length v = omega arith in
    rw (m, drop-drop (length v) k a)

-- The blocks of a file made one by one: with the blocks from i on written over it, the area a is the area a₀ with the file written over it
pub record Writes (t ws a₀ a : List ℕ) (i : ℕ) : Type 0 where
  pub long : length a ≡ length a₀
  pub area : overwrite a (512 * i) (joined (block_due t ws) i (block_count (length ws) - i)) ≡ overwrite a₀ 0 (station_file t ws)

pub writes_start : (t ws a : List ℕ) → Writes t ws a a 0
unfolding station_file
writes_start t ws a =
    let e : block_count (length ws) - 0 ≡ block_count (length ws) = omega arith in
    record { long = refl; area = rw e }

module _ {t ws a₀ a : List ℕ} {i : ℕ} (w : Writes t ws a₀ a i) where
  pub writes_turn : {a' : List ℕ} → i < block_count (length ws) → file_length (length ws) ≤ length a₀ → length a' ≡ length a → a' ≡ overwrite a (512 * i) (block_due t ws i) → Writes t ws a₀ a' (i + 1)
  unfolding file_length joined
  writes_turn h l m p =
      let rest : List ℕ = joined (block_due t ws) (i + 1) (block_count (length ws) - (i + 1)) in
      let size : length (block_due t ws i) ≡ 512 = block_due-long t ws i in
      let left : length rest ≡ 512 * (block_count (length ws) - (i + 1)) = joined_full 512 (block_due t ws) (i + 1) (block_count (length ws) - (i + 1)) (λ j x y. block_due-long t ws j) in
      let at : 512 * (i + 1) ≡ 512 * i + length (block_due t ws i) = omega arith in
      let next : joined (block_due t ws) i (block_count (length ws) - i) ≡ block_due t ws i ++ rest = next-block in
      record {
        long = m ∙ w.long;
        area =
            rw (p, at)
            (overwrite-two a (512 * i) (block_due t ws i) rest (omega (arith, w.long))
            ∙ ap (λ (x : List ℕ). overwrite a (512 * i) x) (sym next)
            ∙ w.area);
      }
    where
      next-block : joined (block_due t ws) i (block_count (length ws) - i) ≡ block_due t ws i ++ joined (block_due t ws) (i + 1) (block_count (length ws) - (i + 1))
      next-block =
          let q : block_count (length ws) - i ≡ suc (block_count (length ws) - (i + 1)) = omega arith in
          rw (q, add-one i)

  writes_end : block_count (length ws) ≤ i → a ≡ overwrite a₀ 0 (station_file t ws)
  unfolding joined
  writes_end h =
      let e : block_count (length ws) - i ≡ 0 = omega arith in
      sym (overwrite_none a (512 * i)) ∙ rw e at w.area

-- zeros past the file, where so many blocks are put
pub writes_whole : (t ws a₀ a a' : List ℕ) (n i : ℕ) → write_refusal t ws (length a₀) ≡ none → n ≡ block_count (length ws) → Writes t ws a₀ a i → n ≤ i
    → a' ≡ padded (take (512 * n) a) (length a)
    → ◌≡◌ {A = WriteOutcome} (record { answer = Ok (512 * n); area = a' }) (write_outcome t ws a₀)
unfolding write_outcome file_length
writes_whole t ws a₀ a a' n i e c w l p =
    let f : List ℕ = station_file t ws in
    let q : 512 * n ≡ length f = omega (arith, file-long t ws) in
    let h : length f ≤ length a₀ = omega (arith, (write_accepted t ws (length a₀) e).1) in
    rw (e, p, q, padded-whole a₀ a f h w.long (writes_end w (omega arith)), file-long t ws)

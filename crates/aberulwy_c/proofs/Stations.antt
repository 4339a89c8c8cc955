-- What is claimed of reading and of writing a station file holds of the answers that the numbers tell: every refusal of reading is 1 to 55, and of writing
-- 1 to 74.
use Rattle.std.specs.Prelude.{Result, Ok, Err}
use Prim.Native.Nat.{ℕ}
use native.Mathlib.Omega.{arith}
use mathlib.Core.Path.{◌≡◌, sym, ap}
use mathlib.Core.Bool.{Bool, ◌&&◌}
use mathlib.Core.List.{List}
use mathlib.Core.Option.{Option, none, some}
use lib.ListN.{length}
use lib.Dec.{eqb, leb, ltb}
use Rattle.refusals.specs.declared.Place.TheVariants.{Nowhere}
use Rattle.refusals.specs.Refusal.{refuse, refuse_unless}
use Rattle.refusals.specs.declared.Refusal.{Refusal}
use Rattle.tables.specs.Tables.{Tables}
use Rattle.blocks.specs.Block.{number_of, sum_right, use_right, block_refusal}
use Rattle.plans.specs.Judging.{plan_refusal}
use Rattle.stations.specs.File.{blocks, block, length_right, tables_held, plan_held, form_refusal, held_refusal, file_refusal, unless_refused, StationOutcome, station_outcome, station_report}
use Rattle.writing.specs.Writing.{station_file, file_length, write_refusal, written_unless, WriteOutcome, write_outcome, written_report}
use Rattle.writing.specs.Claims.{ReadClaims, WriteClaims}
use Rattle.aberulwy_c.specs.Handing.{Answered}
use Rattle.aberulwy_c.specs.Seen.{StationReadAs, StationWrittenAs, read, written, refused, StationReadSeen, StationWrittenSeen}
use Rattle.aberulwy_c.proofs.Numbers.{plan_numbers}
use Rattle.aberulwy_c.proofs.Ranges.{Range, widened, Numbered, numbered_or, numbered-cond, numbered-if, numbered-first}

-- the numbers of refusals of reading and of writing
abbrev Reading : ℕ → Type 0
Reading = Range 55

abbrev Writing : ℕ → Type 0
Writing = Range 74

-- Reading

unmet_number : (b : Bool) (k : ℕ) → Reading k → Numbered Reading (refuse_unless b k)
unmet_number b k r = numbered-cond Reading b none (refuse k Nowhere) tt r

block_range : (n i : ℕ) (b : List ℕ) → Numbered Reading (block_refusal n i b)
unfolding block_refusal
block_range n i b =
    numbered_or Reading (refuse_unless (sum_right b) 52) _ (unmet_number (sum_right b) 52 (omega arith, omega arith))
    (numbered_or Reading (refuse_unless (eqb (number_of b) i) 53) (refuse_unless (use_right n i b) 54)
    (unmet_number (eqb (number_of b) i) 53 (omega arith, omega arith)) (unmet_number (use_right n i b) 54 (omega arith, omega arith)))

module _ (f t p : List ℕ) where
  read_range : Numbered Reading (file_refusal f (length t) (length p))
  unfolding file_refusal form_refusal held_refusal
  read_range =
      let fits : Bool = leb 2305 (length t) && leb (length (plan_held f)) (length p) in
      numbered_or Reading (form_refusal f) _
      (numbered_or Reading (refuse_unless (length_right f) 51) _ (unmet_number (length_right f) 51 (omega arith, omega arith))
      (numbered-first Reading (λ i. block_refusal (blocks f) i (block f i)) (λ i. block_range (blocks f) i (block f i)) 0 (blocks f)))
      (numbered_or Reading (refuse_unless fits 55) (plan_refusal (tables_held f) (plan_held f)) (unmet_number fits 55 (omega arith, omega arith))
      (plan_numbers Reading (widened 55 (omega arith)) (tables_held f) (plan_held f)))

  not_read_range : (r : Refusal) → (station_outcome f t p).answer ≡ Err r → Reading r.number
  unfolding station_outcome
  not_read_range r = go (file_refusal f (length t) (length p)) read_range
    where
      go : (o : Option Refusal) → Numbered Reading o → (unless_refused o (tables_held f) (plan_held f) t p).answer ≡ Err r → Reading r.number
      go none x e = absurd (cc)
      go (some g) x e = let q : g ≡ r = cc in rw (← q) x

  read_as : (x : Result ℕ Refusal) → (station_outcome f t p).answer ≡ x → {n q v w : ℕ} → Answered (station_report x) n q v w → StationReadAs x n q v
  read_as (Ok size) e h = rw (h.number, h.place, h.first) (read size)
  read_as (Err r) e h = let i = not_read_range r e in rw (h.number, h.place, h.first) (refused r i.0 i.1)

  pub station_read-seen : {x : Result ℕ Refusal} {t' p' : List ℕ} {n q v w : ℕ} → record { answer = x; tables = t'; plan = p' } ≡ station_outcome f t p
      → ReadClaims f t p (record { answer = x; tables = t'; plan = p' }) → Answered (station_report x) n q v w → StationReadSeen f t p t' p' n q v
  station_read-seen {x} e k h = record { answer = x; seen = read_as x (sym (ap (λ (o : StationOutcome). o.answer) e)) h; claims = k }

-- Writing

module _ (t : Tables) (ws a : List ℕ) where
  write_range : Numbered Writing (write_refusal t ws (length a))
  unfolding write_refusal
  write_range =
      numbered_or Writing (plan_refusal t ws) _ (plan_numbers Writing (widened 74 (omega arith)) t ws)
      (numbered-if Writing (ltb (length a) (file_length (length ws))) 74 (omega arith, omega arith))

  not_written_range : (r : Refusal) → (write_outcome t ws a).answer ≡ Err r → Writing r.number
  unfolding write_outcome
  not_written_range r = go (write_refusal t ws (length a)) write_range
    where
      go : (o : Option Refusal) → Numbered Writing o → (written_unless o (file_length (length ws)) (station_file t ws) a).answer ≡ Err r
          → Writing r.number
      go none x e = absurd (cc)
      go (some g) x e = let q : g ≡ r = cc in rw (← q) x

  written_as : (x : Result ℕ Refusal) → (write_outcome t ws a).answer ≡ x → {n q v w : ℕ} → Answered (written_report x) n q v w → StationWrittenAs x n q v
  written_as (Ok size) e h = rw (h.number, h.place, h.first) (written size)
  written_as (Err r) e h = let i = not_written_range r e in rw (h.number, h.place, h.first) (refused r i.0 i.1)

  pub station_written-seen : {x : Result ℕ Refusal} {a' : List ℕ} {n q v w : ℕ} → record { answer = x; area = a' } ≡ write_outcome t ws a
      → WriteClaims t ws a (record { answer = x; area = a' }) → Answered (written_report x) n q v w → StationWrittenSeen t ws a a' n q v
  station_written-seen {x} e k h = record { answer = x; seen = written_as x (sym (ap (λ (o : WriteOutcome). o.answer) e)) h; claims = k }

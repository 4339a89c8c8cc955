-- The station file of tables and a plan, and what writing it answers and leaves. (Request 106; 01, "Orders, station files, program".)
use Rattle.std.specs.Prelude.{ℕ, ◌+◌, ◌-◌, ◌*◌, ◌/◌, cond, List, [], ◌∷◌, length, take, drop, ltb, Result, Ok, Err}
use Rattle.std.proofs.Math.Option.{Option, none, some}
use Rattle.refusals.specs.declared.Refusal.{Refusal}
use Rattle.refusals.specs.Refusal.{refuse_if, or_else, Report, refused_report, reported}
use Rattle.areas.specs.Area.{padded}
use Rattle.blocks.specs.Block.{kind_due, block_of}
use Rattle.tables.specs.Tables.{Tables}
use Rattle.plans.specs.Judging.{plan_refusal}
use Rattle.stations.specs.File.{joined}

-- part k of a list that is cut into parts of 504, the last as long as what is left
unfoldable pub part : List ℕ → ℕ → List ℕ
part l k = take 504 (drop (504 * k) l)

-- "Blocks 0 to 3 hold 504 each and block 4 holds 289 of tables; plan blocks follow, all full but the last": what block i holds
unfoldable pub held_due : Tables → List ℕ → ℕ → List ℕ
held_due t ws i = cond (ltb i 5) (part t i) (part ws (i - 5))

-- block i of the file
unfoldable pub block_due : Tables → List ℕ → ℕ → List ℕ
block_due t ws i = block_of i (kind_due i) (held_due t ws i)

-- how many blocks the file of a plan of k words has: five, and one for each 504 words or part of them
unfoldable pub block_count : ℕ → ℕ
block_count k = 5 + (k + 503) / 504

-- "blocks of 512 bytes": how long that file is
unfoldable pub file_length : ℕ → ℕ
file_length k = 512 * block_count k

-- "From accepted tables and plan, write the blocks": the file of the tables t and the plan ws
unfoldable pub station_file : Tables → List ℕ → List ℕ
station_file t ws = joined (block_due t ws) 0 (block_count (length ws))

-- "Tables and plan are checked by 1 to 14 first. After those, an area shorter than the file gets 74": tables, a plan and the area's length
unfoldable pub write_refusal : Tables → List ℕ → ℕ → Option Refusal
write_refusal t ws area = or_else (plan_refusal t ws) (refuse_if (ltb area (file_length (length ws))) 74)

-- everything that writing a file answers and leaves
pub record WriteOutcome : Type 0 where
  pub answer : Result ℕ Refusal
  pub area : List ℕ

-- "an area shorter than the file gets 74 and keeps its bytes. A longer one is zero past the file.": a file and its length for the area a
abbrev pub written_unless : Option Refusal → ℕ → List ℕ → List ℕ → WriteOutcome
written_unless (some r) size file a = record { answer = Err r; area = a }
written_unless none size file a = record { answer = Ok size; area = padded file (length a) }

-- the tables t and the plan ws written into the area a
unfoldable pub write_outcome : Tables → List ℕ → List ℕ → WriteOutcome
write_outcome t ws a = written_unless (write_refusal t ws (length a)) (file_length (length ws)) (station_file t ws) a

-- an answer in numbers: the file's length where it is written
abbrev pub written_report : Result ℕ Refusal → Report
written_report (Ok size) = record { number = 0; place = 0; values = size ∷ [] }
written_report (Err r) = refused_report r

-- what is reported of writing the tables t and the plan ws into an area of so many bytes
abbrev pub write_reported : Tables → List ℕ → ℕ → Report
write_reported t ws area = reported (write_refusal t ws area) (file_length (length ws) ∷ [])

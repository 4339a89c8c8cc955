-- Station files: what they hold, when they are refused, and what reading one answers and leaves. (01, "Orders, station files, program".)
use Rattle.std.specs.Prelude.{ℕ, zero, suc, ◌-◌, ◌*◌, ◌/◌, ◌%◌, Bool, ◌&&◌, List, [], ◌∷◌, ◌++◌, length, take, drop, eqb, leb, Result, Ok, Err}
use Rattle.std.proofs.Math.Option.{Option, none, some}
use Rattle.refusals.specs.declared.Refusal.{Refusal}
use Rattle.refusals.specs.Refusal.{refuse_unless, or_else, Report, refused_report, reported}
use Rattle.areas.specs.Area.{padded}
use Rattle.blocks.specs.Block.{used, block_refusal}
use Rattle.tables.specs.Search.{first_from}
use Rattle.plans.specs.Judging.{plan_refusal}

-- "blocks of 512 bytes": how many, and block i
unfoldable pub blocks : List ℕ → ℕ
blocks f = length f / 512

unfoldable pub block : List ℕ → ℕ → List ℕ
block f i = take 512 (drop (512 * i) f)

-- "A station file has 6 to 38 blocks of 512 bytes"
unfoldable pub length_right : List ℕ → Bool
length_right f = eqb (length f % 512) 0 && (leb 6 (blocks f) && leb (blocks f) 38)

-- what g gives for the m numbers i, i + 1, …, one behind the other
unfoldable pub joined : (ℕ → List ℕ) → ℕ → ℕ → List ℕ
joined g i zero = []
joined g i (suc m) = g i ++ joined g (suc i) m

-- what the m blocks from block i on hold
abbrev pub held : List ℕ → ℕ → ℕ → List ℕ
held f i m = joined (λ k. used (block f k)) i m

-- the tables and the plan: "Blocks 0 to 3 … and block 4 … of tables; plan blocks follow"
unfoldable pub tables_held : List ℕ → List ℕ
tables_held f = held f 0 5

unfoldable pub plan_held : List ℕ → List ℕ
plan_held f = held f 5 (blocks f - 5)

-- "51 length; then block by block 52 sum, 53 number, 54 kind, count or filling"
unfoldable pub form_refusal : List ℕ → Option Refusal
form_refusal f = or_else (refuse_unless (length_right f) 51) (first_from (λ i. block_refusal (blocks f) i (block f i)) 0 (blocks f))

-- "55 tables area below 2,305 bytes, or plan longer than its area; then 1 to 14": tables, a plan and the lengths of the areas
unfoldable pub held_refusal : List ℕ → List ℕ → ℕ → ℕ → Option Refusal
held_refusal tables plan tables_area plan_area =
    or_else (refuse_unless (leb 2305 tables_area && leb (length plan) plan_area) 55) (plan_refusal tables plan)

-- a file and the lengths of the areas
unfoldable pub file_refusal : List ℕ → ℕ → ℕ → Option Refusal
file_refusal f tables_area plan_area = or_else (form_refusal f) (held_refusal (tables_held f) (plan_held f) tables_area plan_area)

-- everything that reading a file answers and leaves
pub record StationOutcome : Type 0 where
  pub answer : Result ℕ Refusal
  pub tables : List ℕ
  pub plan : List ℕ

-- "Output areas: tables and plan, zeros after; untouched when refused.": tables and a plan for the areas t and p
abbrev pub unless_refused : Option Refusal → List ℕ → List ℕ → List ℕ → List ℕ → StationOutcome
unless_refused (some r) tables plan t p = record { answer = Err r; tables = t; plan = p }
unless_refused none tables plan t p =
    record { answer = Ok (length plan); tables = padded tables (length t); plan = padded plan (length p) }

-- the file f read into the areas t and p
unfoldable pub station_outcome : List ℕ → List ℕ → List ℕ → StationOutcome
station_outcome f t p = unless_refused (file_refusal f (length t) (length p)) (tables_held f) (plan_held f) t p

-- an answer in 01's numbers: the plan's length where the file is read
abbrev pub station_report : Result ℕ Refusal → Report
station_report (Ok size) = record { number = 0; place = 0; values = size ∷ [] }
station_report (Err r) = refused_report r

-- what is reported of reading the file f into the areas t and p
abbrev pub station_reported : List ℕ → List ℕ → List ℕ → Report
station_reported f t p = reported (file_refusal f (length t) (length p)) (length (plan_held f) ∷ [])

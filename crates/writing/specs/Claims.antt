-- What is claimed of writing a station file and of reading one. (Request 106.)
use Rattle.std.specs.Prelude.{ℕ, ◌+◌, ◌*◌, ◌/◌, ◌%◌, ◌≤◌, ◌<◌, ◌≡◌, List, ◌↔◌, length, get_or, take, Ok, Err}
use Rattle.std.proofs.Math.Option.{some}
use Rattle.refusals.specs.declared.Place.TheVariants.{Nowhere}
use Rattle.refusals.specs.declared.Refusal.{Refusal}
use Rattle.areas.specs.Area.{padded}
use Rattle.tables.specs.Tables.{Tables}
use Rattle.plans.specs.Judging.{plan_refusal}
use Rattle.plans.specs.Accepted.{AcceptedPlan}
use Rattle.stations.specs.File.{StationOutcome, station_outcome}
use Rattle.writing.specs.Writing.{station_file, file_length, WriteOutcome, write_outcome}

-- Where byte j of a list stands whose parts of 504 are held by the blocks from block i on
abbrev pub stands_at : ℕ → ℕ → ℕ
stands_at i j = 512 * (i + j / 504) + (6 + j % 504)

-- The tables t and the plan ws are not written into an area of so many bytes, and this is the refusal.
pub data NotWritten (t : Tables) (ws : List ℕ) (area : ℕ) : Refusal → Type 0 where
  -- "Tables and plan are checked by 1 to 14 first."
  by_plan : (r : Refusal) → plan_refusal t ws ≡ some r → NotWritten t ws area r
  -- "After those, an area shorter than the file gets 74"
  short_area : AcceptedPlan t ws → area < file_length (length ws) → NotWritten t ws area (record { number = 74; place = Nowhere })

-- Of writing: the tables t, the plan ws, the area a before, and the outcome o.
pub record WriteClaims (t : Tables) (ws a : List ℕ) (o : WriteOutcome) : Type 0 where
  -- the file is written exactly where tables and plan are accepted and the area is not shorter than the file
  pub written_exactly : ((n : ℕ) × (o.answer ≡ Ok n)) ↔ (AcceptedPlan t ws × (file_length (length ws) ≤ length a))
  -- else it is refused, for one of these two reasons
  pub refused_exactly : (r : Refusal) → (o.answer ≡ Err r) ↔ NotWritten t ws (length a) r
  -- "and keeps its bytes", as under every refusal
  pub kept : (r : Refusal) → o.answer ≡ Err r → o.area ≡ a
  -- the length answered is the file's; it is five blocks of 512 bytes, and the fewest more that hold the plan with 504 words each
  pub size : (n : ℕ) → o.answer ≡ Ok n → n ≡ length (station_file t ws)
  pub blocks : (n : ℕ) → o.answer ≡ Ok n → (m : ℕ) × (n ≡ 512 * (5 + m)) × (length ws ≤ 504 * m) × (504 * m < length ws + 504)
  -- the file stands in front; "A longer one is zero past the file."
  pub file : (n : ℕ) → o.answer ≡ Ok n → take n o.area ≡ station_file t ws
  pub zeros : (n : ℕ) → o.answer ≡ Ok n → (j : ℕ) → n ≤ j → get_or o.area j 0 ≡ 0
  -- where each byte of the tables and each word of the plan stands
  pub tables_stand : (n : ℕ) → o.answer ≡ Ok n → (j : ℕ) → j < length t → get_or o.area (stands_at 0 j) 0 ≡ get_or t j 0
  pub words_stand : (n : ℕ) → o.answer ≡ Ok n → (j : ℕ) → j < length ws → get_or o.area (stands_at 5 j) 0 ≡ get_or ws j 0
  -- "What the reader takes from a written file, into areas that hold it, is those tables and that plan": the answer and every byte of both areas
  pub read_back : (n : ℕ) → o.answer ≡ Ok n → (ta pa : List ℕ) → 2305 ≤ length ta → length ws ≤ length pa
      → ◌≡◌ {A = StationOutcome} (station_outcome (take n o.area) ta pa)
      (record { answer = Ok (length ws); tables = padded t (length ta); plan = padded ws (length pa) })

-- The bytes f are the file of some lawful tables and some accepted plan, which areas of these lengths hold.
pub record StationFile (f : List ℕ) (tables_area plan_area : ℕ) : Type 0 where
  pub tables : Tables
  pub plan : List ℕ
  pub accepted : AcceptedPlan tables plan
  pub file : f ≡ station_file tables plan
  pub tables_fit : 2305 ≤ tables_area
  pub plan_fits : length plan ≤ plan_area

-- Of reading: the file f, the areas t and p before, and the outcome o.
pub record ReadClaims (f t p : List ℕ) (o : StationOutcome) : Type 0 where
  -- a file is accepted, in areas that hold it, exactly when it is the file of some lawful tables and some accepted plan
  pub read_exactly : ((k : ℕ) × (o.answer ≡ Ok k)) ↔ StationFile f (length t) (length p)
  -- and it is those that are read
  pub reads : (s : StationFile f (length t) (length p)) → ◌≡◌ {A = StationOutcome} o
      (record { answer = Ok (length s.plan); tables = padded s.tables (length t); plan = padded s.plan (length p) })
  -- "any file that the reader accepts is the one written from what it read": byte for byte, and by the call, into whatever area holds it
  pub rewritten : (k : ℕ) → o.answer ≡ Ok k → f ≡ station_file (take 2305 o.tables) (take k o.plan)
  pub written_again : (k : ℕ) → o.answer ≡ Ok k → (a : List ℕ) → length f ≤ length a
      → ◌≡◌ {A = WriteOutcome} (write_outcome (take 2305 o.tables) (take k o.plan) a) (record { answer = Ok (length f); area = padded f (length a) })

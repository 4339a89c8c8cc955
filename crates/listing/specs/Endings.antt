-- Which number the program prints behind `end`, and with which counts. (01, "Orders, station files, program"; request 103.)
use Rattle.std.specs.Prelude.{ℕ, ◌+◌, ◌≤◌, ◌≡◌, List}
use Rattle.std.proofs.Math.Option.{none, some}
use Rattle.refusals.specs.declared.Refusal.{Refusal}
use Rattle.tables.specs.Tables.{actions}
use Rattle.plans.specs.declared.Counts.{Counts}
use Rattle.plans.specs.Orders.{no_paths, counts_of}
use Rattle.stations.specs.File.{file_refusal, tables_held, plan_held}
use Rattle.rewritings.specs.Runs.{Run, run_of}
use Rattle.listing.specs.Listing.{refused_line, run_listing, listing}

-- "E is 0, 34 or 36": where the unfolding finished, the plan reached has some path; under 34 and 36 orders and stuck are both 0
pub data EndNumber : ℕ → Counts → Type 0 where
  finished : {c : Counts} → 1 ≤ c.orders + c.stuck → EndNumber 0 c
  steps_spent : EndNumber 34 no_paths
  plan_too_long : EndNumber 36 no_paths

-- the unfolding of what the file f holds, "allowance 5,000, … areas A and B 8,192 each, list 15,000"
abbrev pub file_run : List ℕ → Run
file_run f = run_of (tables_held f) (plan_held f) 5000 15000 8192

-- the counts of the plan that it reaches, which the first line tells
abbrev pub file_counts : List ℕ → Counts
file_counts f = counts_of (actions (tables_held f)) (file_run f).plan

-- "It prints `end E steps S size Z orders O` (E is 0, 34 or 36), …", since request 103 with `stuck K` behind; "or only `refused N P`": the first of a
-- file that is not refused, the other of one that is
pub data Endings (f : List ℕ) : Type 0 where
  ended : file_refusal f 2305 8192 ≡ none → EndNumber (file_run f).number (file_counts f) → listing f ≡ run_listing (tables_held f) (file_run f) → Endings f
  refused : (r : Refusal) → file_refusal f 2305 8192 ≡ some r → listing f ≡ refused_line r → Endings f

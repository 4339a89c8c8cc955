-- A search over the rows of a part, and in each over its columns. The invariants: for a test that the calls answer, what is found from this
-- row or this column on, and else in the rows behind, is what is found at all.
use Prim.Native.Nat.{ℕ, ◌≤◌, ◌-◌, ◌+◌, ◌*◌}
use mathlib.Core.Bool.{Bool}
use mathlib.Core.Option.{Option, none}
use Rattle.refusals.specs.declared.Place.TheVariants.{Byte}
use Rattle.refusals.specs.declared.Refusal.{Refusal}
use Rattle.refusals.specs.Refusal.{number_of}
use Rattle.tables.specs.Tables.{row_length}
use Rattle.tables.specs.Search.{first_from, unless_met, TestsPairs}
use Rattle.tables.specs.Judging.{first_entry}
use Rattle.tables.proofs.Searching.{Finds, after}
use Rattle.tables.proofs.first_entry.Given as goal

-- what is found in a column of a row, and in a row
module _ (k : ℕ) (right : ℕ → ℕ → Bool) (start row : ℕ) where
  abbrev pub in-column : ℕ → Option Refusal
  in-column column = unless_met (right row column) (record { number = k; place = Byte (start + (row_length * row + column)) })

  abbrev pub in_row : Option Refusal
  in_row = first_from in-column 0 row_length

abbrev pub invariant-loop-column : goal.invariant-loop-column
invariant-loop-column g l =
    (l.column ≤ row_length)
    × ((right : ℕ → ℕ → Bool) → TestsPairs (goal.F-post g l.is_right) right
    → let k = number_of l.reason in
    Finds (in-column k right l.start l.row) row_length l.column (after (in_row k right l.start) l.rows l.row none) (first_entry k right l.start l.rows))

abbrev pub decreases-loop-column : goal.decreases-loop-column
decreases-loop-column g l = row_length - l.column

abbrev pub invariant-loop-row : goal.invariant-loop-row
invariant-loop-row g l =
    (l.row ≤ l.rows)
    × ((right : ℕ → ℕ → Bool) → TestsPairs (goal.F-post g l.is_right) right
    → let k = number_of l.reason in
    Finds (in_row k right l.start) l.rows l.row none (first_entry k right l.start l.rows))

abbrev pub decreases-loop-row : goal.decreases-loop-row
decreases-loop-row g l = l.rows - l.row

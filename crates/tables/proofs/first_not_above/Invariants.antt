-- A search over actions. The invariant: what is found from action a on is what is found at all.
use Prim.Native.Nat.{ℕ, suc, ◌≤◌, ◌-◌, ◌+◌}
use mathlib.Core.Option.{Option, none}
use Rattle.refusals.specs.declared.Place.TheVariants.{Byte}
use Rattle.refusals.specs.declared.Refusal.{Refusal}
use Rattle.tables.specs.Tables.{Tables, marked}
use Rattle.tables.specs.Search.{unless_met}
use Rattle.tables.specs.Judging.{least_right, first_not_above}
use Rattle.tables.proofs.Searching.{Finds}
use Rattle.tables.proofs.first_not_above.Given as goal

-- what is found at an action
abbrev pub not-above : Tables → ℕ → ℕ → Option Refusal
not-above t start a = unless_met (least_right (marked t start) a) (record { number = 7; place = Byte (start + a) })

abbrev pub invariant-loop-a : goal.invariant-loop-a
invariant-loop-a l = (1 ≤ l.a) × (l.a ≤ suc l.n) × Finds (not-above l.tables l.start) (suc l.n) l.a none (first_not_above l.tables l.start l.n)

abbrev pub decreases-loop-a : goal.decreases-loop-a
decreases-loop-a l = l.n - l.a

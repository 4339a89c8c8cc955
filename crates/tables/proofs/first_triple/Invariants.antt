-- Three nested searches. The invariants: for a test that the calls answer, what is found from this a, b or c on, and else in the searches
-- around, is what is found at all. The loops are left with the triple found.
use Prim.Native.Nat.{ℕ, suc, ◌≤◌, ◌-◌}
use mathlib.Core.Bool.{Bool}
use mathlib.Core.Option.{Option, none}
use Rattle.refusals.specs.declared.Place.TheVariants.{Triple}
use Rattle.refusals.specs.declared.Refusal.{Refusal}
use Rattle.refusals.specs.Refusal.{number_of}
use Rattle.tables.specs.Search.{first_from, unless_met, TestsTriples}
use Rattle.tables.specs.Judging.{first_triple}
use Rattle.tables.proofs.Searching.{Finds, after}
use Rattle.tables.proofs.first_triple.Given as goal

-- what is found at a triple, with a and b, and with a
module _ (k : ℕ) (right : ℕ → ℕ → ℕ → Bool) (n a : ℕ) where
  abbrev pub at-triple : ℕ → ℕ → Option Refusal
  at-triple b c = unless_met (right a b c) (record { number = k; place = Triple a b c })

  abbrev pub with_pair : ℕ → Option Refusal
  with_pair b = first_from (at-triple b) 0 (suc n)

  abbrev pub with_first : Option Refusal
  with_first = first_from with_pair 0 (suc n)

abbrev pub invariant-loop-c : goal.invariant-loop-c
invariant-loop-c g l =
    (l.c ≤ l.end)
    × ((right : ℕ → ℕ → ℕ → Bool) → TestsTriples (goal.F-post g l.is_right) right
    → let k = number_of l.reason in
    let around = after (with_pair k right l.n l.a) (suc l.n) l.b (after (with_first k right l.n) (suc l.n) l.a none) in
    Finds (at-triple k right l.n l.a l.b) (suc l.n) l.c around (first_triple k right l.n))

abbrev pub decreases-loop-c : goal.decreases-loop-c
decreases-loop-c g l = l.end - l.c

abbrev pub invariant-loop-b : goal.invariant-loop-b
invariant-loop-b g l =
    (l.b ≤ l.end)
    × ((right : ℕ → ℕ → ℕ → Bool) → TestsTriples (goal.F-post g l.is_right) right
    → let k = number_of l.reason in
    Finds (with_pair k right l.n l.a) (suc l.n) l.b (after (with_first k right l.n) (suc l.n) l.a none) (first_triple k right l.n))

abbrev pub decreases-loop-b : goal.decreases-loop-b
decreases-loop-b g l = l.end - l.b

abbrev pub invariant-loop-a : goal.invariant-loop-a
invariant-loop-a g l =
    (l.a ≤ l.end)
    × ((right : ℕ → ℕ → ℕ → Bool) → TestsTriples (goal.F-post g l.is_right) right
    → let k = number_of l.reason in
    Finds (with_first k right l.n) (suc l.n) l.a none (first_triple k right l.n))

abbrev pub decreases-loop-a : goal.decreases-loop-a
decreases-loop-a g l = l.end - l.a

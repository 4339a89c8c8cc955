-- A run's next step, or its end: what `run` comes to by the step that is next and by what is allowed.
use Prim.Native.Nat.{ℕ, suc, zero, ◌-◌, ◌≤◌, ◌<◌}
use native.Mathlib.Omega.{arith}
use mathlib.Core.Path.{◌≡◌}
use mathlib.Core.List.{List, [], ◌∷◌, ◌++◌}
use mathlib.Core.Option.{none, some}
use lib.ListN.{length}
use borrow.Author.Tests.{lt-ltb, le-ltb}
use Rattle.tables.specs.Tables.{Tables}
use Rattle.rewritings.specs.Moves.{Move}
use Rattle.rewritings.specs.Choice.{Found, next_step}
use Rattle.graphsteps.specs.Holding.{NotMade, none_allowed, list_full, too_long}
use Rattle.rewritings.specs.Runs.{run, move}
use Rattle.recording.specs.Recording.{Ends}

pub run_nowhere : (t : Tables) (c m room : ℕ) (w : List ℕ) → next_step t w ≡ none → Ends t c m room w 0
unfolding run
run_nowhere t c zero room w e k v r = rw e
run_nowhere t c (suc m) room w e k v r = rw e

module _ (t : Tables) (c : ℕ) (w : List ℕ) (s : Found) (e : next_step t w ≡ some s) where
  pub run_allowed : (m room : ℕ) → m ≡ 0 → Ends t c m room w 34
  unfolding run
  run_allowed zero room h k v r = rw e
  run_allowed (suc m) room h k v r = absurd (omega arith)

  pub run_room : (m room : ℕ) → 1 ≤ m → room < 3 → Ends t c m room w 35
  unfolding run
  run_room zero room h l k v r = absurd (omega arith)
  run_room (suc m) room h l k v r = rw (e, lt-ltb room 3 l)

  pub run_long : (m room : ℕ) → 1 ≤ m → 3 ≤ room → c < length s.plan → Ends t c m room w 36
  unfolding run
  run_long zero room h l u k v r = absurd (omega arith)
  run_long (suc m) room h l u k v r = rw (e, le-ltb room 3 l, lt-ltb c (length s.plan) u)

  pub run-goes : (m room : ℕ) → 1 ≤ m → 3 ≤ room → length s.plan ≤ c → (k : ℕ) (v : List ℕ) (r : List Move)
      → run t c m room k w v r ≡ run t c (m - 1) (room - 3) (suc k) s.plan w (r ++ (move s ∷ []))
  unfolding run
  run-goes zero room h l u k v r = absurd (omega arith)
  run-goes (suc m) room h l u k v r =
      let q : suc m - 1 ≡ m = omega arith in
      rw (e, le-ltb room 3 l, le-ltb c (length s.plan) u, q)

-- a step that is not made ends the run
pub stop-ends : (t : Tables) (c m room : ℕ) (w : List ℕ) {number : ℕ} → NotMade t c m room w number → Ends t c m room w number
stop-ends t c m room w (none_allowed s e z) = run_allowed t c w s e m room z
stop-ends t c m room w (list_full s e l i) = run_room t c w s e m room l i
stop-ends t c m room w (too_long s e l i q) = run_long t c w s e m room l i q

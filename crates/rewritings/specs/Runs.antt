-- The run of an unfolding: its steps one after another, and how it ends. (01, "Unfolding" and "Turned back by how far it had come".)
use Rattle.std.specs.Prelude.{ℕ, suc, zero, ◌-◌, Bool, true, false, List, [], ◌∷◌, ◌++◌, length, ltb}
use Rattle.std.proofs.Math.Option.{Option, none, some}
use Rattle.tables.specs.Tables.{Tables}
use Rattle.rewritings.specs.Moves.{Move}
use Rattle.rewritings.specs.Choice.{Found, next_step}

-- a run: how it ended (0 finished, or 34 to 36), how many steps were made, the plan reached, the plan before it, and the steps in their order
pub record Run : Type 0 where
  pub number : ℕ
  pub steps : ℕ
  pub plan : List ℕ
  pub before : List ℕ
  pub moves : List Move

-- the step found, as it is recorded
abbrev pub move : Found → Move
move s = record { law = s.law; place = s.place }

abbrev pub on_found : Option Found → Run → (Found → Run) → Run
on_found none stop go = stop
on_found (some s) stop go = go s

abbrev pub stop_if : Bool → Run → (Unit {0} → Run) → Run
stop_if true stop go = stop
stop_if false stop go = go tt

-- "Before each step: if no such law fits, finished; else 34, 35, 36 below in order": m steps allowed, c words to a plan, room bytes left in
-- the list; k steps made, w the plan, v the one before, r the steps
unfoldable pub run : Tables → ℕ → ℕ → ℕ → ℕ → List ℕ → List ℕ → List Move → Run
run t c zero room k w v r =
    on_found (next_step t w) (record { number = 0; steps = k; plan = w; before = v; moves = r })
    (λ s. record { number = 34; steps = k; plan = w; before = v; moves = r })
run t c (suc m) room k w v r =
    on_found (next_step t w) (record { number = 0; steps = k; plan = w; before = v; moves = r })
    (λ s. stop_if (ltb room 3) (record { number = 35; steps = k; plan = w; before = v; moves = r })
    (λ u. stop_if (ltb c (length s.plan)) (record { number = 36; steps = k; plan = w; before = v; moves = r })
    (λ u'. run t c m (room - 3) (suc k) s.plan w (r ++ (move s ∷ [])))))

-- the run that an unfolding makes: of a plan, with an allowance, a list of l bytes, and at most c words to a plan
unfoldable pub run_of : Tables → List ℕ → ℕ → ℕ → ℕ → Run
unfolding run
run_of t plan m l c = run t c m l 0 plan [] []

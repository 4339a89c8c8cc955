-- What an unfolding is given, what its answer reports, and why it stops. (01, "Unfolding" and "Turned back by how far it had come".)
use Rattle.refusals.specs.declared.Refusal.{Refusal}
use Prim.Native.Nat.{ℕ, ◌+◌, ◌*◌, ◌≤◌, ◌<◌}
use Rattle.std.specs.Prelude.{◌≡◌, length, take, Result, Ok}
use mathlib.Core.List.{List}
use Rattle.std.proofs.Math.Option.{some}
use Rattle.areas.specs.Reached.{even?, reached_part}
use Rattle.tables.specs.Tables.{Tables}
use Rattle.rewritings.specs.Choice.{Found, next_step}
use Rattle.unfolding.specs.declared.Unfolded.{Unfolded}
use Rattle.unfolding.specs.declared.Unfolded.TheVariants.{Finished, Stopped}
use Rattle.unfolding.specs.Unfolding.{UnfoldOutcome}

-- "Given tables, plan, allowance (0 to 4,294,967,295), a list for the rewriting, areas A and B"
pub record UnfoldGiven : Type 0 where
  pub tables : Tables
  pub plan : List ℕ
  pub allowance : ℕ
  pub list : List ℕ
  pub a : List ℕ
  pub b : List ℕ

abbrev pub unfold_given : Tables → List ℕ → ℕ → List ℕ → List ℕ → List ℕ → UnfoldGiven
unfold_given t plan m list a b = record { tables = t; plan = plan; allowance = m; list = list; a = a; b = b }

-- an answer that reports so many steps made and so many words reached: finished, or ended in 34, 35 or 36
pub data Reports : Result Unfolded Refusal → ℕ → ℕ → Type 0 where
  finished : {steps size : ℕ} → Reports (Ok (Finished steps size)) steps size
  stopped : {number steps size : ℕ} → Reports (Ok (Stopped number steps size)) steps size

-- "The unfolding's own rewriting is the first 3 × S bytes of its list, S being the steps made in its answer"
unfoldable pub own_rewriting : ℕ → List ℕ → List ℕ
own_rewriting steps list = take (3 * steps) list

-- the plan reached after so many steps, in the areas that were left
abbrev pub reached_in : UnfoldOutcome → ℕ → ℕ → List ℕ
reached_in left steps size = reached_part (even? steps) size left.a left.b

-- Why a run stops that has made so many steps and reached a plan where a law still fits: "34, 35, 36 below in order". Of an allowance, a list
-- of room bytes and c words to a plan.
pub data Stops (t : Tables) (allowance room c : ℕ) (plan : List ℕ) (steps : ℕ) : ℕ → Type 0 where
  -- "34 steps made equal the allowance"
  allowance_spent : (s : Found) → next_step t plan ≡ some s → steps ≡ allowance → Stops t allowance room c plan steps 34
  -- "35 the list can't take three bytes more"
  list_full : (s : Found) → next_step t plan ≡ some s → steps < allowance → room < 3 * steps + 3 → Stops t allowance room c plan steps 35
  -- "36 next plan longer than C"
  next_too_long : (s : Found) → next_step t plan ≡ some s → steps < allowance → 3 * steps + 3 ≤ room → c < length s.plan
      → Stops t allowance room c plan steps 36

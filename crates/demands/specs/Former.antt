-- The checker's definition as it was before request 108, kept for one claim alone, `forward_as_before`; nothing else uses it. It knows no step
-- backwards: three bytes are a step, and 16 is in 01's own words. What did not change is shared with Checking.
use Rattle.std.specs.Prelude.{ℕ, suc, ◌+◌, ◌%◌, ◌≤◌, ◌<◌, cond, ◌&&◌, List, [], ◌∷◌, ◌⊎◌, length, eqb, leb, ltb}
use Rattle.std.proofs.Math.Option.{Option, none}
use Rattle.refusals.specs.declared.Place.TheVariants.{Nowhere, Step}
use Rattle.refusals.specs.declared.Refusal.{Refusal}
use Rattle.refusals.specs.Refusal.{refuse, or_else}
use Rattle.areas.specs.Reached.{capacity}
use Rattle.tables.specs.Tables.{Tables, actions}
use Rattle.plans.specs.Judging.{plan_refusal, words_refusal}
use Rattle.laws.specs.Laws.{highest_law, same_bytes}
use Rattle.laws.specs.Step.{step}
use Rattle.rewritings.specs.Moves.{Move, moves_of}
use Rattle.checking.specs.Checking.{Replay, on_step, stop_if, if_refused, unless_refused, CheckOutcome}

-- "A list of forward steps": no first byte, three bytes to a step, is "128 more than a law's number"
abbrev pub AllForward : List Move → Type 0
AllForward [] = Unit
AllForward (m ∷ ms) = ((m.law ≤ 128) ⊎ (128 + highest_law < m.law)) × AllForward ms

abbrev pub ForwardList : List ℕ → Type 0
ForwardList rewriting = AllForward (moves_of rewriting)

-- "Accepted when every step fits and the last plan equals the claimed one in its words"; 31, 32 and 33
unfoldable pub replay : Tables → ℕ → List ℕ → List Move → ℕ → List ℕ → List ℕ → Replay
replay t c claimed [] k w v = record { number = cond (same_bytes w claimed) 0 33; steps = k; plan = w; before = v }
replay t c claimed (m ∷ ms) k w v =
    on_step (step t m.law m.place w) (record { number = 31; steps = k; plan = w; before = v })
    (λ next. stop_if (ltb c (length next)) (record { number = 32; steps = k; plan = w; before = v })
    (λ u. replay t c claimed ms (suc k) next w))

-- "17 law 0 or above 32 (first step)": of the moves from step i on
unfoldable pub unknown_law : ℕ → List Move → Option Refusal
unknown_law i [] = none
unknown_law i (m ∷ ms) = cond (leb 1 m.law && leb m.law highest_law) (unknown_law (suc i) ms) (refuse 17 (Step i))

-- "18 claimed plan would get 11 to 14; then 15 for the start plan only …; 16 rewriting not a multiple of 3; 17 law 0 or above 32 (first step)."
unfoldable pub rewriting_refusal : ℕ → List ℕ → List ℕ → List ℕ → ℕ → Option Refusal
rewriting_refusal n start claimed rewriting c =
    or_else (if_refused (words_refusal n claimed) (refuse 18 Nowhere))
    (or_else (cond (ltb c (length start)) (refuse 15 Nowhere) none)
    (or_else (cond (eqb (length rewriting % 3) 0) none (refuse 16 Nowhere)) (unknown_law 0 (moves_of rewriting))))

-- tables and start plan first
unfoldable pub check_refusal : Tables → List ℕ → List ℕ → List ℕ → ℕ → Option Refusal
check_refusal t start claimed rewriting c = or_else (plan_refusal t start) (rewriting_refusal (actions t) start claimed rewriting c)

-- everything that a check answered and left
unfoldable pub former_outcome : Tables → List ℕ → List ℕ → List ℕ → List ℕ → List ℕ → CheckOutcome
former_outcome t start claimed rewriting a b =
    unless_refused (check_refusal t start claimed rewriting (capacity a b)) (replay t (capacity a b) claimed (moves_of rewriting) 0 start []) a b

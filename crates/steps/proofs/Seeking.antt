-- The gap moved word by word: the plan under work stays what it was, and the rest of the state too.
use Prim.Native.Nat.{ℕ, ◌+◌, ◌-◌, ◌≤◌, ◌<◌}
use native.Mathlib.Omega.{arith}
use mathlib.Core.Path.{◌≡◌, refl, sym, ◌∙◌, ap}
use mathlib.Core.List.{List}
use mathlib.Core.Option.{none}
use lib.ListN.{length}
use Rattle.tables.specs.Tables.{Tables, actions}
use Rattle.plans.specs.Judging.{words_refusal}
use Rattle.buffer.specs.declared.State.{State}
use Rattle.buffer.specs.Buffer.{whole, Held, moved}
use Rattle.steps.specs.Working.{plan_in, Working, Same}
use Rattle.steps.proofs.Making.{plan-long}
use Rattle.areas.specs.Area.{most_words}

-- the gap stands where it did
pub same_start : (t : Tables) (left starts right : List ℕ) (s : State) → Working t left starts right s
    → Same t left starts right left starts right s (moved s s.read s.rest)
same_start t left starts right s w = record { working = record { held = w.held; accepted = w.accepted }; same_plan = refl; same_step = refl }

-- one word more or fewer is read
module _ (t : Tables) (left starts right left₁ starts₁ right₁ : List ℕ) (s : State) (read₁ rest₁ : ℕ)
    (m : Same t left starts right left₁ starts₁ right₁ s (moved s read₁ rest₁)) where
  pub same_on : (left₂ starts₂ right₂ : List ℕ) (read rest : ℕ) → whole left₂ right₂ read rest ≡ whole left₁ right₁ read₁ rest₁
      → Held (actions t) left₂ starts₂ right₂ read rest → Same t left starts right left₂ starts₂ right₂ s (moved s read rest)
  same_on left₂ starts₂ right₂ read rest f h =
      record {
        working = record { held = h; accepted = rw f m.working.accepted };
        same_plan = f ∙ m.same_plan;
        same_step = refl;
      }

-- the words at a place before the end are not all read: one is left
pub rest-left : (t : Tables) (left starts right left₁ starts₁ right₁ : List ℕ) (s g : State) → Same t left starts right left₁ starts₁ right₁ s g
    → (place : ℕ) → place < length (plan_in left right s) → g.read ≤ place → g.rest < most_words
rest-left t left starts right left₁ starts₁ right₁ s g m place h l =
    let e : g.read + (most_words - g.rest) ≡ length (plan_in left right s) = sym (plan-long t left₁ starts₁ right₁ g m.working) ∙ ap length m.same_plan in
    omega (arith, e, h, l)

-- the number of actions as a value
module _ (t : Tables) (n : ℕ) (count : n ≡ actions t) (left starts right : List ℕ) where
  pub count_held : (s : State) → Working t left starts right s → Held n left starts right s.read s.rest
  count_held s w = rw count w.held

  pub count-accepted : (s : State) → Working t left starts right s → words_refusal n (whole left right s.read s.rest) ≡ none
  count-accepted s w = rw count w.accepted

  pub held-count : (read rest : ℕ) → Held n left starts right read rest → Held (actions t) left starts right read rest
  held-count read rest h = rw (← count) h

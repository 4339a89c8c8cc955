-- A run by what it meets before each step. A larger allowance changes nothing of a run that 34 did not stop, and only adds steps to any other.
use Prim.Native.Nat.{ℕ, suc, zero, ◌+◌, ◌-◌, ◌≤◌, ◌<◌}
use native.Mathlib.Omega.{arith}
use mathlib.Core.Path.{◌≡◌, refl, sym, ◌∙◌, ap}
use mathlib.Core.Bool.{Bool, true, false}
use mathlib.Core.List.{List, [], ◌∷◌, ◌++◌, append_assoc, append-nil}
use mathlib.Core.Option.{Option, none, some}
use lib.ListN.{length}
use lib.Dec.{ltb}
use borrow.Author.Tests.{ltb-true, ltb-false, le-ltb, lt-ltb}
use Rattle.tables.specs.Tables.{Tables}
use Rattle.rewritings.specs.Moves.{Move}
use Rattle.rewritings.specs.Choice.{Found, next_step}
use Rattle.rewritings.specs.Runs.{Run, move, run, run_of}

-- a run that ends at once, by this number
abbrev pub stop : ℕ → ℕ → List ℕ → List ℕ → List Move → Run
stop number k w v r = record { number = number; steps = k; plan = w; before = v; moves = r }

module _ (t : Tables) (c : ℕ) where
  -- what a run meets: no law fits; no step is allowed; the list is full; the next plan is too long; or it makes a step
  run-finished : (m room k : ℕ) (w v : List ℕ) (r : List Move) → next_step t w ≡ none → run t c m room k w v r ≡ stop 0 k w v r
  unfolding run
  run-finished zero room k w v r e = rw e
  run-finished (suc m) room k w v r e = rw e

  run_spent : (room k : ℕ) (w v : List ℕ) (r : List Move) (s : Found) → next_step t w ≡ some s → run t c 0 room k w v r ≡ stop 34 k w v r
  unfolding run
  run_spent room k w v r s e = rw e

  run_full : (m room k : ℕ) (w v : List ℕ) (r : List Move) (s : Found) → next_step t w ≡ some s → room < 3
      → run t c (suc m) room k w v r ≡ stop 35 k w v r
  unfolding run
  run_full m room k w v r s e h = rw (e, lt-ltb room 3 h)

  run_long : (m room k : ℕ) (w v : List ℕ) (r : List Move) (s : Found) → next_step t w ≡ some s → 3 ≤ room → c < length s.plan
      → run t c (suc m) room k w v r ≡ stop 36 k w v r
  unfolding run
  run_long m room k w v r s e h l = rw (e, le-ltb room 3 h, lt-ltb c (length s.plan) l)

  run_on : (m room k : ℕ) (w v : List ℕ) (r : List Move) (s : Found) → next_step t w ≡ some s → 3 ≤ room → length s.plan ≤ c
      → run t c (suc m) room k w v r ≡ run t c m (room - 3) (suc k) s.plan w (r ++ (move s ∷ []))
  unfolding run
  run_on m room k w v r s e h l = rw (e, le-ltb room 3 h, le-ltb c (length s.plan) l)

  -- What holds of a run in each of the four endings, and before a step where it holds after it, holds of every run.
  module _ (P : ℕ → ℕ → ℕ → List ℕ → List ℕ → List Move → Run → Type 0)
      (finished : (m room k : ℕ) (w v : List ℕ) (r : List Move) → next_step t w ≡ none → P m room k w v r (stop 0 k w v r))
      (spent : (room k : ℕ) (w v : List ℕ) (r : List Move) (s : Found) → next_step t w ≡ some s → P 0 room k w v r (stop 34 k w v r))
      (full : (m room k : ℕ) (w v : List ℕ) (r : List Move) (s : Found) → next_step t w ≡ some s → room < 3
      → P (suc m) room k w v r (stop 35 k w v r))
      (long : (m room k : ℕ) (w v : List ℕ) (r : List Move) (s : Found) → next_step t w ≡ some s → 3 ≤ room → c < length s.plan
      → P (suc m) room k w v r (stop 36 k w v r))
      (further : (m room k : ℕ) (w v : List ℕ) (r : List Move) (s : Found) (R : Run) → next_step t w ≡ some s → 3 ≤ room → length s.plan ≤ c
      → P m (room - 3) (suc k) s.plan w (r ++ (move s ∷ [])) R → P (suc m) room k w v r R) where
    pub by_run : (m room k : ℕ) (w v : List ℕ) (r : List Move) → P m room k w v r (run t c m room k w v r)
    by_run zero room k w v r = by (next_step t w) refl
      where
        by : (o : Option Found) → next_step t w ≡ o → P 0 room k w v r (run t c 0 room k w v r)
        by none e = rw (run-finished 0 room k w v r e) (finished 0 room k w v r e)
        by (some s) e = rw (run_spent room k w v r s e) (spent room k w v r s e)
    by_run (suc m) room k w v r = by (next_step t w) refl (λ s. by_run m (room - 3) (suc k) s.plan w (r ++ (move s ∷ [])))
      where
        by_words : (s : Found) → next_step t w ≡ some s → 3 ≤ room → (b : Bool) → ltb c (length s.plan) ≡ b
            → P m (room - 3) (suc k) s.plan w (r ++ (move s ∷ [])) (run t c m (room - 3) (suc k) s.plan w (r ++ (move s ∷ [])))
            → P (suc m) room k w v r (run t c (suc m) room k w v r)
        by_words s e h true q i = let l = ltb-true c (length s.plan) q in rw (run_long m room k w v r s e h l) (long m room k w v r s e h l)
        by_words s e h false q i =
            let l = ltb-false c (length s.plan) q in rw (run_on m room k w v r s e h l) (further m room k w v r s _ e h l i)

        by_room : (s : Found) → next_step t w ≡ some s → (b : Bool) → ltb room 3 ≡ b
            → P m (room - 3) (suc k) s.plan w (r ++ (move s ∷ [])) (run t c m (room - 3) (suc k) s.plan w (r ++ (move s ∷ [])))
            → P (suc m) room k w v r (run t c (suc m) room k w v r)
        by_room s e true q i = let h = ltb-true room 3 q in rw (run_full m room k w v r s e h) (full m room k w v r s e h)
        by_room s e false q i = by_words s e (ltb-false room 3 q) (ltb c (length s.plan)) refl i

        by : (o : Option Found) → next_step t w ≡ o
            → ((s : Found) → P m (room - 3) (suc k) s.plan w (r ++ (move s ∷ [])) (run t c m (room - 3) (suc k) s.plan w (r ++ (move s ∷ []))))
            → P (suc m) room k w v r (run t c (suc m) room k w v r)
        by none e i = rw (run-finished (suc m) room k w v r e) (finished (suc m) room k w v r e)
        by (some s) e i = by_room s e (ltb room 3) refl (i s)

  -- one step more allowed
  later : (d m : ℕ) → d + suc m ≡ suc (d + m)
  later d m = omega arith

  -- no more steps are made than are allowed
  steps_allowed : (m room k : ℕ) (w v : List ℕ) (r : List Move) → (run t c m room k w v r).steps ≤ k + m
  steps_allowed =
      by_run (λ m room k w v r R. R.steps ≤ k + m)
      (λ m room k w v r e. omega arith)
      (λ room k w v r s e. omega arith)
      (λ m room k w v r s e h. omega arith)
      (λ m room k w v r s e h l. omega arith)
      (λ m room k w v r s R e h l i. omega (arith, i))

  -- a run that 34 did not stop is the same with more allowed
  same_later : (m room k : ℕ) (w v : List ℕ) (r : List Move) (d : ℕ) → ((run t c m room k w v r).number ≡ 34 → ⊥)
      → run t c (d + m) room k w v r ≡ run t c m room k w v r
  same_later =
      by_run (λ m room k w v r R. (d : ℕ) → (R.number ≡ 34 → ⊥) → run t c (d + m) room k w v r ≡ R)
      (λ m room k w v r e d f. run-finished (d + m) room k w v r e)
      (λ room k w v r s e d f. absurd (f refl))
      (λ m room k w v r s e h d f. rw (later d m) (run_full (d + m) room k w v r s e h))
      (λ m room k w v r s e h l d f. rw (later d m) (run_long (d + m) room k w v r s e h l))
      (λ m room k w v r s R e h l i d f. rw (later d m, run_on (d + m) room k w v r s e h l) (i d f))

  -- the steps made before stay, at the front
  abbrev Begins : List Move → List Move → Type 0
  Begins r all = (own : List Move) × (all ≡ r ++ own)

  kept : (m room k : ℕ) (w v : List ℕ) (r : List Move) → Begins r (run t c m room k w v r).moves
  kept =
      by_run (λ m room k w v r R. Begins r R.moves)
      (λ m room k w v r e. ([], sym (append-nil r)))
      (λ room k w v r s e. ([], sym (append-nil r)))
      (λ m room k w v r s e h. ([], sym (append-nil r)))
      (λ m room k w v r s e h l. ([], sym (append-nil r)))
      (λ m room k w v r s R e h l i. (move s ∷ i.0, i.1 ∙ append_assoc r (move s ∷ []) i.0))

  -- and those of a run stay, at the front, with more allowed
  begins-later : (m room k : ℕ) (w v : List ℕ) (r : List Move) (d : ℕ)
      → Begins (run t c m room k w v r).moves (run t c (d + m) room k w v r).moves
  begins-later =
      by_run (λ m room k w v r R. (d : ℕ) → Begins R.moves (run t c (d + m) room k w v r).moves)
      (λ m room k w v r e d. kept (d + m) room k w v r)
      (λ room k w v r s e d. kept (d + 0) room k w v r)
      (λ m room k w v r s e h d. kept (d + suc m) room k w v r)
      (λ m room k w v r s e h l d. kept (d + suc m) room k w v r)
      (λ m room k w v r s R e h l i d. rw (later d m, run_on (d + m) room k w v r s e h l) (i d))

-- Of the run that an unfolding makes, by its allowance:
module _ (t : Tables) (plan : List ℕ) (l c : ℕ) where
  abbrev Of : ℕ → Run
  Of m = run_of t plan m l c

  -- no more steps than are allowed
  pub within-allowance : (m : ℕ) → (Of m).steps ≤ m
  unfolding run_of
  within-allowance m = omega (arith, steps_allowed t c m l 0 plan [] [])

  -- a larger allowance changes nothing, unless 34 stopped the run
  pub same_with_more : (m n : ℕ) → m ≤ n → ((Of m).number ≡ 34 → ⊥) → Of n ≡ Of m
  unfolding run_of
  same_with_more m n h f =
      let e : n - m + m ≡ n = omega (arith, h) in ap (λ (k : ℕ). Of k) (sym e) ∙ same_later t c m l 0 plan [] [] (n - m) f

  -- and its steps are the first of those made with a larger one
  pub begins_with_more : (m n : ℕ) → m ≤ n → (rest : List Move) × ((Of n).moves ≡ (Of m).moves ++ rest)
  unfolding run_of
  begins_with_more m n h =
      let e : n - m + m ≡ n = omega (arith, h) in
      let b = begins-later t c m l 0 plan [] [] (n - m) in (b.0, ap (λ (k : ℕ). (Of k).moves) (sym e) ∙ b.1)

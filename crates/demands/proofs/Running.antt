-- A run of the unfolding: its steps replay to the plan reached, within the same bounds, and it ends as document 01 says.
use Prim.Native.Nat.{ℕ, suc, ◌≤◌, ◌+◌, ◌-◌, ◌*◌}
use native.Mathlib.Omega.{arith}
use native.Mathlib.Numerals.{unary_clauses}
use mathlib.Core.Path.{◌≡◌, refl, sym, ◌∙◌, ap, subst}
use mathlib.Core.List.{List, [], ◌∷◌, ◌++◌, append_assoc, append-nil}
use mathlib.Core.Logic.{◌↔◌}
use mathlib.Core.Option.{none, some}
use lib.ListN.{length}
use borrow.Author.Tests.{le-ltb, le-leb}
use Rattle.tables.specs.Tables.{Tables}
use Rattle.plans.proofs.Options.{never}
use Rattle.laws.specs.Step.{Rewrites, no_step, step_then}
use Rattle.rewritings.specs.Moves.{Move, bytes_of}
use Rattle.rewritings.specs.Choice.{Found, next_step}
use Rattle.rewritings.proofs.Moves.{bytes_long}
use Rattle.rewritings.proofs.Bytes.{LawedAll, forwards}
use Rattle.rewritings.proofs.Choosing.{Taken, next-taken}
use Rattle.rewritings.specs.Runs.{Run, move, run, run_of}
use Rattle.rewritings.proofs.Runs.{stop, by_run}
use Rattle.ending.specs.Ending.{Steps, none_left, one_more}
use Rattle.ending.proofs.Steps.{same_next, no_steps}
use Rattle.checking.specs.Checking.{step_of, replay, unknown_law, left_refusal}
use Rattle.laws.proofs.Sound.{same_itself}
use Rattle.demands.specs.Reports.{Stops, allowance_spent, list_full, next_too_long}

-- steps from left to right carry nothing that could be refused
pub left_none : (n i : ℕ) (ms : List Move) → left_refusal n i (forwards ms) ≡ none
unfolding left_refusal forwards
left_none n i [] = refl
left_none n i (m ∷ ms) = left_none n (suc i) ms

-- how a run ends: no law fits, or it stops where one does
pub data Ends (t : Tables) (allowance room c : ℕ) (plan : List ℕ) (steps : ℕ) : ℕ → Type 0 where
  no_law-fits : next_step t plan ≡ none → Ends t allowance room c plan steps 0
  stops : {number : ℕ} → Stops t allowance room c plan steps number → Ends t allowance room c plan steps number

-- What holds of a run R from plan w, with v before it, k steps made, which are r, m more allowed and room bytes left in the list.
pub record Followed (t : Tables) (c m room k : ℕ) (w v : List ℕ) (r : List Move) (R : Run) : Type 0 where
  -- its own steps
  pub own : List Move
  pub is_own : R.moves ≡ r ++ own
  -- the replay of those, to the plan reached, accepts
  pub replays : replay t c R.plan (forwards own) k w v ≡ record { number = 0; steps = R.steps; plan = R.plan; before = R.before }
  -- all their laws are known
  pub known : (i : ℕ) → unknown_law i (forwards own) ≡ none
  pub lawed : LawedAll (forwards own)
  -- they are as many as are counted, and the list holds them
  pub counted : k + length own ≡ R.steps
  pub held : 3 * length own ≤ room
  -- the plan reached is reached by them, and they are those of the run without limits
  pub chain : Rewrites t w R.plan
  pub path : Steps t (length own) w R.plan
  -- none of their plans is too long
  pub short : length w ≤ c → (j : ℕ) (u : List ℕ) → Steps t j w u → j ≤ length own → length u ≤ c
  -- with all steps made and left, and all bytes filled and left
  pub ends : Ends t (m + k) (room + 3 * k) c R.plan R.steps R.number

module _ (t : Tables) (c : ℕ) where
  -- a run that ends at once
  ended : (number m room k : ℕ) (w v : List ℕ) (r : List Move) → Ends t (m + k) (room + 3 * k) c w k number
      → Followed t c m room k w v r (stop number k w v r)
  unfolding replay unknown_law forwards
  ended number m room k w v r e =
      record {
        own = [];
        is_own = sym (append-nil r);
        replays = rw (same_itself w);
        known = λ i. refl;
        lawed = tt;
        counted = omega arith;
        held = omega arith;
        chain = no_step;
        path = none_left;
        short = λ h j u p l. subst (λ (x : List ℕ). length x ≤ c) (no_steps t p (omega (arith, l))) h;
        ends = e;
      }

  -- one step, and then a run
  module _ (m room k : ℕ) (w v : List ℕ) (r : List Move) (s : Found) (R : Run) (e : next_step t w ≡ some s) (roomy : 3 ≤ room)
      (shorter : length s.plan ≤ c) (F : Followed t c m (room - 3) (suc k) s.plan w (r ++ (move s ∷ [])) R) where
    taken : Taken t w s
    taken = next-taken t w s e

    replays_all : replay t c R.plan (forwards (move s ∷ F.own)) k w v ≡ record { number = 0; steps = R.steps; plan = R.plan; before = R.before }
    unfolding replay step_of forwards
    replays_all = rw (taken.fits, le-ltb c (length s.plan) shorter) F.replays

    known_all : (i : ℕ) → unknown_law i (forwards (move s ∷ F.own)) ≡ none
    unfolding unknown_law forwards
    known_all i = rw (le-leb 1 s.law (omega (arith, taken.low)), le-leb s.law 32 taken.high) (F.known (suc i))

    lawed_all : LawedAll (forwards (move s ∷ F.own))
    unfolding forwards
    lawed_all = ((omega (arith, taken.low), taken.high), F.lawed)

    short_all : {j : ℕ} {x u : List ℕ} → Steps t j x u → w ≡ x → length w ≤ c → j ≤ suc (length F.own) → length u ≤ c
    short_all none_left h q l = rw (← h) q
    short_all {u = u} (one_more {k = j} s' e' p) h q l =
        F.short shorter j u (subst (λ (x : List ℕ). Steps t j x u) (sym (same_next t e e' h)) p) (omega (arith, l))

    ends_all : Ends t (suc m + k) (room + 3 * k) c R.plan R.steps R.number
    ends_all =
        let p : m + suc k ≡ suc m + k = omega arith in
        let q : (room - 3) + 3 * suc k ≡ room + 3 * k = omega arith in rw (← p, ← q) F.ends

    longer : Followed t c (suc m) room k w v r R
    longer =
        record {
          own = move s ∷ F.own;
          is_own = F.is_own ∙ append_assoc r (move s ∷ []) F.own;
          replays = replays_all;
          known = known_all;
          lawed = lawed_all;
          counted = omega (arith, F.counted);
          held = omega (arith, F.held);
          chain = step_then s.law s.place taken.fits F.chain;
          path = one_more s e F.path;
          short = λ h j u p l. short_all p refl h l;
          ends = ends_all;
        }

  pub followed : (m room k : ℕ) (w v : List ℕ) (r : List Move) → Followed t c m room k w v r (run t c m room k w v r)
  followed =
      by_run t c (Followed t c)
      (λ m room k w v r e. ended 0 m room k w v r (no_law-fits e))
      (λ room k w v r s e. ended 34 0 room k w v r (stops (allowance_spent s e (omega arith))))
      (λ m room k w v r s e h. ended 35 (suc m) room k w v r (stops (list_full s e (omega arith) (omega (arith, h)))))
      (λ m room k w v r s e h l. ended 36 (suc m) room k w v r (stops (next_too_long s e (omega arith) (omega (arith, h)) l)))
      (λ m room k w v r s R e h l F. longer m room k w v r s R e h l F)

-- a stop is not a finish, and a law still fits there
pub stop-number : {t : Tables} {m l c k n : ℕ} {w : List ℕ} → Stops t m l c w k n → (n ≡ 0) → ⊥
stop-number (allowance_spent s e h) q = omega arith
stop-number (list_full s e h i) q = omega arith
stop-number (next_too_long s e h i j) q = omega arith

pub stop-fits : {t : Tables} {m l c k n : ℕ} {w : List ℕ} → Stops t m l c w k n → (s : Found) × (next_step t w ≡ some s)
stop-fits (allowance_spent s e h) = (s, e)
stop-fits (list_full s e h i) = (s, e)
stop-fits (next_too_long s e h i j) = (s, e)

-- finished exactly where no law fits
pub ends-finished : {t : Tables} {m l c k n : ℕ} {w : List ℕ} → Ends t m l c w k n → (n ≡ 0) ↔ (next_step t w ≡ none)
ends-finished (no_law-fits e) = (λ q. e, λ q. refl)
ends-finished (stops s) = (λ q. absurd (stop-number s q), λ q. never (sym q ∙ (stop-fits s).1))

-- and else it stops
pub ends-stopped : {t : Tables} {m l c k n : ℕ} {w : List ℕ} → Ends t m l c w k n → (n ≡ 0 → ⊥) → Stops t m l c w k n
ends-stopped (no_law-fits e) f = absurd (f refl)
ends-stopped (stops s) f = s

-- of the run that an unfolding makes: its steps are as many as are counted, three bytes to each, the list holds them, and it ends so
module _ (t : Tables) (plan : List ℕ) (m l c : ℕ) where
  pub run-followed : Followed t c m l 0 plan [] [] (run_of t plan m l c)
  unfolding run_of
  run-followed = followed t c m l 0 plan [] []

  pub run-counted : length (run_of t plan m l c).moves ≡ (run_of t plan m l c).steps
  run-counted = rw run-followed.is_own (omega (arith, run-followed.counted))

  pub run-records-long : length (bytes_of (run_of t plan m l c).moves) ≡ 3 * (run_of t plan m l c).steps
  run-records-long = bytes_long (run_of t plan m l c).moves ∙ ap (λ (k : ℕ). 3 * k) run-counted

  -- no plan of them is too long
  pub run_short : length plan ≤ c → length (run_of t plan m l c).plan ≤ c
  run_short h = let F = run-followed in F.short h (length F.own) (run_of t plan m l c).plan F.path (omega arith)

  pub run-held : 3 * (run_of t plan m l c).steps ≤ l
  run-held = omega (arith, run-followed.counted, run-followed.held)

  pub run_ends : Ends t m l c (run_of t plan m l c).plan (run_of t plan m l c).steps (run_of t plan m l c).number
  run_ends = simp unary_clauses at run-followed.ends

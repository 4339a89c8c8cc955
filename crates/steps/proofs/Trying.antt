-- A step from left to right at a place: what it answers, by what the law does at the last word read.
use Prim.Native.Nat.{ℕ, ◌+◌, ◌-◌, ◌≤◌, ◌<◌}
use native.Mathlib.Omega.{arith}
use mathlib.Core.Path.{◌≡◌, refl, sym, ◌∙◌, subst}
use mathlib.Core.Bool.{Bool, true, false, not}
use mathlib.Core.List.{List, ◌++◌}
use mathlib.Core.Option.{Option, none, some}
use lib.ListN.{length, get_or, take, drop}
use lib.Seq.{length-take-le, get_or-take}
use Rattle.tables.specs.Tables.{Tables, actions}
use Rattle.plans.specs.Term.{Term, words}
use Rattle.plans.specs.Start.{start_of}
use Rattle.plans.proofs.Place.{stack_at}
use Rattle.plans.proofs.Accepted.{accepted-term}
use Rattle.laws.specs.Step.{step}
use Rattle.matching.specs.Start.{Readable, Ready}
use Rattle.matching.specs.Right.{spelled_law}
use Rattle.rewritings.specs.Roots.{law_term}
use Rattle.matching.specs.declared.Letters.{Letters}
use Rattle.matching.specs.Tried.{Tried, fails, fits}
use Rattle.std.specs.Prelude.{Option as Maybe, Some, None}
use Rattle.buffer.specs.declared.State.{State}
use Rattle.buffer.proofs.Whole.{take_whole}
use Rattle.steps.specs.Working.{plan_in, Working, Same, side_here, next_with}
use Rattle.rewritings.proofs.Prefixes.{last-fails, last_fits}
use Rattle.steps.proofs.Making.{plan_split, gap, read-long, next_is}

-- the words read of a plan under work are words that laws can be tried on
module _ (t : Tables) (n : ℕ) (count : n ≡ actions t) (few : n ≤ 31) (left starts right : List ℕ) (s : State) (work : Working t left starts right s) where
  readable : Readable (actions t) (take s.read left)
  readable =
      let u = accepted-term (actions t) (rw (← count) few) (plan_in left right s) work.accepted in
      let r = stack_at (actions t) (plan_in left right s) u.0 u.1 s.read in
      record { waiting = r.0; reads = rw (take_whole left right s.read s.rest (gap t left starts right s work)) at r.1 }

  starts_of_read : length (take s.read starts) ≡ s.read
  starts_of_read = length-take-le s.read starts (omega (arith, work.held.starts_long, work.held.apart, work.held.rest_in))

  pub ready : 1 ≤ s.read → Ready n (take s.read left) (take s.read starts)
  ready h =
      rw count
      (record {
        few = rw (← count) few;
        some_word = omega (arith, read-long t left starts right s work);
        not_many = omega (arith, read-long t left starts right s work, work.held.apart, work.held.rest_in);
        readable = readable;
        enough = omega (arith, read-long t left starts right s work, starts_of_read);
        right = λ k l. right-start k (rw (read-long t left starts right s work) at l);
      })
    where
      right-start : (k : ℕ) → k < s.read → get_or (take s.read starts) k 0 ≡ start_of (actions t) (take s.read left) k
      right-start k l = get_or-take s.read starts k 0 l ∙ work.held.starts_right k l

-- what a law that was tried gives
tried_fails : {t : Tables} {k : ℕ} {plan : List ℕ} {o : Option Term} {r : Maybe Letters} → Tried t k plan o r → r ≡ None → o ≡ none
tried_fails fails e = refl
tried_fails (fits v l r s) e = cc

tried_fits : {t : Tables} {k : ℕ} {plan : List ℕ} {o : Option Term} {r : Maybe Letters} (l : Letters) → Tried t k plan o r → r ≡ Some l
    → (v : Term) × (o ≡ some v) × (spelled_law t k plan l.from l.to ≡ words v)
tried_fits l fails e = cc
tried_fits l (fits v l' r s) e = let same : l' ≡ l = cc in (v, refl, rw (← same) s)

-- the state s₀ at entry, and s with the word at the place read last
module _ (t : Tables) (law place : ℕ) (left₀ starts₀ right₀ : List ℕ) (s₀ : State) (n : ℕ) (count : n ≡ actions t) (left starts right : List ℕ) (s : State)
    (m : Same t left₀ starts₀ right₀ left starts right s₀ s) (there : s.read ≡ place + 1) where
  filled : 1 ≤ length (take s.read left)
  filled = omega (arith, read-long t left starts right s m.working, there)

  parts : take s.read left ++ drop s.rest right ≡ plan_in left₀ right₀ s₀
  parts = sym (plan_split left right s) ∙ m.same_plan

  at_place : {o : Option (List ℕ)} → step t law (length (take s.read left) - 1) (take s.read left ++ drop s.rest right) ≡ o
      → step t law place (plan_in left₀ right₀ s₀) ≡ o
  at_place {o} e =
      let last : length (take s.read left) - 1 ≡ place = omega (arith, read-long t left starts right s m.working, there) in
      subst (λ (p : ℕ). step t law p (plan_in left₀ right₀ s₀) ≡ o) last
      (subst (λ (w : List ℕ). step t law (length (take s.read left) - 1) w ≡ o) parts e)

  fitted : (f g : List ℕ) (v : Term) → law_term t n law (take s.read left) ≡ some v → spelled_law t law (take s.read left) f g ≡ words v
      → step t law place (plan_in left₀ right₀ s₀) ≡ some (next_with (side_here t law left f g s) left starts right s)
  fitted f g v gives spells =
      rw (spells, next_is t left starts right s m.working (words v) (omega (arith, there)))
      (at_place (last_fits t (take s.read left) (drop s.rest right) filled law v (rw count at gives)))

  module _ (r : Maybe Letters) (tried : Tried t law (take s.read left) (law_term t n law (take s.read left)) r) where
    pub step_none : r ≡ None → step t law place (plan_in left₀ right₀ s₀) ≡ none
    step_none e = at_place (last-fails t (take s.read left) (drop s.rest right) filled law (rw count at (tried_fails tried e)))

    pub step_some : (l : Letters) → r ≡ Some l
        → step t law place (plan_in left₀ right₀ s₀) ≡ some (next_with (side_here t law left l.from l.to s) left starts right s)
    step_some l e = let v = tried_fits l tried e in fitted l.from l.to v.0 v.1 v.2

-- What one step of a rewriting, of either direction, answers: by the plan that it gives, and by what is put in at the last word read.
use Prim.Native.Nat.{ℕ, ◌+◌, ◌≤◌, ◌<◌}
use mathlib.Core.Path.{◌≡◌, refl, ◌∙◌, ap, subst}
use mathlib.Core.List.{List}
use mathlib.Core.Option.{Option, none, some}
use Rattle.std.specs.Prelude.{Some, None, Option as Maybe, Result, Ok, Err}
use Rattle.std.specs.Option.{ok_or}
use lib.ListN.{length}
use Rattle.areas.specs.Area.{most_words}
use Rattle.areas.specs.declared.StepState.{StepState}
use Rattle.areas.specs.Storing.{Kept}
use Rattle.tables.specs.Tables.{Tables, actions}
use Rattle.plans.specs.Judging.{words_refusal}
use Rattle.buffer.specs.declared.State.{State}
use Rattle.steps.specs.Working.{plan_in, Working, Same, Next, next_with, Put, too_long, Sought, past, here, Stepping, done, fails, long}
use Rattle.steps.specs.declared.Fault.TheVariants.{DoesNotFit, TooLong}
use Rattle.steps.specs.declared.NotMade.{NotMade}
use Rattle.steps.proofs.Making.{made-next}
use Rattle.steps.proofs.Seeking.{same_start}

-- the state s₀ at entry, at which the step gives `next` or does not fit; and s with the word at the place read last
module _ (t : Tables) (next : Option (List ℕ)) (c : ℕ) (left₀ starts₀ right₀ old₀ : List ℕ) (s₀ : State) where
  pub answer-past : (place : ℕ) (left starts right : List ℕ) (r : Result State NotMade) → Sought t place left₀ starts₀ right₀ left starts right s₀ r
      → Working t left₀ starts₀ right₀ s₀ → (length (plan_in left₀ right₀ s₀) ≤ place → next ≡ none) → (e : NotMade) → r ≡ Err e
      → Stepping t next c left₀ starts₀ right₀ old₀ left starts right old₀ s₀ (Err e)
  answer-past place left starts right r h w outside e q = go (subst (Sought t place left₀ starts₀ right₀ left starts right s₀) q h)
    where
      go : {e : NotMade} → Sought t place left₀ starts₀ right₀ left starts right s₀ (Err e) → Stepping t next c left₀ starts₀ right₀ old₀ left starts right old₀ s₀ (Err e)
      go (past l a b d) = rw (a, b, d) (fails s₀ (outside l) (same_start t left₀ starts₀ right₀ s₀ w) refl)

  module _ (left starts right : List ℕ) (s : State) (m : Same t left₀ starts₀ right₀ left starts right s₀ s) where
    pub answer-fails : next ≡ none → Stepping t next c left₀ starts₀ right₀ old₀ left starts right old₀ s₀ (Err (record { fault = DoesNotFit; state = s }))
    answer-fails e = fails s e m refl

    -- the words `side` are put in
    module _ (side : List ℕ) (made : next ≡ some (next_with side left starts right s)) (right' old' : List ℕ) (r : Maybe State)
        (p : Put c side left starts right old₀ right' old' s r) where
      answer-long : r ≡ None → Stepping t next c left₀ starts₀ right₀ old₀ left starts right' old' s₀ (Err (record { fault = TooLong; state = s }))
      answer-long q = go (subst (Put c side left starts right old₀ right' old' s) q p)
        where
          go : Put c side left starts right old₀ right' old' s None → Stepping t next c left₀ starts₀ right₀ old₀ left starts right' old' s₀ (Err (record { fault = TooLong; state = s }))
          go (too_long h e i) = long s (next_with side left starts right s) made h (rw e m) i

      answer-done : (s' : State) → r ≡ Some s' → 1 ≤ s.read → c ≤ most_words → Kept c (plan_in left₀ right₀ s₀) old₀ s₀.made
          → (length (next_with side left starts right s) ≤ most_words → words_refusal (actions t) (next_with side left starts right s) ≡ none)
          → Stepping t next c left₀ starts₀ right₀ old₀ left starts right' old' s₀ (Ok s')
      answer-done s' q some_read most k accepted =
          let w = next_with side left starts right s in
          let d : Next t c left right left starts right' old' s s' w =
          made-next t c side left starts right old₀ right' old' s most m.working (rw m.same_plan k.short) (rw m.same_step k.parity)
          some_read accepted s' (subst (Put c side left starts right old₀ right' old' s) q p) in
          done s' w made d.kept.short
          (record {
            working = d.working;
            kept = d.kept;
            next_plan = d.next_plan;
            next_before = d.next_before ∙ m.same_plan;
            next_steps = d.next_steps ∙ ap (λ (z : StepState). z.steps + 1) m.same_step;
          })

      pub answer : 1 ≤ s.read → c ≤ most_words → Kept c (plan_in left₀ right₀ s₀) old₀ s₀.made
          → (length (next_with side left starts right s) ≤ most_words → words_refusal (actions t) (next_with side left starts right s) ≡ none)
          → (q : Result State NotMade) → q ≡ ok_or r (record { fault = TooLong; state = s }) → Stepping t next c left₀ starts₀ right₀ old₀ left starts right' old' s₀ q
      answer some_read most k accepted q e = rw e (go r refl)
        where
          go : (o : Maybe State) → r ≡ o → Stepping t next c left₀ starts₀ right₀ old₀ left starts right' old' s₀ (ok_or o (record { fault = TooLong; state = s }))
          go None z = answer-long z
          go (Some s') z = answer-done s' z some_read most k accepted

-- where the word at a place is the last one read
pub record Here (t : Tables) (place : ℕ) (left starts right left' starts' right' : List ℕ) (s s' : State) : Type 0 where
  pub inside : place < length (plan_in left right s)
  pub same : Same t left starts right left' starts' right' s s'
  pub at_place : s'.read ≡ place + 1

pub sought-here : (t : Tables) (place : ℕ) (left starts right left' starts' right' : List ℕ) (s : State) (r : Result State NotMade)
    → Sought t place left starts right left' starts' right' s r → (s' : State) → r ≡ Ok s' → Here t place left starts right left' starts' right' s s'
sought-here t place left starts right left' starts' right' s r h s' q = go (subst (Sought t place left starts right left' starts' right' s) q h)
  where
    go : {s' : State} → Sought t place left starts right left' starts' right' s (Ok s') → Here t place left starts right left' starts' right' s s'
    go (here s' i m a) = record { inside = i; same = m; at_place = a }

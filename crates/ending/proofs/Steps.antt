-- Steps from one plan: those of a shorter run are the first of a longer one, and there is one number of them after which a plan is basic.
use Prim.Native.Nat.{ℕ, suc, ◌+◌, ◌≤◌}
use native.Mathlib.Omega.{arith}
use mathlib.Core.Path.{◌≡◌, refl, sym, ◌∙◌, ap, subst}
use mathlib.Core.List.{List}
use mathlib.Core.Option.{none, some, some-injective}
use Rattle.tables.specs.Tables.{Tables, actions}
use Rattle.plans.specs.Accepted.{BasicWords}
use Rattle.plans.proofs.Options.{never}
use Rattle.rewritings.specs.Choice.{Found, next_step}
use Rattle.ending.specs.Ending.{Steps, none_left, one_more, Within, ComesTo}
use Rattle.ending.proofs.Parts.{quiet}

module _ (t : Tables) where
  -- equal plans have the same next step
  pub same_next : {w x : List ℕ} {s q : Found} → next_step t w ≡ some s → next_step t x ≡ some q → w ≡ x → s.plan ≡ q.plan
  same_next {s = s} {q} e f h = ap (λ (z : Found). z.plan) (some-injective s q (sym e ∙ ap (next_step t) h ∙ f))

  -- steps and then further ones
  pub joined : {j k : ℕ} {w u v : List ℕ} → Steps t j w u → Steps t k u v → Steps t (j + k) w v
  joined {k = k} {v = v} (none_left {w = w}) q = subst (λ (n : ℕ). Steps t n w v) (omega arith) q
  joined {k = k} {v = v} (one_more {k = j} {w = w} s e p) q = subst (λ (n : ℕ). Steps t n w v) (omega arith) (one_more s e (joined p q))

  pub one_further : {k : ℕ} {w u : List ℕ} → Steps t k w u → (s : Found) → next_step t u ≡ some s → Steps t (suc k) w s.plan
  one_further none_left s e = one_more s e none_left
  one_further (one_more q f p) s e = one_more q f (one_further p s e)

  -- what is left of a longer run after the steps of a shorter one
  pub left_over : {j k : ℕ} {w x u v : List ℕ} → Steps t j w u → Steps t k x v → w ≡ x → j ≤ k → (i : ℕ) × (j + i ≡ k) × Steps t i u v
  left_over {k = k} {v = v} none_left q h l = (k, omega arith, subst (λ (y : List ℕ). Steps t k y v) (sym h) q)
  left_over (one_more s e p) none_left h l = absurd (omega (arith, l))
  left_over (one_more s e p) (one_more s' e' q) h l =
      let r = left_over p q (same_next e e' h) (omega (arith, l)) in (r.0, omega (arith, r.1), r.2)

  -- no run is longer than one to a plan where no law fits
  pub no_longer : {j k : ℕ} {w x u v : List ℕ} → Steps t j w u → Steps t k x v → w ≡ x → next_step t v ≡ none → j ≤ k
  no_longer none_left q h n = omega arith
  no_longer (one_more s e p) none_left h n = never (sym n ∙ ap (next_step t) (sym h) ∙ e)
  no_longer (one_more s e p) (one_more s' e' q) h n = omega (arith, no_longer p q (same_next e e' h) n)

  pub no_steps : {i : ℕ} {u v : List ℕ} → Steps t i u v → i ≡ 0 → u ≡ v
  no_steps none_left h = refl
  no_steps (one_more s e p) h = absurd (omega (arith, h))

  -- so there is one number of steps, and one plan, where no law fits
  pub ends-once : {j k : ℕ} {w u v : List ℕ} → Steps t j w u → next_step t u ≡ none → Steps t k w v → next_step t v ≡ none → (j ≡ k) × (u ≡ v)
  ends-once p e q f =
      let h = no_longer p q refl f in
      let i = no_longer q p refl e in
      let r = left_over p q refl h in (omega (arith, h, i), no_steps r.2 (omega (arith, r.1, i)))

  -- the plans of what is left of a run are plans of the run
  pub within-rest : {c j : ℕ} {w u : List ℕ} → Steps t j w u → Within t c w → Within t c u
  within-rest {j = j} p h k v q = h (j + k) v (joined p q)

  module _ (few : actions t ≤ 31) where
    -- in a basic plan no law fits
    pub basic-quiet : (v : List ℕ) → BasicWords (actions t) v → next_step t v ≡ none
    basic-quiet v b = subst (λ (x : List ℕ). next_step t x ≡ none) b.spelled (quiet t few b.term (b.basic, b.over))

    pub comes-once : {j k : ℕ} {w u v : List ℕ} → ComesTo t w j u → ComesTo t w k v → (j ≡ k) × (u ≡ v)
    comes-once {u = u} {v} p q = ends-once p.made (basic-quiet u p.basic) q.made (basic-quiet v q.basic)

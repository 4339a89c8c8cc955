-- The step that the unfolding takes is a step of one of laws 5 to 32, and there is none exactly when no such law fits anywhere.
use Prim.Native.Nat.{ℕ, ◌≤◌, ◌<◌}
use native.Mathlib.Omega.{arith}
use mathlib.Core.Path.{◌≡◌, refl, sym, ap}
use mathlib.Core.List.{List}
use mathlib.Core.Option.{Option, none, some}
use lib.ListN.{length}
use Rattle.tables.specs.Tables.{Tables}
use Rattle.laws.specs.Laws.{highest_law, first_choice, choices}
use Rattle.laws.specs.Step.{step}
use Rattle.plans.proofs.Options.{never}
use Rattle.rewritings.specs.Choice.{Found, found_at, lowest_law, next_step}
use Rattle.rewritings.proofs.Finding.{search_some, search_none, none_search}

-- a step of the plan w that the unfolding may take
pub record Taken (t : Tables) (w : List ℕ) (s : Found) : Type 0 where
  pub fits : step t s.law s.place w ≡ some s.plan
  pub low : first_choice ≤ s.law
  pub high : s.law ≤ highest_law
  pub inside : s.place < length w

found_some : (k p : ℕ) (o : Option (List ℕ)) (s : Found) → found_at k p o ≡ some s → (o ≡ some s.plan) × (s.law ≡ k) × (s.place ≡ p)
found_some k p none s e = never e
found_some k p (some w) s e = (cc, cc, cc)

found_none : (k p : ℕ) (o : Option (List ℕ)) → found_at k p o ≡ none → o ≡ none
found_none k p none e = refl
found_none k p (some w) e = never (sym e)

module _ (t : Tables) (w : List ℕ) where
  same_step : (k k' p p' : ℕ) {o : Option (List ℕ)} → k' ≡ k → p' ≡ p → step t k p w ≡ o → step t k' p' w ≡ o
  same_step k k' p p' e q h = rw (e, q) h

  pub next-taken : (s : Found) → next_step t w ≡ some s → Taken t w s
  unfolding next_step lowest_law
  next-taken s e =
      let a = search_some (lowest_law t w) (length w) 0 s e in
      let b = search_some (λ k. found_at k a.0 (step t k a.0 w)) choices first_choice s a.3 in
      let c = found_some b.0 a.0 (step t b.0 a.0 w) s b.3 in
      record {
        fits = same_step b.0 s.law a.0 s.place c.1 c.2 c.0;
        low = omega (arith, b.1, c.1);
        high = omega (arith, b.2, c.1);
        inside = omega (arith, a.2, c.2);
      }

  pub none_fits : next_step t w ≡ none → (p k : ℕ) → p < length w → first_choice ≤ k → k ≤ highest_law → step t k p w ≡ none
  unfolding next_step lowest_law
  none_fits e p k h l u =
      let a = search_none (lowest_law t w) (length w) 0 e p (omega arith) (omega arith) in
      found_none k p (step t k p w) (search_none (λ j. found_at j p (step t j p w)) choices first_choice a k l (omega arith))

  pub fits_none : ((p k : ℕ) → p < length w → first_choice ≤ k → k ≤ highest_law → step t k p w ≡ none) → next_step t w ≡ none
  unfolding next_step lowest_law
  fits_none f =
      none_search (lowest_law t w) (length w) 0
      (λ p h l. none_search (λ j. found_at j p (step t j p w)) choices first_choice (λ k i j. ap (found_at k p) (f p k (omega arith) i (omega arith))))

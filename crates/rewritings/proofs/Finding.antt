-- What a search finds: something at one of its numbers, or nothing at any.
use Prim.Native.Nat.{ℕ, suc, zero, ◌≤◌, ◌<◌, ◌+◌}
use native.Mathlib.Omega.{arith}
use mathlib.Core.Path.{◌≡◌, refl, sym, ◌∙◌, ap}
use mathlib.Core.Bool.{Bool, true, false}
use mathlib.Core.Option.{Option, none, some}
use lib.Dec.{eqb}
use borrow.Author.Tests.{eqb-true, eqb-false}
use Rattle.tables.specs.Search.{first_of, first_from}
use Rattle.plans.proofs.Options.{never}

module _ {A : Type 0} (f : ℕ → Option A) where
  pub search_some : (m k : ℕ) (x : A) → first_from f k m ≡ some x → (j : ℕ) × (k ≤ j) × (j < k + m) × (f j ≡ some x)
  unfolding first_from
  search_some zero k x e = never e
  search_some (suc m) k x e = go (f k) refl (search_some m (suc k) x) e
    where
      go : (o : Option A) → f k ≡ o → (first_from f (suc k) m ≡ some x → (j : ℕ) × (suc k ≤ j) × (j < suc k + m) × (f j ≡ some x))
          → first_of o (first_from f (suc k) m) ≡ some x → (j : ℕ) × (k ≤ j) × (j < k + suc m) × (f j ≡ some x)
      go none q g e = let r = g e in (r.0, omega (arith, r.1), omega (arith, r.2), r.3)
      go (some y) q g e = (k, omega arith, omega arith, q ∙ e)

  pub search_none : (m k : ℕ) → first_from f k m ≡ none → (j : ℕ) → k ≤ j → j < k + m → f j ≡ none
  unfolding first_from
  search_none zero k e j h l = absurd (omega arith)
  search_none (suc m) k e j h l = go (f k) refl e (eqb j k) refl (λ e i u. search_none m (suc k) e j i u)
    where
      go : (o : Option A) → f k ≡ o → first_of o (first_from f (suc k) m) ≡ none → (b : Bool) → eqb j k ≡ b
          → (first_from f (suc k) m ≡ none → suc k ≤ j → j < suc k + m → f j ≡ none) → f j ≡ none
      go none q e true i g = let z : j ≡ k = eqb-true j k i in rw z q
      go none q e false i g = let z = eqb-false j k i in g e (omega arith) (omega arith)
      go (some y) q e b i g = never (sym e)

  pub none_search : (m k : ℕ) → ((j : ℕ) → k ≤ j → j < k + m → f j ≡ none) → first_from f k m ≡ none
  unfolding first_from
  none_search zero k g = refl
  none_search (suc m) k g = rw (g k (omega arith) (omega arith)) (none_search m (suc k) (λ j h l. g j (omega arith) (omega arith)))

  -- what is found at the first number at which anything is
  pub search_first : (m k i : ℕ) (x : A) → k ≤ i → i < k + m → ((j : ℕ) → k ≤ j → j < i → f j ≡ none) → f i ≡ some x → first_from f k m ≡ some x
  unfolding first_from
  search_first zero k i x h l g e = absurd (omega arith)
  search_first (suc m) k i x h l g e = go (eqb i k) refl (λ u. search_first m (suc k) i x u (omega arith) (λ j a b. g j (omega arith) b) e)
    where
      go : (b : Bool) → eqb i k ≡ b → (suc k ≤ i → first_from f (suc k) m ≡ some x) → first_of (f k) (first_from f (suc k) m) ≡ some x
      go true q r = let z : i ≡ k = eqb-true i k q in rw (ap f (sym z) ∙ e)
      go false q r = let z = eqb-false i k q in rw (g k (omega arith) (omega arith)) (r (omega arith))

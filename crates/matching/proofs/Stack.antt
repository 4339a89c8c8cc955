-- The terms that wait at a place of words that can be read, and the subplan at their last word.
use Prim.Native.Nat.{ℕ, ◌-◌, ◌≤◌}
use mathlib.Core.Path.{◌≡◌, sym, ◌∙◌, ap}
use mathlib.Core.List.{List, [], ◌∷◌}
use mathlib.Core.Option.{some}
use native.Mathlib.Omega.{arith}
use lib.ListN.{length, take, drop, take-append-drop}
use Rattle.plans.specs.Term.{Term, read}
use Rattle.plans.specs.Place.{subterm}
use Rattle.plans.proofs.Options.{and_then_some}
use Rattle.plans.proofs.Reading.{read-append}
use Rattle.plans.proofs.Standing.{height, height_none, Stands, stands-subterm, read-stands}
use Rattle.matching.specs.Start.{Readable, Ready}

module _ (n : ℕ) (few : n ≤ 31) (plan : List ℕ) where
  -- terms wait at each place of words that can be read
  pub waiting_at : Readable n plan → (i : ℕ) → (s : List Term) × (read n (take i plan) [] ≡ some s)
  waiting_at r i =
      let d = and_then_some (read n (take i plan) []) (λ s. read n (drop i plan) s) (sym (read-append n (take i plan) (drop i plan) []) ∙ (ap (λ l. read n l []) (take-append-drop i plan) ∙ r.reads)) in
      (d.0, d.1)

-- the subplan at the last word
pub record Last (n : ℕ) (plan : List ℕ) : Type 0 where
  pub term : Term
  pub below : List Term
  pub stands : Stands n plan (term ∷ below)
  pub whole : height (term ∷ below) ≡ length plan
  pub is_sub : subterm n plan (length plan - 1) ≡ some term

pub last_of : (n : ℕ) (plan starts : List ℕ) → Ready n plan starts → Last n plan
last_of n plan starts r =
    let a = waiting_at n r.few plan r.readable (length plan) in
    let b = read-stands n r.few plan (length plan) a.0 (omega arith) a.1 in
    go a.0 b.0 b.1
  where
    go : (s : List Term) → Stands n plan s → height s ≡ length plan → Last n plan
    go [] d q = absurd (omega (arith, height_none))
    go (u ∷ s) d q =
        record { term = u; below = s; stands = d; whole = q; is_sub = stands-subterm n r.few plan u s (length plan - 1) d (omega arith) }

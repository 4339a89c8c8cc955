-- The subplan at a place, and where it starts, go by the words up to the place alone.
use Prim.Native.Nat.{ℕ, suc, ◌<◌, ◌≤◌}
use native.Mathlib.Omega.{arith}
use mathlib.Core.Path.{◌≡◌, refl, sym, ◌∙◌, ap}
use mathlib.Core.List.{List, ◌++◌}
use mathlib.Core.Option.{Option, none, some}
use lib.ListN.{length, take, drop, length-append, take-append-drop}
use lib.Seq.{take-append-le, length-take-le}
use borrow.Author.Tests.{lt-ltb}
use Rattle.plans.specs.Term.{Term}
use Rattle.plans.specs.Place.{subterm}
use Rattle.plans.specs.Start.{begins, start_of}
use Rattle.plans.proofs.Accepted.{words_some}

module _ (n : ℕ) (v w : List ℕ) (p : ℕ) (inside : p < length v) where
  pub subterm-prefix : subterm n (v ++ w) p ≡ subterm n v p
  unfolding subterm
  subterm-prefix =
      rw (lt-ltb p (length v) inside, lt-ltb p (length (v ++ w)) (omega (arith, length-append v w)), take-append-le (suc p) v w inside) refl

  pub start-prefix : start_of n (v ++ w) p ≡ start_of n v p
  unfolding start_of
  start-prefix = ap (λ o. begins o p) subterm-prefix

pub start-take : (n : ℕ) (ws : List ℕ) (i p : ℕ) → i ≤ length ws → p < i → start_of n (take i ws) p ≡ start_of n ws p
start-take n ws i p within h =
    sym (start-prefix n (take i ws) (drop i ws) p (omega (arith, length-take-le i ws within)))
    ∙ ap (λ l. start_of n l p) (take-append-drop i ws)

-- a subplan starts no later than at its last word
pub start-below : (n : ℕ) (ws : List ℕ) (p : ℕ) → start_of n ws p ≤ p
unfolding start_of
start-below n ws p = go (subterm n ws p)
  where
    go : (o : Option Term) → begins o p ≤ p
    go none = omega arith
    go (some u) = omega (arith, words_some u)

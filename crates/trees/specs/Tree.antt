-- Trees, and when two are alike. (The customer's words TREE and ALIKE; in the field, synchronisation trees and bisimilarity.)
use Rattle.std.specs.Prelude.{ℕ}

-- "branches, each with an action, each leading to a finish or to a further tree; a dead stop has no branches": a tree is a list of
-- branches, and what a branch leaves is a finish or a further tree
mutual
  pub data Tree : Type 0 where
    stop : Tree
    branch : ℕ → Rest → Tree → Tree

  pub data Rest : Type 0 where
    finish : Rest
    further : Tree → Rest

-- a tree has a branch with action a that leaves n
pub data Has (a : ℕ) (n : Rest) : Tree → Type 0 where
  here : {t : Tree} → Has a n (branch a n t)
  past : {b : ℕ} {m : Rest} {t : Tree} → Has a n t → Has a n (branch b m t)

-- "Two trees are ALIKE when each branch of either is matched in the other by one with the same action, both finishing or both leading to
-- alike trees." An inductive relation, so alike goes to every depth.
mutual
  pub data Alike : Tree → Tree → Type 0 where
    alike : {s t : Tree}
        → ((a : ℕ) (n : Rest) → Has a n s → Matched a n t)
        → ((a : ℕ) (n : Rest) → Has a n t → Matched a n s)
        → Alike s t

  pub data Matched : ℕ → Rest → Tree → Type 0 where
    matched : {a : ℕ} {n m : Rest} {t : Tree} → Has a m t → AlikeRest n m → Matched a n t

  pub data AlikeRest : Rest → Rest → Type 0 where
    both_finish : AlikeRest finish finish
    both_lead : {n m : Tree} → Alike n m → AlikeRest (further n) (further m)

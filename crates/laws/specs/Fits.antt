-- What it is for a law to fit a plan, as people read it. (Demand 2; request 108.) `rewrite`, `step` and `step_back` compute just this: proofs Fits
-- `rewrite_iff`, `step_iff`, Backward `back_iff`.
use Rattle.std.specs.Prelude.{ℕ, ◌≤◌, ◌≡◌, true, List}
use Rattle.std.proofs.Math.Option.{some}
use Rattle.tables.specs.Tables.{Tables, actions}
use Rattle.plans.specs.Term.{Term, act, term_of}
use Rattle.plans.specs.Place.{subterm, replace}
use Rattle.laws.specs.Laws.{Law, Binding, unbound, bind, holds, build, law_at, highest_law}

-- what is put in for the letters of a law: plans for x, y and z; for a and b "any actions, 0 included"; and the set of ∂
pub record Letters : Type 0 where
  pub x : Term
  pub y : Term
  pub z : Term
  pub a : ℕ
  pub b : ℕ
  pub set : ℕ

-- the same by the letters' numbers
unfoldable pub numbered : Letters → Binding
numbered l = bind (bind (bind (bind (bind (bind unbound 0 l.x) 1 l.y) 2 l.z) 3 (act l.a)) 4 (act l.b)) 5 (act l.set)

-- "that law's left side, as published, fits there": some letters make its left side the plan u, and its condition holds of them; and v is
-- "the right side put in", with the same letters
pub record Fits (t : Tables) (l : Law) (u v : Term) : Type 0 where
  pub letters : Letters
  pub left : build t (numbered letters) l.lhs ≡ u
  pub condition : holds t l.when (numbered letters) ≡ true
  pub right : build t (numbered letters) l.rhs ≡ v

-- law k fits at place p of a plan's words, and vs are the words "with the right side put in"
pub record FitsAt (t : Tables) (k p : ℕ) (ws vs : List ℕ) : Type 0 where
  pub first : 1 ≤ k
  pub last : k ≤ highest_law
  pub subplan : Term
  pub side : Term
  pub there : subterm (actions t) ws p ≡ some subplan
  pub fits : Fits t (law_at k) subplan side
  pub put_in : replace ws p subplan side ≡ vs

-- law k fits backwards at place p of a plan's words with a left side: its words are a plan, the law makes of that "exactly the subplan at the place",
-- and in vs "the whole left side then replaces it"
pub record FitsBackAt (t : Tables) (k p : ℕ) (left ws vs : List ℕ) : Type 0 where
  pub first : 1 ≤ k
  pub last : k ≤ highest_law
  pub carried : Term
  pub subplan : Term
  pub reads : term_of (actions t) left ≡ some carried
  pub there : subterm (actions t) ws p ≡ some subplan
  pub fits : Fits t (law_at k) carried subplan
  pub put_in : replace ws p subplan carried ≡ vs

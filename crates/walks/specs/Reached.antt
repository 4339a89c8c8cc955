-- What a message leads to from a set of marks. (Request 102: "any set of marks is a progress".)
use Rattle.std.specs.Prelude.{ℕ, ◌≡◌, List}
use Rattle.std.proofs.Math.Option.{some}
use Rattle.tables.specs.Tables.{Tables}
use Rattle.plans.specs.Term.{Term}
use Rattle.plans.specs.Place.{subterm}
use Rattle.trees.specs.Tree.{Rest, Has}
use Rattle.trees.specs.Meaning.{tree}
use Rattle.paths.specs.Subplans.{place_of, Target, subplan, Transitions}
use Rattle.walks.specs.Progress.{Marked}

module _ (n : ℕ) (plan marks : List ℕ) where
  -- from some marked subplan, which starts at a word, the messages lead to the target
  pub record FromMark (ms : List ℕ) (g : Target) : Type 0 where
    pub start : ℕ
    pub part : Term
    pub stands : subterm n plan (place_of start part) ≡ some part
    pub mark : Marked marks (place_of start part)
    pub way : Transitions (subplan start part) ms g

  -- and the place of the subplan that they lead to is k
  abbrev pub FromMarkTo : List ℕ → ℕ → Type 0
  FromMarkTo ms k = (r : ℕ) × (w : Term) × (place_of r w ≡ k) × FromMark ms (subplan r w)

  -- the tree of some marked subplan has a branch with the message that leaves r
  pub record MarkedBranch (t : Tables) (m : ℕ) (r : Rest) : Type 0 where
    pub place : ℕ
    pub part : Term
    pub stands : subterm n plan place ≡ some part
    pub mark : Marked marks place
    pub has : Has m r (tree t part)

-- The actions before a word on its path. (Request 105: "each appearance of the second has the first somewhere before it".)
use Rattle.std.specs.Prelude.{ℕ, ◌+◌, cond, List, [], ◌++◌, ltb, length}
use Rattle.plans.specs.declared.Binary.{Binary}
use Rattle.plans.specs.declared.Binary.TheVariants.{Choice, Sequence, Merge, LeftMerge, CommunicationMerge, Unless}
use Rattle.plans.specs.Term.{Term, act, un, bin, words}

-- What stands on every path into an operator's second operand: of a product its first factor, which in a basic plan is one action; of a sum nothing. (A
-- basic plan has no other operator.)
abbrev pub before_second : Binary → Term → List ℕ
before_second Choice x = []
before_second Sequence x = words x
before_second Merge x = []
before_second LeftMerge x = []
before_second CommunicationMerge x = []
before_second Unless x = []

-- The actions from the root of a basic plan to the word at place p, those before it: of the part u of the plan that starts at word s. The words of an
-- operator are those of its first operand, then those of its second, then its own.
unfoldable pub actions_before : ℕ → Term → ℕ → List ℕ
actions_before s (act a) p = []
actions_before s (un o x) p = []
actions_before s (bin o x y) p =
    cond (ltb p (s + length (words x))) (actions_before s x p)
    (cond (ltb p (s + length (words x) + length (words y))) (before_second o x ++ actions_before (s + length (words x)) y p) [])

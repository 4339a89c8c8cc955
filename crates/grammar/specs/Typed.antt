-- A text for each plan, as a program would print it: brackets only where the grammar asks for them. (Request 101.)
use Rattle.std.specs.Prelude.{ℕ, ◌+◌, ◌/◌, ◌%◌, cond, List, [], ◌∷◌, ◌++◌, ltb}
use Rattle.plans.specs.declared.Binary.TheVariants.{Choice, Sequence, Merge, LeftMerge, CommunicationMerge, Unless}
use Rattle.plans.specs.declared.Unary.TheVariants.{Priority, Encapsulation}
use Rattle.plans.specs.Term.{Term, act, un, bin}
use Rattle.grammar.specs.Character.{plus, dot, opening, closing, tee, aitch, nought, hash, square, bar, less, blank}

-- an action below 100 in decimal
abbrev pub number : ℕ → List ℕ
number a = cond (ltb a 10) ((nought + a) ∷ []) ((nought + a / 10) ∷ (nought + a % 10) ∷ [])

abbrev pub bracketed : List ℕ → List ℕ
bracketed s = opening ∷ (s ++ (closing ∷ []))

-- the text s of a term where a product must stand, and where a unit must
abbrev pub as_product : Term → List ℕ → List ℕ
as_product (act a) s = s
as_product (un o x) s = s
as_product (bin Choice x y) s = bracketed s
as_product (bin Sequence x y) s = s
as_product (bin Merge x y) s = s
as_product (bin LeftMerge x y) s = s
as_product (bin CommunicationMerge x y) s = s
as_product (bin Unless x y) s = s

abbrev pub as_unit : Term → List ℕ → List ℕ
as_unit (act a) s = s
as_unit (un o x) s = s
as_unit (bin Choice x y) s = bracketed s
as_unit (bin Sequence x y) s = bracketed s
as_unit (bin Merge x y) s = s
as_unit (bin LeftMerge x y) s = s
as_unit (bin CommunicationMerge x y) s = s
as_unit (bin Unless x y) s = s

-- two sums and the sign c between them
abbrev pub paired : ℕ → List ℕ → List ℕ → List ℕ
paired c s t = opening ∷ (s ++ (blank ∷ c ∷ blank ∷ (t ++ (closing ∷ []))))

unfoldable pub typed : Term → List ℕ
typed (act a) = number a
typed (un Priority x) = tee ∷ bracketed (typed x)
typed (un (Encapsulation h) x) = aitch ∷ (nought + h) ∷ bracketed (typed x)
typed (bin Choice x y) = typed x ++ (plus ∷ as_product y (typed y))
typed (bin Sequence x y) = as_product x (typed x) ++ (dot ∷ as_unit y (typed y))
typed (bin Merge x y) = paired hash (typed x) (typed y)
typed (bin LeftMerge x y) = paired square (typed x) (typed y)
typed (bin CommunicationMerge x y) = paired bar (typed x) (typed y)
typed (bin Unless x y) = paired less (typed x) (typed y)

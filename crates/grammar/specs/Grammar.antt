-- Which texts are plans, and which plan each one is. (Request 101: "a sum is products, a product is units, and a unit may hold a sum".)
use Rattle.std.specs.Prelude.{ℕ, suc, ◌+◌, ◌-◌, ◌*◌, ◌≤◌, ◌≡◌, cond, List, [], ◌∷◌, ◌++◌, take, eqb}
use Rattle.plans.specs.declared.Binary.{Binary}
use Rattle.plans.specs.declared.Binary.TheVariants.{Choice, Sequence, Merge, LeftMerge, CommunicationMerge, Unless}
use Rattle.plans.specs.declared.Unary.TheVariants.{Priority, Encapsulation}
use Rattle.plans.specs.Term.{Term, act, un, bin, words, Over}
use Rattle.grammar.specs.Character.{plus, dot, opening, closing, tee, aitch, nought, hash, square, bar, less, blank}

-- "an action in decimal without leading zeros": digits go on from a number that is not 0
pub data Decimal : List ℕ → ℕ → Type 0 where
  digit : {d : ℕ} → d ≤ 9 → Decimal ((nought + d) ∷ []) d
  more : {s : List ℕ} {a d : ℕ} → Decimal s a → 1 ≤ a → d ≤ 9 → Decimal (s ++ ((nought + d) ∷ [])) (10 * a + d)

-- "o one of `#` merge, `[` left merge, `|`, `<` unless"
pub data Between : ℕ → Binary → Type 0 where
  merge : Between hash Merge
  left_merge : Between square LeftMerge
  communication : Between bar CommunicationMerge
  unless : Between less Unless

mutual
  -- "Products join by `+` … grouping to the left"
  pub data SumOf : List ℕ → Term → Type 0 where
    one_product : {s : List ℕ} {u : Term} → ProductOf s u → SumOf s u
    sum : {s t : List ℕ} {u v : Term} → SumOf s u → ProductOf t v → SumOf (s ++ (plus ∷ t)) (bin Choice u v)

  -- "units by `.`, both grouping to the left"
  pub data ProductOf : List ℕ → Term → Type 0 where
    one_unit : {s : List ℕ} {u : Term} → UnitOf s u → ProductOf s u
    product : {s t : List ℕ} {u v : Term} → ProductOf s u → UnitOf t v → ProductOf (s ++ (dot ∷ t)) (bin Sequence u v)

  -- "A unit is an action in decimal without leading zeros, `(s)`, `T(s)`, `H0(s)` to `H7(s)`, or `(s o s)`"
  pub data UnitOf : List ℕ → Term → Type 0 where
    action : {s : List ℕ} {a : ℕ} → Decimal s a → UnitOf s (act a)
    bracket : {s : List ℕ} {u : Term} → SumOf s u → UnitOf (opening ∷ (s ++ (closing ∷ []))) u
    priority : {s : List ℕ} {u : Term} → SumOf s u → UnitOf (tee ∷ opening ∷ (s ++ (closing ∷ []))) (un Priority u)
    encapsulation : {h : ℕ} {s : List ℕ} {u : Term} → h ≤ 7 → SumOf s u
        → UnitOf (aitch ∷ (nought + h) ∷ opening ∷ (s ++ (closing ∷ []))) (un (Encapsulation h) u)
    pair : {c : ℕ} {o : Binary} {s t : List ℕ} {u v : Term} → SumOf s u → Between c o → SumOf t v
        → UnitOf (opening ∷ (s ++ (blank ∷ c ∷ blank ∷ (t ++ (closing ∷ []))))) (bin o u v)

-- "it belongs to this grammar": the text makes some plan
abbrev pub Belongs : List ℕ → Type 0
Belongs s = (u : Term) × SumOf s u

-- it begins some text of the grammar: there is a continuation
abbrev pub Begins : List ℕ → Type 0
Begins s = (t : List ℕ) × Belongs (s ++ t)

-- how many brackets are open behind a character, where d are before it, and behind a text
abbrev pub moved : ℕ → ℕ → ℕ
moved d c = cond (eqb c opening) (suc d) (cond (eqb c closing) (d - 1) d)

unfoldable pub level : ℕ → List ℕ → ℕ
level d [] = d
level d (c ∷ cs) = level (moved d c) cs

-- nowhere in the text are more than m brackets open
abbrev pub Within : ℕ → List ℕ → Type 0
Within m s = (p : ℕ) → level 0 (take p s) ≤ m

-- "an opening bracket that goes deeper than 200"
abbrev pub deepest : ℕ
deepest = 200

-- "it belongs to this grammar within the limits that follow": the text makes a plan of the words w, its actions at most n and
-- no bracket deeper than 200; how long the plan may be is not said here
pub record ReadAs (n : ℕ) (text w : List ℕ) : Type 0 where
  pub term : Term
  pub made : SumOf text term
  pub spelled : words term ≡ w
  pub over : Over n term
  pub within : Within deepest text

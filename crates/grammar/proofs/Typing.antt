-- Every plan can be typed: its typed text belongs to the grammar, for it.
use Prim.Native.Nat.{ℕ, ◌+◌, ◌*◌, ◌/◌, ◌%◌, ◌≤◌, ◌<◌}
use native.Mathlib.Omega.{arith}
use native.Mathlib.Nat.{mod-lt, div-add-mod', div-lt_iff_lt-mul, le-div_iff_mul-le}
use mathlib.Core.Path.{◌≡◌, refl, subst}
use mathlib.Core.Bool.{Bool, true, false, cond}
use mathlib.Core.List.{[], ◌∷◌}
use lib.Dec.{ltb}
use borrow.Author.Tests.{ltb-true, ltb-false}
use Rattle.plans.specs.declared.Binary.TheVariants.{Choice, Sequence, Merge, LeftMerge, CommunicationMerge, Unless}
use Rattle.plans.specs.declared.Unary.TheVariants.{Priority, Encapsulation}
use Rattle.plans.specs.Term.{Term, act, un, bin, words, Over}
use Rattle.grammar.specs.Character.{nought}
use Rattle.grammar.specs.Grammar.{Decimal, digit, more, merge, left_merge, communication, unless, SumOf, one_product, sum, ProductOf, one_unit, product, UnitOf, action, bracket, priority, encapsulation, pair, Within}
use Rattle.grammar.specs.Typed.{number, as_product, as_unit, typed}
use Rattle.grammar.specs.Reading.{Plan, read_text}
use Rattle.grammar.proofs.Exact.{read_exactly}

number-decimal : (a : ℕ) → a ≤ 99 → Decimal (number a) a
number-decimal a h = short (ltb a 10) refl
  where
    short : (b : Bool) → ltb a 10 ≡ b → Decimal (cond b ((nought + a) ∷ []) ((nought + a / 10) ∷ (nought + a % 10) ∷ [])) a
    short true e = let l = ltb-true a 10 e in digit {d = a} (omega arith)
    short false e =
        let l = ltb-false a 10 e in
        let i : a / 10 < 10 = (div-lt_iff_lt-mul {k = 10} {x = a} {y = 10} (omega arith)).1 (omega arith) in
        let j : 1 ≤ a / 10 = (le-div_iff_mul-le {k = 10} {x = 1} {y = a} (omega arith)).1 (omega arith) in
        let k : a % 10 < 10 = mod-lt a (omega arith) in
        let m : 10 * (a / 10) + a % 10 ≡ a = omega (arith, div-add-mod' a 10) in
        subst (λ z. Decimal ((nought + a / 10) ∷ (nought + a % 10) ∷ []) z) m (more {d = a % 10} (digit {d = a / 10} (omega arith)) j (omega arith))

-- as a sum, as a product and as a unit
record Typed (u : Term) : Type 0 where
  is_sum : SumOf (typed u) u
  is_product : ProductOf (as_product u (typed u)) u
  is_unit : UnitOf (as_unit u (typed u)) u

module _ (n : ℕ) (few : n ≤ 99) where
  make : (u : Term) → Over n u → Typed u
  unfolding typed
  make (act a) h =
      let x = action (number-decimal a (omega arith)) in
      record { is_sum = one_product (one_unit x); is_product = one_unit x; is_unit = x }
  make (un Priority u) h =
      let x = priority (make u h.1).is_sum in
      record { is_sum = one_product (one_unit x); is_product = one_unit x; is_unit = x }
  make (un (Encapsulation j) u) h =
      let x = encapsulation h.0 (make u h.1).is_sum in
      record { is_sum = one_product (one_unit x); is_product = one_unit x; is_unit = x }
  make (bin Choice u v) h =
      let x = sum (make u h.0).is_sum (make v h.1).is_product in
      record { is_sum = x; is_product = one_unit (bracket x); is_unit = bracket x }
  make (bin Sequence u v) h =
      let x = product (make u h.0).is_product (make v h.1).is_unit in
      record { is_sum = one_product x; is_product = x; is_unit = bracket (one_product x) }
  make (bin Merge u v) h =
      let x = pair (make u h.0).is_sum merge (make v h.1).is_sum in
      record { is_sum = one_product (one_unit x); is_product = one_unit x; is_unit = x }
  make (bin LeftMerge u v) h =
      let x = pair (make u h.0).is_sum left_merge (make v h.1).is_sum in
      record { is_sum = one_product (one_unit x); is_product = one_unit x; is_unit = x }
  make (bin CommunicationMerge u v) h =
      let x = pair (make u h.0).is_sum communication (make v h.1).is_sum in
      record { is_sum = one_product (one_unit x); is_product = one_unit x; is_unit = x }
  make (bin Unless u v) h =
      let x = pair (make u h.0).is_sum unless (make v h.1).is_sum in
      record { is_sum = one_product (one_unit x); is_product = one_unit x; is_unit = x }

  pub typed_belongs : (u : Term) → Over n u → SumOf (typed u) u
  typed_belongs u h = (make u h).is_sum

  -- and is read as it, where 200 levels are enough
  pub typed_read : (u : Term) → Over n u → Within 200 (typed u) → read_text n (typed u) ≡ Plan (words u)
  typed_read u h w = (read_exactly n (typed u) (words u)).1 (record { term = u; made = typed_belongs u h; spelled = refl; over = h; within = w })

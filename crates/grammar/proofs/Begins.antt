-- Every state can be brought to an end, so what has been read so far begins a text of the grammar; what has no state begins none.
use Prim.Native.Nat.{ℕ}
use mathlib.Core.Path.{◌≡◌, refl}
use mathlib.Core.Bool.{Bool, false}
use mathlib.Core.List.{List, [], ◌∷◌}
use mathlib.Core.Option.{some}
use Rattle.plans.specs.declared.Binary.TheVariants.{Merge}
use Rattle.plans.specs.declared.Word.{Word}
use Rattle.grammar.specs.Character.{opening, closing, nought, hash, blank}
use Rattle.grammar.specs.Grammar.{Begins}
use Rattle.grammar.specs.declared.Bracket.TheVariants.{OfPriority, OfSet, Second}
use Rattle.grammar.specs.States.{Frame, frame, State, unit, digits, done, after_tee, after_aitch, after_set, after_first, after_sign, joined, followed, closed, step, finish}
use Rattle.grammar.proofs.Complete.{accept}
use Rattle.grammar.proofs.Sound.{Told, Passed, AllPassed, accept_told}

-- any action
abbrev pub Any : ℕ → Type 0
Any a = Unit

closes : List Frame → List ℕ
closes [] = []
closes (f ∷ k) = closing ∷ closes k

module _ {S : Type 0} (write : Word → S) where
  pub any-passed : (s : State S) → Passed write Any s
  any-passed (unit p d k w) = tt
  any-passed (digits a m p d k w) = tt
  any-passed (done p k w) = tt
  any-passed (after_tee p d k w) = tt
  any-passed (after_aitch p d k w) = tt
  any-passed (after_set h p d k w) = tt
  any-passed (after_first p d k w) = tt
  any-passed (after_sign o p d k w) = tt

  pub all_any : (s : State S) (r : List ℕ) → AllPassed write Any s r
  unfolding AllPassed
  all_any s [] = tt
  all_any s (c ∷ r) = λ s' e. (any-passed s', all_any s' r)

  abbrev Completed : State S → List ℕ → Type 0
  Completed s r = (w : List S) × (accept write s r ≡ some w)

  done-ends : (k : List Frame) (p : Bool) (w : List S) → Completed (done p k w) (closes k)
  unfolding closes accept step finish
  done-ends [] p w = (_, refl)
  done-ends (frame b q d ∷ k) p w = done-ends k q (followed write d (closed write b (joined write p w)))

  unit_ends : (k : List Frame) (p d : Bool) (w : List S) → Completed (unit p d k w) (nought ∷ closes k)
  unfolding closes accept step finish
  unit_ends [] p d w = (_, refl)
  unit_ends (frame b q e ∷ k) p d w = done-ends k q _

  completed : (s : State S) → (r : List ℕ) × Completed s r
  unfolding closes accept step finish
  completed (unit p d k w) = (nought ∷ closes k, unit_ends k p d w)
  completed (digits a m p d [] w) = ([], (_, refl))
  completed (digits a m p d (frame b q e ∷ k) w) = (closing ∷ closes k, done-ends k q _)
  completed (done p k w) = (closes k, done-ends k p w)
  completed (after_tee p d k w) = (opening ∷ nought ∷ closing ∷ closes k, unit_ends (frame OfPriority p d ∷ k) false false w)
  completed (after_aitch p d k w) = (nought ∷ opening ∷ nought ∷ closing ∷ closes k, unit_ends (frame (OfSet 0) p d ∷ k) false false w)
  completed (after_set h p d k w) = (opening ∷ nought ∷ closing ∷ closes k, unit_ends (frame (OfSet h) p d ∷ k) false false w)
  completed (after_first p d k w) = (hash ∷ blank ∷ nought ∷ closing ∷ closes k, unit_ends (frame (Second Merge) p d ∷ k) false false w)
  completed (after_sign o p d k w) = (blank ∷ nought ∷ closing ∷ closes k, unit_ends (frame (Second o) p d ∷ k) false false w)

  pub told_begins : (t : List ℕ) (s : State S) → Told write Any t s → Begins t
  told_begins t s x =
      let i = completed s in
      let j = accept_told write Any t i.0 s i.1.0 x (all_any s i.0) i.1.1 in
      (i.0, (j.plan, j.made))

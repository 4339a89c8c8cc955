-- How a unit begins, in the words of the code: the rules at the places of a text.
use Rattle.std.specs.Prelude.{Ok, Err}
use Rattle.refusals.specs.declared.Reason.TheVariants.{TooDeep}
use Prim.Native.Nat.{ℕ, suc, ◌+◌, ◌*◌, ◌≤◌, ◌<◌}
use native.Mathlib.Omega.{arith}
use native.Mathlib.Numerals.{add-one}
use mathlib.Core.Path.{◌≡◌, refl, sym, subst}
use mathlib.Core.Bool.{Bool, true, false, cond}
use mathlib.Core.List.{List, [], ◌∷◌}
use mathlib.Core.Option.{none, some}
use lib.ListN.{length, drop}
use lib.Dec.{ltb}
use borrow.Author.Tests.{ltb-true, ltb-false}
use Rattle.grammar.specs.declared.Bracket.{Bracket}
use Rattle.grammar.specs.declared.Bracket.TheVariants.{Plain, OfPriority, OfSet}
use Rattle.grammar.specs.Character.{opening, tee, aitch}
use Rattle.texts.specs.Readers.{UnitStops, Enters, next_is, next_numeral, SetSmall, opened, no_text, Acts, BegunRight}
use Rattle.texts.specs.declared.units.Begun.TheVariants.{Opened}
use Rattle.texts.proofs.Rules.{DigitsRead, number-begins, number-goes-on, number-above, number_grows_above, number-nought, number-ends, unit_sticks, unit_missing, bracket-enters, priority-enters, set-enters, bracket-deep, priority-deep, set-deep, tee-alone, aitch-alone, set-alone}
use Rattle.texts.proofs.Next.{is_there, numeral_is_there, numeral_small}

module _ (n d : ℕ) (text : List ℕ) (q : ℕ) where
  -- the digits from place q up to place h have the value a
  pub record Digits (h a : ℕ) : Type 0 where
    pub are_read : DigitsRead n d q (drop q text) h (drop h text) a
    pub on : q < h
    pub inside : h ≤ length text
    pub small : a ≤ n

  pub action-begins : (a : ℕ) → d ≤ 200 → next_numeral 9 (drop q text) ≡ some a → a ≤ n → Digits (q + 1) a
  action-begins a h e l =
      let i = numeral_is_there text q 9 a e in
      record {
        are_read = rw (i.1.left, add-one q) (number-begins n d q i.0 a (drop (suc q) text) h i.2 l);
        on = omega arith;
        inside = omega (arith, i.1.inside);
        small = l;
      }

  pub action-goes-on : (h a b : ℕ) → d ≤ 200 → Digits h a → next_numeral 9 (drop h text) ≡ some b → (a ≡ 0 → ⊥) → 10 * a + b ≤ n → Digits (h + 1) (10 * a + b)
  action-goes-on h a b l x e f g =
      let i = numeral_is_there text h 9 b e in
      let y = subst (λ r. DigitsRead n d q (drop q text) h r a) i.1.left x.are_read in
      record {
        are_read = rw (add-one h) (number-goes-on n d q h i.0 a b (drop q text) (drop (suc h) text) l x.on y i.2 (omega (arith, f)) g);
        on = omega (arith, x.on);
        inside = omega (arith, i.1.inside);
        small = g;
      }

  pub action-above : (a : ℕ) → next_numeral 9 (drop q text) ≡ some a → n < a → UnitStops n d q (drop q text) 61 q
  action-above a e g = let i = numeral_is_there text q 9 a e in rw i.1.left (number-above n d q i.0 a (drop (suc q) text) i.2 g)

  pub action_grows_above : (h a b : ℕ) → Digits h a → next_numeral 9 (drop h text) ≡ some b → (a ≡ 0 → ⊥) → n < 10 * a + b → UnitStops n d q (drop q text) 61 q
  action_grows_above h a b x e f g =
      let i = numeral_is_there text h 9 b e in
      let y = subst (λ r. DigitsRead n d q (drop q text) h r a) i.1.left x.are_read in
      number_grows_above n d q h i.0 a b (drop q text) (drop (suc h) text) x.on y i.2 (omega (arith, f)) g

  pub action-nought : (h a b : ℕ) → Digits h a → next_numeral 9 (drop h text) ≡ some b → a ≡ 0 → UnitStops n d q (drop q text) 61 h
  action-nought h a b x e f =
      let i = numeral_is_there text h 9 b e in
      let y = subst (λ r. DigitsRead n d q (drop q text) h r a) i.1.left x.are_read in
      let z = subst (λ a. DigitsRead n d q (drop q text) h (i.0 ∷ drop (suc h) text) a) f y in
      number-nought n d q h i.0 b (drop q text) (drop (suc h) text) z i.2

  pub action-ends : (h a : ℕ) → Digits h a → next_numeral 9 (drop h text) ≡ none → Acts n d text q a h
  action-ends h a x e = record { is_read = number-ends n d q h a (drop q text) (drop h text) x.are_read e; on = x.on; inside = x.inside }

  -- a bracket whose `(` is to stand at place f, once what stands before it is read
  bracketed : (b : Bracket) (f : ℕ) → d ≤ 200 → q ≤ f → SetSmall b
      → (drop f text ≡ opening ∷ drop (suc f) text → d < 200 → Enters n d q (drop q text) b (suc f) (drop (suc f) text) [])
      → (drop f text ≡ opening ∷ drop (suc f) text → d ≡ 200 → UnitStops n d q (drop q text) 62 f)
      → (next_is opening (drop f text) ≡ false → UnitStops n d q (drop q text) 61 f)
      → BegunRight n d text q (opened text f d b)
  bracketed b f l h i enters deep alone = tested (next_is opening (drop f text)) refl
    where
      open_at : next_is opening (drop f text) ≡ true → (t : Bool) → ltb d 200 ≡ t → BegunRight n d text q (cond t (Ok (Opened b (f + 1))) (Err (record { reason = TooDeep; place = f })))
      open_at e true g =
          let s = is_there text f opening e in
          rw (add-one f) (record { enters = enters s.left (ltb-true d 200 g); set_small = i; shallow = ltb-true d 200 g; on = omega arith; inside = s.inside })
      open_at e false g = deep (is_there text f opening e).left (omega (arith, ltb-false d 200 g))

      tested : (t : Bool) → next_is opening (drop f text) ≡ t
          → BegunRight n d text q (cond t (cond (ltb d 200) (Ok (Opened b (f + 1))) (Err (record { reason = TooDeep; place = f }))) (Err (no_text f)))
      tested true e = open_at e (ltb d 200) refl
      tested false e = alone e

  pub begins-plain : d ≤ 200 → next_numeral 9 (drop q text) ≡ none → next_is tee (drop q text) ≡ false → next_is aitch (drop q text) ≡ false
      → BegunRight n d text q (opened text q d Plain)
  begins-plain l e f g =
      bracketed Plain q l (omega arith) tt
      (λ s i. subst (λ r. Enters n d q r Plain (suc q) (drop (suc q) text) []) (sym s) (bracket-enters n d q (drop (suc q) text) i))
      (λ s i. subst (λ d. UnitStops n d q (drop q text) 62 q) (sym i) (subst (λ r. UnitStops n 200 q r 62 q) (sym s) (bracket-deep n q (drop (suc q) text))))
      (λ i. sticks (drop q text) e f g i)
    where
      sticks : (r : List ℕ) → next_numeral 9 r ≡ none → next_is tee r ≡ false → next_is aitch r ≡ false → next_is opening r ≡ false → UnitStops n d q r 61 q
      sticks [] e f g i = unit_missing n d q
      sticks (c ∷ r) e f g i = unit_sticks n d q c r e i f g

  pub begins-priority : d ≤ 200 → next_is tee (drop q text) ≡ true → BegunRight n d text q (opened text (q + 1) d OfPriority)
  begins-priority l e =
      let t = is_there text q tee e in
      rw (add-one q)
      (bracketed OfPriority (suc q) l (omega arith) tt
      (λ s i. rw (t.left, s) (priority-enters n d q (drop (suc (suc q)) text) i))
      (λ s i. subst (λ d. UnitStops n d q (drop q text) 62 (suc q)) (sym i) (rw (t.left, s) (priority-deep n q (drop (suc (suc q)) text))))
      (λ i. rw t.left (tee-alone n d q (drop (suc q) text) l i)))

  pub begins-set : (h : ℕ) → d ≤ 200 → next_is aitch (drop q text) ≡ true → next_numeral 7 (drop (q + 1) text) ≡ some h
      → BegunRight n d text q (opened text (q + 2) d (OfSet h))
  begins-set h l e f =
      let t = is_there text q aitch e in
      let i = numeral_is_there text (suc q) 7 h (rw (add-one q) at f) in
      let two : q + 2 ≡ suc (suc q) = omega arith in
      rw two
      (bracketed (OfSet h) (suc (suc q)) l (omega arith) (numeral_small text (q + 1) 7 h f)
      (λ s j. rw (t.left, i.1.left, s) (set-enters n d q i.0 h (drop (suc (suc (suc q))) text) j i.2))
      (λ s j. subst (λ d. UnitStops n d q (drop q text) 62 (suc (suc q))) (sym j) (rw (t.left, i.1.left, s) (set-deep n q i.0 h (drop (suc (suc (suc q))) text) i.2)))
      (λ j. rw (t.left, i.1.left) (set-alone n d q i.0 h (drop (suc (suc q)) text) l i.2 j)))

  pub begins_no_set : d ≤ 200 → next_is aitch (drop q text) ≡ true → next_numeral 7 (drop (q + 1) text) ≡ none → UnitStops n d q (drop q text) 61 (q + 1)
  begins_no_set l e f =
      let t = is_there text q aitch e in
      rw (t.left, add-one q) (aitch-alone n d q (drop (suc q) text) l (rw (add-one q) at f))

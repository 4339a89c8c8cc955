-- What stands behind the sum in a bracket, in the words of the code.
use Prim.Native.Nat.{ℕ, suc, ◌+◌}
use native.Mathlib.Omega.{arith}
use native.Mathlib.Numerals.{add-one}
use mathlib.Core.Path.{◌≡◌, refl, subst}
use mathlib.Core.Bool.{Bool, true, false}
use mathlib.Core.List.{List, [], ◌∷◌}
use mathlib.Core.Option.{none, some}
use lib.ListN.{drop}
use lib.Dec.{eqb}
use borrow.Author.Tests.{eqb-true}
use Rattle.plans.specs.declared.Binary.{Binary}
use Rattle.grammar.specs.declared.Bracket.{Bracket}
use Rattle.grammar.specs.declared.Bracket.TheVariants.{Plain, OfPriority, OfSet, Second}
use Rattle.grammar.specs.Character.{plus, dot, closing, blank}
use Rattle.texts.specs.Readers.{UnitStops, SumReads, Enters, next_is, next_between, plain?, Signs, WrongBehind}
use Rattle.texts.proofs.Rules.{bracket_open, blank-refused, sign_missing, blank_missing}
use Rattle.texts.proofs.Next.{is_there, between_is_there}

-- no `)`, and no blank where it may stand
pub not_closed : (n d q q' q'' : ℕ) (b : Bracket) (r₀ r r' w w' : List ℕ) → plain? b ≡ false → Enters n d q r₀ b q' r w → SumReads n (suc d) q' r q'' r' w'
    → next_is dot r' ≡ false → next_is plus r' ≡ false → next_is closing r' ≡ false → UnitStops n d q r₀ 61 q''
not_closed n d q q' q'' b r₀ r [] w w' p x y e f g = bracket_open n d q q' q'' b r₀ r [] w w' x y e f g refl
not_closed n d q q' q'' b r₀ r (c ∷ r') w w' p x y e f g = tested (eqb c blank) refl
  where
    tested : (t : Bool) → eqb c blank ≡ t → UnitStops n d q r₀ 61 q''
    tested true h = blank-refused n d q q' q'' b r₀ r r' w w' p x (subst (λ c. SumReads n (suc d) q' r q'' (c ∷ r') w') (eqb-true c blank h) y)
    tested false h = bracket_open n d q q' q'' b r₀ r (c ∷ r') w w' x y e f g h

plain-only : (b : Bracket) → plain? b ≡ true → b ≡ Plain
plain-only Plain e = refl
plain-only OfPriority e = let z : ◌≡◌ {A = ℕ} 0 1 = cc in absurd (omega arith)
plain-only (OfSet h) e = let z : ◌≡◌ {A = ℕ} 0 1 = cc in absurd (omega arith)
plain-only (Second o) e = let z : ◌≡◌ {A = ℕ} 0 1 = cc in absurd (omega arith)

module _ (text : List ℕ) (q : ℕ) (b : Bracket) where
  pub wrong_in_sign : plain? b ≡ false → next_is closing (drop q text) ≡ false → WrongBehind b q (drop q text) q
  wrong_in_sign p g n d q₀ q' r₀ r w l x y e f = not_closed n d q₀ q' q b r₀ r (drop q text) [] w p x (rw (add-one d) at y) e f g

  pub wrong_blank : next_is closing (drop q text) ≡ false → next_is blank (drop q text) ≡ false → WrongBehind b q (drop q text) q
  wrong_blank g h n d q₀ q' r₀ r w l x y e f = bracket_open n d q₀ q' q b r₀ r (drop q text) [] w x (rw (add-one d) at y) e f g h

  pub wrong_sign : plain? b ≡ true → next_is blank (drop q text) ≡ true → next_between (drop (q + 1) text) ≡ none → WrongBehind b q (drop q text) (q + 1)
  wrong_sign p h i n d q₀ q' r₀ r w l x y e f =
      let s = is_there text q blank h in
      let x' = subst (λ b. Enters n d q₀ r₀ b q' r []) (plain-only b p) x in
      let y' = subst (λ r'. SumReads n (suc d) q' r q r' w) s.left (rw (add-one d) at y) in
      rw (add-one q) (sign_missing n d q₀ q' q r₀ r (drop (suc q) text) w l x' y' (rw (add-one q) at i))

  pub wrong_second-blank : (o : Binary) → plain? b ≡ true → next_is blank (drop q text) ≡ true → next_between (drop (q + 1) text) ≡ some o
      → next_is blank (drop (q + 2) text) ≡ false → WrongBehind b q (drop q text) (q + 2)
  wrong_second-blank o p h i j n d q₀ q' r₀ r w l x y e f =
      let s = is_there text q blank h in
      let t = between_is_there text (suc q) o (rw (add-one q) at i) in
      let two : q + 2 ≡ suc (suc q) = omega arith in
      let x' = subst (λ b. Enters n d q₀ r₀ b q' r []) (plain-only b p) x in
      let y' = subst (λ r'. SumReads n (suc d) q' r q r' w) s.left (rw (add-one d) at y) in
      let y'' = subst (λ r'. SumReads n (suc d) q' r q (blank ∷ r') w) t.1.left y' in
      rw two (blank_missing n d q₀ q' q t.0 o r₀ r (drop (suc (suc q)) text) w l x' y'' t.2 (rw two at j))

  pub sign-stands : (o : Binary) → plain? b ≡ true → next_is blank (drop q text) ≡ true → next_between (drop (q + 1) text) ≡ some o
      → next_is blank (drop (q + 2) text) ≡ true → Signs text q b o
  sign-stands o p h i j =
      let s = is_there text q blank h in
      let t = between_is_there text (suc q) o (rw (add-one q) at i) in
      let two : q + 2 ≡ suc (suc q) = omega arith in
      let three : q + 3 ≡ suc (suc (suc q)) = omega arith in
      let u = is_there text (suc (suc q)) blank (rw two at j) in
      record {
        character = t.0;
        plain = plain-only b p;
        left = rw three (rw (s.left, t.1.left, u.left));
        sign = t.2;
        inside = omega (arith, u.inside);
      }

-- The limits on the way: actions at most n, and how many brackets are open.
use Prim.Native.Nat.{ℕ, suc, ◌+◌, ◌*◌, ◌≤◌}
use native.Mathlib.Omega.{arith}
use native.Mathlib.Numerals.{add-one}
use mathlib.Core.Path.{◌≡◌, refl, sym, ◌∙◌, subst}
use mathlib.Core.Bool.{Bool, true, false}
use mathlib.Core.List.{List, [], ◌∷◌, ◌++◌, append_assoc, append-nil}
use mathlib.Core.Option.{some, some-injective}
use lib.ListN.{length, length-append}
use lib.Dec.{eqb}
use borrow.Author.Tests.{eqb-true, ne_eqb}
use Rattle.plans.specs.declared.Binary.{Binary}
use Rattle.plans.specs.declared.Binary.TheVariants.{Choice, Sequence}
use Rattle.plans.specs.declared.Unary.TheVariants.{Priority, Encapsulation}
use Rattle.plans.specs.declared.Word.{Word}
use Rattle.plans.specs.Term.{Term, act, un, bin, Over}
use Rattle.grammar.specs.Character.{plus, dot, opening, closing, tee, aitch, nought, blank}
use Rattle.grammar.specs.Grammar.{Decimal, digit, more, Between, merge, left_merge, communication, unless, SumOf, moved}
use Rattle.grammar.specs.declared.Bracket.TheVariants.{Plain, OfPriority, OfSet, Second}
use Rattle.grammar.specs.States.{digit_of, set_of, between_of, Frame, frame, State, unit, digits, done, after_tee, after_aitch, after_set, after_first, after_sign, joined, followed, at_closing, at_blank, go_on, step, height}
use Rattle.grammar.specs.Reading.{start}
use Rattle.grammar.proofs.Induction.{every_sum}
use Rattle.grammar.proofs.Complete.{Follows, nothing, a-plus, a-closing, a-blank, a-dot, weaker, digit-read, set-read, between_read, signs}
use Rattle.grammar.proofs.Sound.{Good, good_cond, good_digit, good_then, good_some, digit-said, set-said, between_said, Every, Passed, AllPassed}

-- sets are numbered 0 to 7 in every text, so actions are all that n limits
abbrev Fit : ℕ → List ℕ → Term → Type 0
Fit n s u = Every (λ a. a ≤ n) u → Over n u

pub every_over : (n : ℕ) {s : List ℕ} {u : Term} → SumOf s u → Every (λ a. a ≤ n) u → Over n u
every_over n x =
    every_sum (Fit n) (Fit n) (Fit n)
    (record {
      one_product = λ s u f. f;
      sum = λ s t u v f g e. (f e.0, g e.1);
      one_unit = λ s u f. f;
      product = λ s t u v f g e. (f e.0, g e.1);
      action = λ s a d e. e;
      bracket = λ s u f. f;
      priority = λ s u f e. (tt, f e);
      encapsulation = λ h s u l f e. (l, f e);
      pair = λ c o s t u v b f g e. (f e.0, g e.1);
    })
    x

pub over_every : (n : ℕ) (u : Term) → Over n u → Every (λ a. a ≤ n) u
over_every n (act a) h = h
over_every n (un o x) h = over_every n x h.1
over_every n (bin o x y) h = (over_every n x h.0, over_every n y h.1)

-- a text whose actions are at most n meets no larger one on the way
module _ {S : Type 0} (write : Word → S) (n : ℕ) where
  abbrev A : ℕ → Type 0
  A a = a ≤ n

  passes : (s s' : State S) (c : ℕ) (r : List ℕ) → step write s c ≡ some s' → Passed write A s' → AllPassed write A s' r → AllPassed write A s (c ∷ r)
  unfolding AllPassed
  passes s s' c r e g h = λ z f. subst (λ z. Passed write A z × AllPassed write A z r) (some-injective _ _ (sym e ∙ f)) (g, h)

  late_passed : (k : List Frame) (w : List S) {r : List ℕ} → Follows false r → AllPassed write A (done false k (joined write true w)) r → AllPassed write A (done true k w) r
  unfolding AllPassed step
  late_passed k w nothing g = g
  late_passed k w a-plus g = g
  late_passed k w a-closing g = g
  late_passed k w a-blank g = g

  number_passed : (a m : ℕ) (p d : Bool) (k : List Frame) (w : List S) {r : List ℕ} → Follows true r
      → AllPassed write A (done p k (followed write d (w ++ signs write (act a)))) r → AllPassed write A (digits a m p d k w) r
  unfolding AllPassed step signs
  number_passed a m p d k w nothing g = g
  number_passed a m p d k w a-plus g = g
  number_passed a m p d k w a-closing g = g
  number_passed a m p d k w a-blank g = g
  number_passed a m p d k w a-dot g = g

  decimal-passed : {s : List ℕ} {a : ℕ} → Decimal s a → a ≤ n → (p d : Bool) (k : List Frame) (w : List S) (r : List ℕ)
      → AllPassed write A (digits a (length s) p d k w) r → AllPassed write A (unit p d k w) (s ++ r)
  unfolding step
  decimal-passed (digit {d = b} h) l p d k w r g = passes (unit p d k w) (digits b 1 p d k w) (nought + b) r (rw (digit-read b h)) l g
  decimal-passed (more {s = s} {a = a} {d = b} x f h) l p d k w r g =
      rw (append_assoc s ((nought + b) ∷ []) r)
      (decimal-passed x (omega arith) p d k w ((nought + b) ∷ r)
      (passes (digits a (length s) p d k w) (digits (10 * a + b) (suc (length s)) p d k w) (nought + b) r (rw (digit-read b h, ne_eqb a 0 (λ e. omega arith))) l
      (rw (length-append s ((nought + b) ∷ []), add-one (length s)) at g)))

  abbrev SumPassed : List ℕ → Term → Type 0
  SumPassed s u = Every A u → (k : List Frame) (w : List S) (r : List ℕ) → Follows false r
      → AllPassed write A (done false k (w ++ signs write u)) r → AllPassed write A (unit false false k w) (s ++ r)

  abbrev ProductPassed : List ℕ → Term → Type 0
  ProductPassed s u = Every A u → (p : Bool) (k : List Frame) (w : List S) (r : List ℕ) → Follows true r
      → AllPassed write A (done p k (w ++ signs write u)) r → AllPassed write A (unit p false k w) (s ++ r)

  abbrev UnitPassed : List ℕ → Term → Type 0
  UnitPassed s u = Every A u → (p d : Bool) (k : List Frame) (w : List S) (r : List ℕ) → Follows true r
      → AllPassed write A (done p k (followed write d (w ++ signs write u))) r → AllPassed write A (unit p d k w) (s ++ r)

  sum-passed : (s t : List ℕ) (u v : Term) → SumPassed s u → ProductPassed t v → SumPassed (s ++ (plus ∷ t)) (bin Choice u v)
  unfolding step signs
  sum-passed s t u v x y h k w r f g =
      rw (append_assoc s (plus ∷ t) r)
      (x h.0 k w (plus ∷ (t ++ r)) a-plus
      (passes (done false k (w ++ signs write u)) (unit true false k (w ++ signs write u)) plus (t ++ r) refl tt
      (y h.1 true k (w ++ signs write u) r (weaker f)
      (late_passed k ((w ++ signs write u) ++ signs write v) f (simp append_assoc g)))))

  product-passed : (s t : List ℕ) (u v : Term) → ProductPassed s u → UnitPassed t v → ProductPassed (s ++ (dot ∷ t)) (bin Sequence u v)
  unfolding step signs
  product-passed s t u v x y h p k w r f g =
      rw (append_assoc s (dot ∷ t) r)
      (x h.0 p k w (dot ∷ (t ++ r)) a-dot
      (passes (done p k (w ++ signs write u)) (unit p true k (w ++ signs write u)) dot (t ++ r) refl tt
      (y h.1 p true k (w ++ signs write u) r f (simp append_assoc g))))

  bracket-passed : (s : List ℕ) (u : Term) → SumPassed s u → UnitPassed (opening ∷ (s ++ (closing ∷ []))) u
  unfolding step
  bracket-passed s u x h p d k w r f g =
      passes (unit p d k w) (unit false false (frame Plain p d ∷ k) w) opening ((s ++ (closing ∷ [])) ++ r) refl tt
      (rw (append_assoc s (closing ∷ []) r)
      (x h (frame Plain p d ∷ k) w (closing ∷ r) a-closing
      (passes (done false (frame Plain p d ∷ k) (w ++ signs write u)) (done p k (followed write d (w ++ signs write u))) closing r refl tt g)))

  priority-passed : (s : List ℕ) (u : Term) → SumPassed s u → UnitPassed (tee ∷ opening ∷ (s ++ (closing ∷ []))) (un Priority u)
  unfolding step signs
  priority-passed s u x h p d k w r f g =
      passes (unit p d k w) (after_tee p d k w) tee (opening ∷ ((s ++ (closing ∷ [])) ++ r)) refl tt
      (passes (after_tee p d k w) (unit false false (frame OfPriority p d ∷ k) w) opening ((s ++ (closing ∷ [])) ++ r) refl tt
      (rw (append_assoc s (closing ∷ []) r)
      (x h (frame OfPriority p d ∷ k) w (closing ∷ r) a-closing
      (passes (done false (frame OfPriority p d ∷ k) (w ++ signs write u)) _ closing r refl tt (rw (append_assoc w (signs write u) _) g)))))

  set-passed : (h : ℕ) (s : List ℕ) (u : Term) → h ≤ 7 → SumPassed s u → UnitPassed (aitch ∷ (nought + h) ∷ opening ∷ (s ++ (closing ∷ []))) (un (Encapsulation h) u)
  unfolding step signs
  set-passed j s u l x h p d k w r f g =
      passes (unit p d k w) (after_aitch p d k w) aitch ((nought + j) ∷ opening ∷ ((s ++ (closing ∷ [])) ++ r)) refl tt
      (passes (after_aitch p d k w) (after_set j p d k w) (nought + j) (opening ∷ ((s ++ (closing ∷ [])) ++ r)) (rw (set-read j l)) tt
      (passes (after_set j p d k w) (unit false false (frame (OfSet j) p d ∷ k) w) opening ((s ++ (closing ∷ [])) ++ r) refl tt
      (rw (append_assoc s (closing ∷ []) r)
      (x h (frame (OfSet j) p d ∷ k) w (closing ∷ r) a-closing
      (passes (done false (frame (OfSet j) p d ∷ k) (w ++ signs write u)) _ closing r refl tt (rw (append_assoc w (signs write u) _) g))))))

  pair-passed : (c : ℕ) (o : Binary) (s t : List ℕ) (u v : Term) → Between c o → SumPassed s u → SumPassed t v
      → UnitPassed (opening ∷ (s ++ (blank ∷ c ∷ blank ∷ (t ++ (closing ∷ []))))) (bin o u v)
  unfolding step signs
  pair-passed c o s t u v b x y h p d k w r f g =
      passes (unit p d k w) (unit false false (frame Plain p d ∷ k) w) opening ((s ++ (blank ∷ c ∷ blank ∷ (t ++ (closing ∷ [])))) ++ r) refl tt
      (rw (append_assoc s (blank ∷ c ∷ blank ∷ (t ++ (closing ∷ []))) r)
      (x h.0 (frame Plain p d ∷ k) w (blank ∷ c ∷ blank ∷ ((t ++ (closing ∷ [])) ++ r)) a-blank
      (passes (done false (frame Plain p d ∷ k) (w ++ signs write u)) (after_first p d k (w ++ signs write u)) blank (c ∷ blank ∷ ((t ++ (closing ∷ [])) ++ r)) refl tt
      (passes (after_first p d k (w ++ signs write u)) (after_sign o p d k (w ++ signs write u)) c (blank ∷ ((t ++ (closing ∷ [])) ++ r)) (rw (between_read b)) tt
      (passes (after_sign o p d k (w ++ signs write u)) (unit false false (frame (Second o) p d ∷ k) (w ++ signs write u)) blank ((t ++ (closing ∷ [])) ++ r) refl tt
      (rw (append_assoc t (closing ∷ []) r)
      (y h.1 (frame (Second o) p d ∷ k) (w ++ signs write u) (closing ∷ r) a-closing
      (passes (done false (frame (Second o) p d ∷ k) ((w ++ signs write u) ++ signs write v)) _ closing r refl tt (simp append_assoc g)))))))))

  pub belongs_passed : {s : List ℕ} {u : Term} → SumOf s u → Every A u → AllPassed write A start s
  unfolding AllPassed
  belongs_passed {s} x h =
      rw (← append-nil s)
      (every_sum SumPassed ProductPassed UnitPassed
      (record {
        one_product = λ s u x h k w r f. x h false k w r (weaker f);
        sum = sum-passed;
        one_unit = λ s u x h p k w r f. x h p false k w r f;
        product = product-passed;
        action = λ s a x h p d k w r f g. decimal-passed x h p d k w r (number_passed a (length s) p d k w f g);
        bracket = bracket-passed;
        priority = priority-passed;
        encapsulation = set-passed;
        pair = pair-passed;
      })
      x h [] [] [] nothing tt)

-- how many brackets are open behind a character
module _ {S : Type 0} (write : Word → S) (c : ℕ) where
  Moves : ℕ → State S → Type 0
  Moves h s = height s ≡ moved h c

  same : (e : ℕ) → c ≡ e → (e ≡ opening → ⊥) → (e ≡ closing → ⊥) → (h : ℕ) → h ≡ moved h c
  same e f g i h = rw (f, ne_eqb e opening g, ne_eqb e closing i)

  digit_same : (d : ℕ) → c ≡ nought + d → (h : ℕ) → h ≡ moved h c
  digit_same d f h = same (nought + d) f (λ e. omega arith) (λ e. omega arith) h

  closing-moves : (k : List Frame) (w : List S) → c ≡ closing → Good (Moves (length k)) (at_closing write k w)
  unfolding Moves
  closing-moves [] w e = tt
  closing-moves (frame b p d ∷ k) w e = rw e (omega arith)

  blank-moves : (k : List Frame) (w : List S) → c ≡ blank → Good (Moves (length k)) (at_blank write k w)
  unfolding Moves
  blank-moves [] w e = tt
  blank-moves (frame Plain p d ∷ k) w e = rw e
  blank-moves (frame OfPriority p d ∷ k) w e = tt
  blank-moves (frame (OfSet h) p d ∷ k) w e = tt
  blank-moves (frame (Second o) p d ∷ k) w e = tt

  go_on-moves : (p : Bool) (k : List Frame) (w : List S) → Good (Moves (length k)) (go_on write p k w c)
  unfolding Moves
  go_on-moves p k w =
      good_cond (Moves (length k)) (eqb c dot) _ _ (λ e. rw (eqb-true c dot e))
      λ e. good_cond (Moves (length k)) (eqb c plus) _ _ (λ e. rw (eqb-true c plus e))
      λ e. good_cond (Moves (length k)) (eqb c closing) _ _ (λ e. closing-moves k (joined write p w) (eqb-true c closing e))
      λ e. good_cond (Moves (length k)) (eqb c blank) _ _ (λ e. blank-moves k (joined write p w) (eqb-true c blank e)) λ e. tt

  step-moves : (s : State S) → Good (Moves (height s)) (step write s c)
  unfolding Moves step
  step-moves (unit p d k w) =
      good_digit (Moves (length k)) (digit_of c) _ _ (λ a e. digit_same a (digit-said c a e).1 (length k))
      (good_cond (Moves (length k)) (eqb c opening) _ _ (λ e. rw (eqb-true c opening e))
      λ e. good_cond (Moves (length k)) (eqb c tee) _ _ (λ e. rw (eqb-true c tee e))
      λ e. good_cond (Moves (length k)) (eqb c aitch) _ _ (λ e. rw (eqb-true c aitch e)) λ e. tt)
  step-moves (digits a m p d k w) =
      good_digit (Moves (length k)) (digit_of c) _ _
      (λ b e. good_cond (Moves (length k)) (eqb a 0) _ _ (λ f. tt) λ f. digit_same b (digit-said c b e).1 (length k))
      (go_on-moves p k _)
  step-moves (done p k w) = go_on-moves p k w
  step-moves (after_tee p d k w) = good_cond (Moves (length k)) (eqb c opening) _ _ (λ e. rw (eqb-true c opening e)) λ e. tt
  step-moves (after_aitch p d k w) = good_digit (Moves (length k)) (set_of c) _ _ (λ h e. digit_same h (set-said c h e).1 (length k)) tt
  step-moves (after_set h p d k w) = good_cond (Moves (length k)) (eqb c opening) _ _ (λ e. rw (eqb-true c opening e)) λ e. tt
  step-moves (after_first p d k w) =
      good_then (Moves (suc (length k))) (between_of c) _ λ o e. sign_same o (good_some (λ o. Between c o) (between_of c) o e (between_said c))
    where
      sign_same : {c : ℕ} (o : Binary) → Between c o → suc (length k) ≡ moved (suc (length k)) c
      sign_same o merge = refl
      sign_same o left_merge = refl
      sign_same o communication = refl
      sign_same o unless = refl
  step-moves (after_sign o p d k w) = good_cond (Moves (suc (length k))) (eqb c blank) _ _ (λ e. rw (eqb-true c blank e)) λ e. tt

  pub height-moves : (s s' : State S) → step write s c ≡ some s' → height s' ≡ moved (height s) c
  unfolding Moves
  height-moves s s' e = good_some (Moves (height s)) (step write s c) s' e (step-moves s)

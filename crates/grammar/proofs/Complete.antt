-- A text of the grammar is taken to its end, and the signs written are those of its term. So a text is one plan only.
use Prim.Native.Nat.{ℕ, ◌+◌, ◌≤◌}
use native.Mathlib.Omega.{arith}
use native.Mathlib.Numerals.{add-one}
use mathlib.Core.Path.{◌≡◌, refl, sym, ap, ◌∙◌}
use mathlib.Core.Bool.{Bool, true, false}
use mathlib.Core.List.{List, [], ◌∷◌, ◌++◌, append_assoc, append-nil}
use mathlib.Core.Option.{Option, some, some-injective}
use lib.ListN.{length, length-append}
use borrow.Author.Tests.{le-leb, ne_eqb}
use Rattle.plans.specs.declared.Binary.{Binary}
use Rattle.plans.specs.declared.Binary.TheVariants.{Choice, Sequence}
use Rattle.plans.specs.declared.Unary.TheVariants.{Priority, Encapsulation}
use Rattle.plans.specs.declared.Word.{Word}
use Rattle.plans.specs.declared.Word.TheVariants.{Action, One, Two}
use Rattle.plans.specs.Term.{Term, act, un, bin, words, push, and_then}
use Rattle.grammar.specs.Character.{plus, dot, opening, closing, tee, aitch, nought, blank}
use Rattle.grammar.specs.Grammar.{Decimal, digit, more, Between, merge, left_merge, communication, unless, SumOf}
use Rattle.grammar.proofs.Induction.{Ways, every_sum}
use Rattle.grammar.specs.declared.Bracket.TheVariants.{Plain, OfPriority, OfSet, Second}
use Rattle.grammar.specs.States.{digit_of, set_of, between_of, Frame, frame, State, unit, digits, done, joined, followed, step, finish}
use Rattle.grammar.specs.Reading.{start, byte_of}

-- what may follow a unit, and, without `.`, what may follow a product
pub data Follows : Bool → List ℕ → Type 0 where
  nothing : {b : Bool} → Follows b []
  a-plus : {b : Bool} {r : List ℕ} → Follows b (plus ∷ r)
  a-closing : {b : Bool} {r : List ℕ} → Follows b (closing ∷ r)
  a-blank : {b : Bool} {r : List ℕ} → Follows b (blank ∷ r)
  a-dot : {r : List ℕ} → Follows true (dot ∷ r)

pub weaker : {r : List ℕ} → Follows false r → Follows true r
weaker nothing = nothing
weaker a-plus = a-plus
weaker a-closing = a-closing
weaker a-blank = a-blank

pub digit-read : (d : ℕ) → d ≤ 9 → digit_of (nought + d) ≡ some d
digit-read d h = rw (le-leb 48 (48 + d) (omega arith), le-leb (48 + d) 57 (omega arith)) (ap some (omega arith))

pub set-read : (h : ℕ) → h ≤ 7 → set_of (nought + h) ≡ some h
set-read h l = rw (le-leb 48 (48 + h) (omega arith), le-leb (48 + h) 55 (omega arith)) (ap some (omega arith))

pub between_read : {c : ℕ} {o : Binary} → Between c o → between_of c ≡ some o
between_read merge = refl
between_read left_merge = refl
between_read communication = refl
between_read unless = refl

module _ {S : Type 0} (write : Word → S) where
  -- the signs of a term in the order of its words
  unfoldable pub signs : Term → List S
  signs (act a) = write (Action a) ∷ []
  signs (un o x) = signs x ++ (write (One o) ∷ [])
  signs (bin o x y) = signs x ++ (signs y ++ (write (Two o) ∷ []))

  -- reading to the end, without limits
  unfoldable pub accept : State S → List ℕ → Option (List S)
  accept s [] = finish write s
  accept s (c ∷ cs) = and_then (step write s c) (λ s'. accept s' cs)

  -- a `+` that waits may be written as soon as its right side has ended
  late : (k : List Frame) (w : List S) {r : List ℕ} → Follows false r → accept (done true k w) r ≡ accept (done false k (joined write true w)) r
  unfolding accept step finish
  late k w nothing = refl
  late k w a-plus = refl
  late k w a-closing = refl
  late k w a-blank = refl

  -- an action ends where no digit follows
  number-ends : (a m : ℕ) (p d : Bool) (k : List Frame) (w : List S) {r : List ℕ} → Follows true r
      → accept (digits a m p d k w) r ≡ accept (done p k (followed write d (w ++ signs (act a)))) r
  unfolding accept step finish signs
  number-ends a m p d k w nothing = refl
  number-ends a m p d k w a-plus = refl
  number-ends a m p d k w a-closing = refl
  number-ends a m p d k w a-blank = refl
  number-ends a m p d k w a-dot = refl

  decimal-on : {s : List ℕ} {a : ℕ} → Decimal s a → (p d : Bool) (k : List Frame) (w : List S) (r : List ℕ)
      → accept (unit p d k w) (s ++ r) ≡ accept (digits a (length s) p d k w) r
  unfolding accept step
  decimal-on (digit {d = b} h) p d k w r = rw (digit-read b h)
  decimal-on (more {s = s} {a = a} {d = b} n l h) p d k w r =
      ap (accept (unit p d k w)) (append_assoc s ((nought + b) ∷ []) r)
      ∙ (decimal-on n p d k w ((nought + b) ∷ r)
      ∙ rw (digit-read b h, ne_eqb a 0 (λ e. omega arith), length-append s ((nought + b) ∷ []), add-one (length s)))

  -- a sum, a product and a unit are read whole, whatever stands around them
  abbrev SumOn : List ℕ → Term → Type 0
  SumOn s u = (k : List Frame) (w : List S) (r : List ℕ) → Follows false r → accept (unit false false k w) (s ++ r) ≡ accept (done false k (w ++ signs u)) r

  abbrev ProductOn : List ℕ → Term → Type 0
  ProductOn s u = (p : Bool) (k : List Frame) (w : List S) (r : List ℕ) → Follows true r → accept (unit p false k w) (s ++ r) ≡ accept (done p k (w ++ signs u)) r

  abbrev UnitOn : List ℕ → Term → Type 0
  UnitOn s u = (p d : Bool) (k : List Frame) (w : List S) (r : List ℕ) → Follows true r
      → accept (unit p d k w) (s ++ r) ≡ accept (done p k (followed write d (w ++ signs u))) r

  sum-on : (s t : List ℕ) (u v : Term) → SumOn s u → ProductOn t v → SumOn (s ++ (plus ∷ t)) (bin Choice u v)
  unfolding accept step signs
  sum-on s t u v x y k w r f =
      ap (accept (unit false false k w)) (append_assoc s (plus ∷ t) r)
      ∙ (x k w (plus ∷ (t ++ r)) a-plus
      ∙ (y true k (w ++ signs u) r (weaker f)
      ∙ (late k ((w ++ signs u) ++ signs v) f
      ∙ ap (λ (z : List S). accept (done false k z) r) (simp append_assoc))))

  product-on : (s t : List ℕ) (u v : Term) → ProductOn s u → UnitOn t v → ProductOn (s ++ (dot ∷ t)) (bin Sequence u v)
  unfolding accept step signs
  product-on s t u v x y p k w r f =
      ap (accept (unit p false k w)) (append_assoc s (dot ∷ t) r)
      ∙ (x p k w (dot ∷ (t ++ r)) a-dot
      ∙ (y p true k (w ++ signs u) r f
      ∙ ap (λ (z : List S). accept (done p k z) r) (simp append_assoc)))

  bracket-on : (s : List ℕ) (u : Term) → SumOn s u → UnitOn (opening ∷ (s ++ (closing ∷ []))) u
  unfolding accept step signs
  bracket-on s u x p d k w r f =
      ap (accept (unit false false (frame Plain p d ∷ k) w)) (append_assoc s (closing ∷ []) r)
      ∙ x (frame Plain p d ∷ k) w (closing ∷ r) a-closing

  priority-on : (s : List ℕ) (u : Term) → SumOn s u → UnitOn (tee ∷ opening ∷ (s ++ (closing ∷ []))) (un Priority u)
  unfolding accept step signs
  priority-on s u x p d k w r f =
      ap (accept (unit false false (frame OfPriority p d ∷ k) w)) (append_assoc s (closing ∷ []) r)
      ∙ (x (frame OfPriority p d ∷ k) w (closing ∷ r) a-closing
      ∙ ap (λ (z : List S). accept (done p k (followed write d z)) r) (append_assoc w (signs u) _))

  set_on : (h : ℕ) (s : List ℕ) (u : Term) → h ≤ 7 → SumOn s u → UnitOn (aitch ∷ (nought + h) ∷ opening ∷ (s ++ (closing ∷ []))) (un (Encapsulation h) u)
  unfolding accept step signs
  set_on h s u l x p d k w r f =
      rw (set-read h l)
      (ap (accept (unit false false (frame (OfSet h) p d ∷ k) w)) (append_assoc s (closing ∷ []) r)
      ∙ (x (frame (OfSet h) p d ∷ k) w (closing ∷ r) a-closing
      ∙ ap (λ (z : List S). accept (done p k (followed write d z)) r) (append_assoc w (signs u) _)))

  pair-on : (c : ℕ) (o : Binary) (s t : List ℕ) (u v : Term) → Between c o → SumOn s u → SumOn t v
      → UnitOn (opening ∷ (s ++ (blank ∷ c ∷ blank ∷ (t ++ (closing ∷ []))))) (bin o u v)
  unfolding accept step signs
  pair-on c o s t u v b x y p d k w r f =
      ap (accept (unit false false (frame Plain p d ∷ k) w)) (append_assoc s (blank ∷ c ∷ blank ∷ (t ++ (closing ∷ []))) r)
      ∙ (x (frame Plain p d ∷ k) w (blank ∷ c ∷ blank ∷ ((t ++ (closing ∷ [])) ++ r)) a-blank
      ∙ rw (between_read b)
      (ap (accept (unit false false (frame (Second o) p d ∷ k) (w ++ signs u))) (append_assoc t (closing ∷ []) r)
      ∙ (y (frame (Second o) p d ∷ k) (w ++ signs u) (closing ∷ r) a-closing
      ∙ ap (λ (z : List S). accept (done p k (followed write d z)) r) (simp append_assoc))))

  ways : Ways SumOn ProductOn UnitOn
  ways =
      record {
        one_product = λ s u x k w r f. x false k w r (weaker f);
        sum = sum-on;
        one_unit = λ s u x p k w r f. x p false k w r f;
        product = product-on;
        action = λ s a x p d k w r f. decimal-on x p d k w r ∙ number-ends a (length s) p d k w f;
        bracket = bracket-on;
        priority = priority-on;
        encapsulation = set_on;
        pair = pair-on;
      }

  -- all of a text of the grammar
  pub belongs_accepted : {s : List ℕ} {u : Term} → SumOf s u → accept start s ≡ some (signs u)
  unfolding accept finish
  belongs_accepted {s} x = ap (accept start) (sym (append-nil s)) ∙ every_sum SumOn ProductOn UnitOn ways x [] [] [] nothing

-- signs that stand for themselves are read back as their term
abbrev itself : Word → Word
itself k = k

back : List Word → List Term → Option (List Term)
back [] s = some s
back (k ∷ ks) s = and_then (push k s) (λ r. back ks r)

back_signs : (u : Term) (ks : List Word) (s : List Term) → back (signs itself u ++ ks) s ≡ back ks (u ∷ s)
unfolding back signs push
back_signs (act a) ks s = refl
back_signs (un o x) ks s = ap (λ z. back z s) (append_assoc (signs itself x) _ ks) ∙ back_signs x _ s
back_signs (bin o x y) ks s =
    ap (λ z. back z s) (append_assoc (signs itself x) _ ks)
    ∙ (back_signs x _ s ∙ (ap (λ z. back z (x ∷ s)) (append_assoc (signs itself y) _ ks) ∙ back_signs y _ (x ∷ s)))

-- "as one plan only": a text is made for one term at most
pub one_plan_only : {s : List ℕ} {u v : Term} → SumOf s u → SumOf s v → u ≡ v
unfolding back
one_plan_only {u} {v} x y =
    let e = some-injective _ _ (sym (belongs_accepted itself x) ∙ belongs_accepted itself y) in
    let i = back_signs u [] [] in
    let j = back_signs v [] [] in
    let k : ◌≡◌ {A = Option (List Term)} (some (u ∷ [])) (some (v ∷ [])) = sym i ∙ (ap (λ z. back (z ++ []) []) e ∙ j) in
    cc

-- signs written as bytes are the words
pub signs_words : (u : Term) → signs byte_of u ≡ words u
unfolding signs words
signs_words (act a) = refl
signs_words (un o x) = rw (signs_words x)
signs_words (bin o x y) = rw (signs_words x, signs_words y)

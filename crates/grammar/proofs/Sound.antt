-- What is taken to its end is a text of the grammar: each state tells how the text so far is made.
use Prim.Native.Nat.{ℕ, zero, suc, ◌+◌, ◌-◌, ◌≤◌}
use native.Mathlib.Omega.{arith}
use mathlib.Core.Path.{◌≡◌, refl, ap, ◌∙◌, subst}
use mathlib.Core.Bool.{Bool, true, false, cond, ◌&&◌, and-eq-true_iff}
use mathlib.Core.List.{List, [], ◌∷◌, ◌++◌, append_assoc, append-nil}
use mathlib.Core.Option.{Option, none, some, some-injective}
use lib.ListN.{length, length-append}
use lib.Dec.{eqb, leb}
use borrow.Author.Tests.{eqb-true, eqb-false, leb-true}
use Rattle.plans.specs.declared.Binary.{Binary}
use Rattle.plans.specs.declared.Unary.TheVariants.{Priority, Encapsulation}
use Rattle.plans.specs.declared.Word.{Word}
use Rattle.plans.specs.Term.{Term, act, un, bin, and_then}
use Rattle.plans.proofs.Options.{never, and_then_some}
use Rattle.grammar.specs.Character.{plus, dot, opening, closing, tee, aitch, nought, hash, square, bar, less, blank}
use Rattle.grammar.specs.Grammar.{Decimal, digit, more, Between, merge, left_merge, communication, unless, SumOf, one_product, sum, ProductOf, one_unit, product, UnitOf, action, bracket, priority, encapsulation, pair}
use Rattle.grammar.specs.declared.Bracket.{Bracket}
use Rattle.grammar.specs.declared.Bracket.TheVariants.{Plain, OfPriority, OfSet, Second}
use Rattle.grammar.specs.States.{digit_of, set_of, between_of, on_digit, Frame, frame, State, unit, digits, done, after_tee, after_aitch, after_set, after_first, after_sign, joined, followed, closed, at_closing, at_blank, at_end, begin, go_on, step, finish}
use Rattle.grammar.specs.Reading.{start}
use Rattle.grammar.proofs.Complete.{signs, accept}

-- what holds of an answer wherever there is one
module _ {A : Type 0} (P : A → Type 0) where
  abbrev pub Good : Option A → Type 0
  Good none = Unit
  Good (some a) = P a

  pub good_cond : (b : Bool) (x y : Option A) → (b ≡ true → Good x) → (b ≡ false → Good y) → Good (cond b x y)
  good_cond true x y f g = f refl
  good_cond false x y f g = g refl

  pub good_digit : (m : Option ℕ) (f : ℕ → Option A) (x : Option A) → ((d : ℕ) → m ≡ some d → Good (f d)) → Good x → Good (on_digit m f x)
  good_digit none f x g h = h
  good_digit (some d) f x g h = g d refl

  pub good_then : {B : Type 0} (m : Option B) (f : B → Option A) → ((b : B) → m ≡ some b → Good (f b)) → Good (and_then m f)
  good_then none f g = tt
  good_then (some b) f g = g b refl

  pub good_some : (m : Option A) (a : A) → m ≡ some a → Good m → P a
  good_some none a e g = never e
  good_some (some b) a e g = subst P (some-injective _ _ e) g

-- characters as they are read
module _ (c d h : ℕ) where
  digit-back : leb 48 c && leb c h ≡ true → ◌≡◌ {A = Option ℕ} (some (c - 48)) (some d) → (48 + d ≤ h) × (c ≡ 48 + d)
  digit-back e f =
      let i = (and-eq-true_iff (leb 48 c) _).0 e in
      let low = leb-true 48 c i.0 in
      let high = leb-true c h i.1 in
      let j = some-injective _ _ f in
      (omega arith, omega arith)

  digit_tested : (b : Bool) → leb 48 c && leb c h ≡ b → cond b (some (c - 48)) none ≡ some d → (48 + d ≤ h) × (c ≡ 48 + d)
  digit_tested true e f = digit-back e f
  digit_tested false e f = never f

pub digit-said : (c d : ℕ) → digit_of c ≡ some d → (d ≤ 9) × (c ≡ nought + d)
digit-said c d e = let i = digit_tested c d 57 (leb 48 c && leb c 57) refl e in (omega arith, i.1)

pub set-said : (c d : ℕ) → set_of c ≡ some d → (d ≤ 7) × (c ≡ nought + d)
set-said c d e = let i = digit_tested c d 55 (leb 48 c && leb c 55) refl e in (omega arith, i.1)

pub between_said : (c : ℕ) → Good (λ o. Between c o) (between_of c)
between_said c =
    good_cond (λ o. Between c o) (eqb c hash) _ _ (λ e. rw (eqb-true c hash e) merge)
    λ e. good_cond (λ o. Between c o) (eqb c square) _ _ (λ e. rw (eqb-true c square e) left_merge)
    λ e. good_cond (λ o. Between c o) (eqb c bar) _ _ (λ e. rw (eqb-true c bar e) communication)
    λ e. good_cond (λ o. Between c o) (eqb c less) _ _ (λ e. rw (eqb-true c less e) unless) λ e. tt

positive : (a : ℕ) → eqb a 0 ≡ false → 1 ≤ a
positive zero f = absurd (eqb-false 0 0 f refl)
positive (suc a) f = omega arith

-- what stands before an open bracket's sum
pub data Leads : Bracket → List ℕ → Type 0 where
  plain : Leads Plain (opening ∷ [])
  priorities : Leads OfPriority (tee ∷ opening ∷ [])
  set : {h : ℕ} → h ≤ 7 → Leads (OfSet h) (aitch ∷ (nought + h) ∷ opening ∷ [])

-- all actions of a term are such
abbrev pub Every : (ℕ → Type 0) → Term → Type 0
Every A (act a) = A a
Every A (un o x) = Every A x
Every A (bin o x y) = Every A x × Every A y

module _ {S : Type 0} (write : Word → S) (A : ℕ → Type 0) where
  -- a text after which a sum begins, and one after which a unit begins
  mutual
    pub data Opened : List ℕ → List Frame → List S → Type 0 where
      nothing : Opened [] [] []
      opens : {t x : List ℕ} {b : Bracket} {p d : Bool} {k : List Frame} {w : List S} → Awaits t p d k w → Leads b x → Opened (t ++ x) (frame b p d ∷ k) w
      second : {t s : List ℕ} {c : ℕ} {o : Binary} {p d : Bool} {k : List Frame} {w : List S} {u : Term} → Awaits t p d k w → SumOf s u → Every A u → Between c o
          → Opened (t ++ (opening ∷ (s ++ (blank ∷ c ∷ blank ∷ [])))) (frame (Second o) p d ∷ k) (w ++ signs write u)

    pub data Awaits : List ℕ → Bool → Bool → List Frame → List S → Type 0 where
      fresh : {t : List ℕ} {k : List Frame} {w : List S} → Opened t k w → Awaits t false false k w
      more_products : {t s : List ℕ} {k : List Frame} {w : List S} {u : Term} → Opened t k w → SumOf s u → Every A u
          → Awaits (t ++ (s ++ (plus ∷ []))) true false k (w ++ signs write u)
      more_units : {t s : List ℕ} {p : Bool} {k : List Frame} {w : List S} {u : Term} → Awaits t p false k w → ProductOf s u → Every A u
          → Awaits (t ++ (s ++ (dot ∷ []))) p true k (w ++ signs write u)

  -- a text after which a product has ended, and one after which a sum has
  pub data Ended : List ℕ → Bool → List Frame → List S → Type 0 where
    ended : {t s : List ℕ} {p : Bool} {k : List Frame} {w : List S} {u : Term} → Awaits t p false k w → ProductOf s u → Every A u → Ended (t ++ s) p k (w ++ signs write u)

  pub data Summed : List ℕ → List Frame → List S → Type 0 where
    summed : {t s : List ℕ} {k : List Frame} {w : List S} {u : Term} → Opened t k w → SumOf s u → Every A u → Summed (t ++ s) k (w ++ signs write u)

  unit-ended : {t s : List ℕ} {p d : Bool} {k : List Frame} {w : List S} (u : Term) → Awaits t p d k w → UnitOf s u → Every A u
      → Ended (t ++ s) p k (followed write d (w ++ signs write u))
  unfolding signs
  unit-ended u (fresh x) y g = ended (fresh x) (one_unit y) g
  unit-ended u (more_products x z f) y g = ended (more_products x z f) (one_unit y) g
  unit-ended u (more_units x z f) y g = simp append_assoc (ended x (product z y) (f, g))

  product_summed : {t s : List ℕ} {p : Bool} {k : List Frame} {w : List S} (u : Term) → Awaits t p false k w → ProductOf s u → Every A u
      → Summed (t ++ s) k (joined write p (w ++ signs write u))
  unfolding signs
  product_summed u (fresh x) y g = summed x (one_product y) g
  product_summed u (more_products x z f) y g = simp append_assoc (summed x (sum z y) (f, g))

  sum-ended : {t : List ℕ} {p : Bool} {k : List Frame} {w : List S} → Ended t p k w → Summed t k (joined write p w)
  sum-ended (ended {u = u} x y g) = product_summed u x y g

  -- a bracket closes
  bracket_closes : {t s : List ℕ} {b : Bracket} {p d : Bool} {k : List Frame} {w : List S} (u : Term) → Opened t (frame b p d ∷ k) w → SumOf s u → Every A u
      → Ended ((t ++ s) ++ (closing ∷ [])) p k (followed write d (closed write b (w ++ signs write u)))
  unfolding signs
  bracket_closes u (opens x plain) y g = simp append_assoc (unit-ended u x (bracket y) g)
  bracket_closes u (opens x priorities) y g = simp append_assoc (unit-ended (un Priority u) x (priority y) g)
  bracket_closes u (opens x (set {h = h} l)) y g = simp append_assoc (unit-ended (un (Encapsulation h) u) x (encapsulation l y) g)
  bracket_closes u (second {o = o} {u = v} x z f c) y g = simp append_assoc (unit-ended (bin o v u) x (pair z c y) (f, g))

  sum_closes : {t : List ℕ} {b : Bracket} {p d : Bool} {k : List Frame} {w : List S} → Summed t (frame b p d ∷ k) w
      → Ended (t ++ (closing ∷ [])) p k (followed write d (closed write b w))
  sum_closes (summed {u = u} x y g) = bracket_closes u x y g

  -- a unit is begun and not ended: what stands here of it
  pub record Begun (here : List ℕ → Type 0) (t : List ℕ) (p d : Bool) (k : List Frame) (w : List S) : Type 0 where
    pub before : List ℕ
    pub part : List ℕ
    pub awaits : Awaits before p d k w
    pub is : here part
    pub split : t ≡ before ++ part

  -- `(s` and what stands behind it
  pub record Halved (rest : List ℕ) (t : List ℕ) (p d : Bool) (k : List Frame) (w : List S) : Type 0 where
    pub before : List ℕ
    pub part : List ℕ
    pub first : Term
    pub out : List S
    pub awaits : Awaits before p d k out
    pub is : SumOf part first
    pub each : Every A first
    pub split : t ≡ before ++ (opening ∷ (part ++ rest))
    pub said : w ≡ out ++ signs write first

  abbrev pub Told : List ℕ → State S → Type 0
  Told t (unit p d k w) = Awaits t p d k w
  Told t (digits a m p d k w) = Begun (λ s. Decimal s a × (length s ≡ m) × A a) t p d k w
  Told t (done p k w) = Ended t p k w
  Told t (after_tee p d k w) = Begun (λ s. s ≡ tee ∷ []) t p d k w
  Told t (after_aitch p d k w) = Begun (λ s. s ≡ aitch ∷ []) t p d k w
  Told t (after_set h p d k w) = Begun (λ s. (s ≡ aitch ∷ (nought + h) ∷ []) × (h ≤ 7)) t p d k w
  Told t (after_first p d k w) = Halved (blank ∷ []) t p d k w
  Told t (after_sign o p d k w) = (c : ℕ) × Between c o × Halved (blank ∷ c ∷ []) t p d k w

  -- the action that is being read is such
  abbrev pub Passed : State S → Type 0
  Passed (unit p d k w) = Unit
  Passed (digits a m p d k w) = A a
  Passed (done p k w) = Unit
  Passed (after_tee p d k w) = Unit
  Passed (after_aitch p d k w) = Unit
  Passed (after_set h p d k w) = Unit
  Passed (after_first p d k w) = Unit
  Passed (after_sign o p d k w) = Unit

  -- one character more
  module _ (t : List ℕ) (c : ℕ) where
    Next : State S → Type 0
    Next s = Passed s → Told (t ++ (c ∷ [])) s

    begin_told : (p d : Bool) (k : List Frame) (w : List S) → Awaits t p d k w → Good Next (begin write p d k w c)
    unfolding Next
    begin_told p d k w x =
        good_digit Next (digit_of c) _ _
        (λ a e g.
        record {
          before = t;
          part = c ∷ [];
          awaits = x;
          is = (rw (digit-said c a e).1 (digit (digit-said c a e).0), refl, g);
          split = refl;
        })
        (good_cond Next (eqb c opening) _ _ (λ e g. rw (eqb-true c opening e) (fresh (opens x plain)))
        λ e. good_cond Next (eqb c tee) _ _ (λ e g. record { before = t; part = c ∷ []; awaits = x; is = rw (eqb-true c tee e); split = refl })
        λ e. good_cond Next (eqb c aitch) _ _ (λ e g. record { before = t; part = c ∷ []; awaits = x; is = rw (eqb-true c aitch e); split = refl }) λ e. tt)

    closing_told : (k : List Frame) (w : List S) → c ≡ closing → Summed t k w → Good Next (at_closing write k w)
    unfolding Next
    closing_told [] w e x = tt
    closing_told (frame b p d ∷ k) w e x = λ g. rw e (sum_closes x)

    halved : {r : List ℕ} {p d : Bool} {k : List Frame} {w : List S} {u : Term} (s : List ℕ) → c ≡ blank → Opened r (frame Plain p d ∷ k) w → SumOf s u → Every A u → t ≡ r ++ s
        → Halved (blank ∷ []) (t ++ (c ∷ [])) p d k (w ++ signs write u)
    halved {w} {u} s e (opens {t = r} x plain) y g f =
        record {
          before = r;
          part = s;
          first = u;
          out = w;
          awaits = x;
          is = y;
          each = g;
          split = rw (e, f) (simp append_assoc);
          said = refl;
        }

    blank_told : (k : List Frame) (w : List S) → c ≡ blank → (r : List ℕ) → t ≡ r → Summed r k w → Good Next (at_blank write k w)
    unfolding Next
    blank_told [] w e r f x = tt
    blank_told (frame Plain p d ∷ k) w e r f (summed {s = s} x y g) = λ z. halved s e x y g f
    blank_told (frame OfPriority p d ∷ k) w e r f x = tt
    blank_told (frame (OfSet h) p d ∷ k) w e r f x = tt
    blank_told (frame (Second o) p d ∷ k) w e r f x = tt

    go_on_told : (p : Bool) (k : List Frame) (w : List S) → Ended t p k w → Good Next (go_on write p k w c)
    unfolding Next
    go_on_told p k w x =
        good_cond Next (eqb c dot) _ _ (λ e g. rw (eqb-true c dot e) (dotted x))
        λ e. good_cond Next (eqb c plus) _ _ (λ e g. rw (eqb-true c plus e) (added (sum-ended x)))
        λ e. good_cond Next (eqb c closing) _ _ (λ e. closing_told k (joined write p w) (eqb-true c closing e) (sum-ended x))
        λ e. good_cond Next (eqb c blank) _ _ (λ e. blank_told k (joined write p w) (eqb-true c blank e) t refl (sum-ended x)) λ e. tt
      where
        dotted : {t : List ℕ} {p : Bool} {k : List Frame} {w : List S} → Ended t p k w → Awaits (t ++ (dot ∷ [])) p true k w
        dotted (ended x y g) = simp append_assoc (more_units x y g)

        added : {t : List ℕ} {k : List Frame} {w : List S} → Summed t k w → Awaits (t ++ (plus ∷ [])) true false k w
        added (summed x y g) = simp append_assoc (more_products x y g)

    number_told : (a m : ℕ) (p d : Bool) (k : List Frame) (w : List S) → Told t (digits a m p d k w) → Good Next (step write (digits a m p d k w) c)
    unfolding Next step signs
    number_told a m p d k w x =
        good_digit Next (digit_of c) _ _
        (λ b e.
        good_cond Next (eqb a 0) _ _ (λ f. tt) λ f g.
        record {
          before = x.before;
          part = x.part ++ (c ∷ []);
          awaits = x.awaits;
          is = (rw (digit-said c b e).1 (more x.is.0 (positive a f) (digit-said c b e).0), longer, g);
          split = ap (λ z. z ++ (c ∷ [])) x.split ∙ append_assoc x.before x.part _;
        })
        (go_on_told p k _ (rw x.split (unit-ended (act a) x.awaits (action x.is.0) x.is.2)))
      where
        longer : length (x.part ++ (c ∷ [])) ≡ suc m
        longer = rw (length-append x.part (c ∷ [])) (omega (arith, x.is.1))

    step_told : (s : State S) → Told t s → Good Next (step write s c)
    unfolding Next step
    step_told (unit p d k w) x = begin_told p d k w x
    step_told (digits a m p d k w) x = number_told a m p d k w x
    step_told (done p k w) x = go_on_told p k w x
    step_told (after_tee p d k w) x =
        good_cond Next (eqb c opening) _ _ (λ e g. rw (eqb-true c opening e, x.split, x.is) (simp append_assoc (fresh (opens x.awaits priorities)))) λ e. tt
    step_told (after_aitch p d k w) x =
        good_digit Next (set_of c) _ _
        (λ h e g.
        record {
          before = x.before;
          part = aitch ∷ (nought + h) ∷ [];
          awaits = x.awaits;
          is = (refl, (set-said c h e).0);
          split = rw ((set-said c h e).1, x.split, x.is) (simp append_assoc);
        })
        tt
    step_told (after_set h p d k w) x =
        good_cond Next (eqb c opening) _ _ (λ e g. rw (eqb-true c opening e, x.split, x.is.0) (simp append_assoc (fresh (opens x.awaits (set x.is.1))))) λ e. tt
    step_told (after_first p d k w) x =
        good_then Next (between_of c) _ λ o e g. (
          c,
          good_some (λ o. Between c o) (between_of c) o e (between_said c),
          record {
            before = x.before;
            part = x.part;
            first = x.first;
            out = x.out;
            awaits = x.awaits;
            is = x.is;
            each = x.each;
            split = rw x.split (simp append_assoc);
            said = x.said;
          },
        )
    step_told (after_sign o p d k w) x =
        good_cond Next (eqb c blank) _ _
        (λ e g. rw (eqb-true c blank e, x.2.split, x.2.said) (simp append_assoc (fresh (second x.2.awaits x.2.is x.2.each x.1)))) λ e. tt

    pub next_told : (s s' : State S) → Told t s → step write s c ≡ some s' → Passed s' → Told (t ++ (c ∷ [])) s'
    unfolding Next
    next_told s s' x e g = good_some Next (step write s c) s' e (step_told s x) g

  pub record Whole (t : List ℕ) (w : List S) : Type 0 where
    pub plan : Term
    pub made : SumOf t plan
    pub each : Every A plan
    pub said : w ≡ signs write plan

  whole : {t : List ℕ} {w : List S} (k : List Frame) → Summed t k w → Good (Whole t) (at_end write k w)
  whole (f ∷ k) x = tt
  whole [] (summed {u = u} nothing x g) = record { plan = u; made = x; each = g; said = refl }

  -- a text that ends here
  finish_told : (t : List ℕ) (s : State S) → Told t s → Good (Whole t) (finish write s)
  unfolding finish signs
  finish_told t (unit p d k w) x = tt
  finish_told t (digits a m p d k w) x = whole k (rw x.split (sum-ended (unit-ended (act a) x.awaits (action x.is.0) x.is.2)))
  finish_told t (done p k w) x = whole k (sum-ended x)
  finish_told t (after_tee p d k w) x = tt
  finish_told t (after_aitch p d k w) x = tt
  finish_told t (after_set h p d k w) x = tt
  finish_told t (after_first p d k w) x = tt
  finish_told t (after_sign o p d k w) x = tt

  -- every state on the way has such an action
  unfoldable pub AllPassed : State S → List ℕ → Type 0
  AllPassed s [] = Unit
  AllPassed s (c ∷ r) = (s' : State S) → step write s c ≡ some s' → Passed s' × AllPassed s' r

  -- and one that goes on
  pub accept_told : (t r : List ℕ) (s : State S) (w : List S) → Told t s → AllPassed s r → accept write s r ≡ some w → Whole (t ++ r) w
  unfolding accept AllPassed
  accept_told t [] s w x g e = rw (append-nil t) (good_some (Whole t) (finish write s) w e (finish_told t s x))
  accept_told t (c ∷ r) s w x g e =
      let i = and_then_some (step write s c) _ e in
      rw (← append_assoc t (c ∷ []) r)
      (accept_told (t ++ (c ∷ [])) r i.0 w (next_told t c s i.0 x i.1 (g i.0 i.1).0) (g i.0 i.1).1 i.2)

  pub accepted_belongs : (s : List ℕ) (w : List S) → AllPassed start s → accept write start s ≡ some w → Whole s w
  accepted_belongs s w g e = accept_told [] s start w (fresh nothing) g e

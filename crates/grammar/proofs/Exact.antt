-- A text is read exactly when it belongs to the grammar within the limits, and its plan's words are its term's.
use Prim.Native.Nat.{ℕ, zero, suc, ◌≤◌}
use native.Mathlib.Omega.{arith}
use mathlib.Core.Path.{◌≡◌, refl, sym, ap, ◌∙◌, subst}
use mathlib.Core.Bool.{Bool, true, false, cond}
use mathlib.Core.List.{List, [], ◌∷◌}
use mathlib.Core.Logic.{◌↔◌}
use mathlib.Core.Option.{Option, none, some, some-injective}
use lib.ListN.{take}
use lib.Seq.{take-nil}
use lib.Dec.{ltb}
use borrow.Author.Tests.{ltb-false, le-ltb}
use Rattle.plans.specs.Term.{and_then}
use Rattle.plans.proofs.Options.{and_then_some}
use Rattle.grammar.specs.Grammar.{level, moved, ReadAs}
use Rattle.grammar.specs.States.{State, unit, digits, done, after_tee, after_aitch, after_set, after_first, after_sign, step, finish, height}
use Rattle.grammar.specs.Reading.{start, byte_of, Parse, Plan, Fault, above, first_digit, on_option, limited, read_from, read_text}
use Rattle.grammar.proofs.Complete.{accept, belongs_accepted, signs_words}
use Rattle.grammar.proofs.Sound.{Passed, AllPassed, accepted_belongs}
use Rattle.grammar.proofs.Limits.{every_over, over_every, belongs_passed, height-moves}

-- nowhere are more than 200 open
abbrev pub Low : ℕ → List ℕ → Type 0
Low h r = (p : ℕ) → level h (take p r) ≤ 200

pub low_end : (h : ℕ) → h ≤ 200 → Low h []
unfolding level
low_end h l p = rw (take-nil {A = ℕ} p) l

pub low_on : (h c : ℕ) (r : List ℕ) → h ≤ 200 → Low (moved h c) r → Low h (c ∷ r)
unfolding level
low_on h c r l f zero = l
low_on h c r l f (suc p) = f p

module _ (n : ℕ) where
  abbrev pub Small : ℕ → Type 0
  Small a = a ≤ n

  pub above-passed : (s : State ℕ) → above n s ≡ false → Passed byte_of Small s
  above-passed (unit p d k w) e = tt
  above-passed (digits a m p d k w) e = ltb-false n a e
  above-passed (done p k w) e = tt
  above-passed (after_tee p d k w) e = tt
  above-passed (after_aitch p d k w) e = tt
  above-passed (after_set h p d k w) e = tt
  above-passed (after_first p d k w) e = tt
  above-passed (after_sign o p d k w) e = tt

  pub passed-above : (s : State ℕ) → Passed byte_of Small s → above n s ≡ false
  passed-above (unit p d k w) g = refl
  passed-above (digits a m p d k w) g = le-ltb n a g
  passed-above (done p k w) g = refl
  passed-above (after_tee p d k w) g = refl
  passed-above (after_aitch p d k w) g = refl
  passed-above (after_set h p d k w) g = refl
  passed-above (after_first p d k w) g = refl
  passed-above (after_sign o p d k w) g = refl

  pub record ReadTo (s : State ℕ) (r w : List ℕ) : Type 0 where
    pub accepted : accept byte_of s r ≡ some w
    pub passed : AllPassed byte_of Small s r
    pub low : Low (height s) r

  plan_same : {w v : List ℕ} → Plan w ≡ Plan v → w ≡ v
  plan_same e = cc

  no_plan : {C : Type 0} {k q : ℕ} {w : List ℕ} → ◌≡◌ {A = Parse} (Fault k q) (Plan w) → C
  no_plan e = let z : ◌≡◌ {A = ℕ} 0 1 = cc in absurd (omega arith)

  read-accepted : (q : ℕ) (s : State ℕ) (r w : List ℕ) → height s ≤ 200 → read_from n q s r ≡ Plan w → ReadTo s r w
  unfolding read_from accept AllPassed
  read-accepted q s [] w l e = ended (finish byte_of s) refl e
    where
      ended : (m : Option (List ℕ)) → finish byte_of s ≡ m → on_option m (Fault 61 q) (λ v. Plan v) ≡ Plan w → ReadTo s [] w
      ended none f e = no_plan e
      ended (some v) f e = record { accepted = f ∙ ap some (plan_same e); passed = tt; low = low_end (height s) l }
  read-accepted q s (c ∷ r) w l e = stepped (step byte_of s c) refl e (λ s' h f. read-accepted (suc q) s' r w h f)
    where
      goes : (s' : State ℕ) → step byte_of s c ≡ some s' → above n s' ≡ false → ReadTo s' r w → ReadTo s (c ∷ r) w
      goes s' f g i =
          record {
            accepted = ap (λ (m : Option (State ℕ)). and_then m (λ z. accept byte_of z r)) f ∙ i.accepted;
            passed = λ z h. subst (λ z. Passed byte_of Small z × AllPassed byte_of Small z r) (some-injective _ _ (sym f ∙ h)) (above-passed s' g, i.passed);
            low = low_on (height s) c r l (subst (λ h. Low h r) (height-moves byte_of c s s' f) i.low);
          }

      Later : Type 0
      Later = (s' : State ℕ) → height s' ≤ 200 → read_from n (suc q) s' r ≡ Plan w → ReadTo s' r w

      tested : Later → (s' : State ℕ) → step byte_of s c ≡ some s' → (a b : Bool) → above n s' ≡ a → ltb 200 (height s') ≡ b
          → cond a (Fault 61 (first_digit q s')) (cond b (Fault 62 q) (read_from n (suc q) s' r)) ≡ Plan w → ReadTo s (c ∷ r) w
      tested j s' f true b g h e = no_plan e
      tested j s' f false true g h e = no_plan e
      tested j s' f false false g h e = goes s' f g (j s' (ltb-false 200 (height s') h) e)

      stepped : (m : Option (State ℕ)) → step byte_of s c ≡ m → on_option m (Fault 61 q) (λ s'. limited n q s' (λ s''. read_from n (suc q) s'' r)) ≡ Plan w → Later → ReadTo s (c ∷ r) w
      stepped none f e j = no_plan e
      stepped (some s') f e j = tested j s' f (above n s') (ltb 200 (height s')) refl refl e

  accepted-read : (q : ℕ) (s : State ℕ) (r w : List ℕ) → ReadTo s r w → read_from n q s r ≡ Plan w
  unfolding read_from accept AllPassed level
  accepted-read q s [] w x = ap (λ (m : Option (List ℕ)). on_option m (Fault 61 q) (λ v. Plan v)) x.accepted
  accepted-read q s (c ∷ r) w x =
      let i = and_then_some (step byte_of s c) _ x.accepted in
      let g = x.passed i.0 i.1 in
      let h : Low (height i.0) r = subst (λ h. Low h r) (sym (height-moves byte_of c s i.0 i.1)) (λ p. x.low (suc p)) in
      ap (λ (m : Option (State ℕ)). on_option m (Fault 61 q) (λ s'. limited n q s' (λ s''. read_from n (suc q) s'' r))) i.1
      ∙ rw (passed-above i.0 g.0, le-ltb 200 (height i.0) (h 0)) (accepted-read (suc q) i.0 r w (record { accepted = i.2; passed = g.1; low = h }))

pub read_exactly : (n : ℕ) (text w : List ℕ) → (read_text n text ≡ Plan w) ↔ ReadAs n text w
unfolding read_text
read_exactly n text w = (
  λ e.
      let x = read-accepted n 0 start text w (omega arith) e in
      let y = accepted_belongs byte_of (Small n) text w x.passed x.accepted in
      record {
        term = y.plan;
        made = y.made;
        spelled = sym (y.said ∙ signs_words y.plan);
        over = every_over n y.made y.each;
        within = x.low;
      },
  λ x.
      accepted-read n 0 start text w
      (record {
        accepted = belongs_accepted byte_of x.made ∙ ap some (signs_words x.term ∙ x.spelled);
        passed = belongs_passed byte_of n x.made (over_every n x.term x.over);
        low = x.within;
      }),
)

-- 61 and 62 stand at the first fault of the text, and a text that is read has none.
use Prim.Native.Nat.{ℕ, zero, suc, ◌+◌, ◌-◌, ◌*◌, ◌≤◌, ◌<◌}
use native.Mathlib.Omega.{arith}
use native.Mathlib.Numerals.{add-one}
use mathlib.Core.Path.{◌≡◌, refl, sym, ap, ◌∙◌, subst}
use mathlib.Core.Bool.{Bool, true, false, cond}
use mathlib.Core.List.{List, [], ◌∷◌, ◌++◌, append_assoc, append-nil}
use mathlib.Core.Logic.{◌↔◌}
use mathlib.Core.Option.{Option, none, some}
use lib.ListN.{length, get_or, take, drop, length-append, length-drop, take-append-drop}
use lib.Seq.{take_all, take-append-le, take-append_seam, drop-append_seam, take-append-add, length-take-le, get_or-append_seam, get_or-drop}
use lib.Dec.{eqb, leb, ltb}
use borrow.Author.Tests.{ltb-true, ltb-false, lt-ltb, le-ltb, eqb-true, ne_eqb, leb-true, leb-false}
use Rattle.plans.specs.Term.{and_then}
use Rattle.plans.proofs.Options.{never, and_then_some}
use Rattle.grammar.specs.Character.{opening, closing, tee, nought}
use Rattle.grammar.specs.Grammar.{Decimal, digit, more, Belongs, Begins, level, moved}
use Rattle.grammar.specs.Fault.{ExpectsUnit, FaultOf, cannot_go_on, early, large, deep, FirstFault}
use Rattle.grammar.specs.States.{Frame, State, unit, digits, done, after_tee, after_aitch, after_set, after_first, after_sign, step, finish, height}
use Rattle.grammar.specs.Reading.{start, byte_of, Parse, Plan, Fault, above, first_digit, on_option, limited, read_from, read_text}
use Rattle.grammar.proofs.Complete.{signs, accept, belongs_accepted, digit-read}
use Rattle.grammar.proofs.Sound.{Told, fresh, nothing, next_told}
use Rattle.grammar.proofs.Limits.{height-moves}
use Rattle.grammar.proofs.Exact.{read_exactly}
use Rattle.grammar.proofs.Begins.{Any, any-passed, told_begins}

false_true : {C : Type 0} → false ≡ true → C
false_true e = let z : ◌≡◌ {A = ℕ} 0 1 = cc in absurd (omega arith)

module _ (n : ℕ) where
  -- the states on the way through a text, all within the limits
  pub data Reached : List ℕ → State ℕ → Type 0 where
    at_start : Reached [] start
    next : {t : List ℕ} {s s' : State ℕ} (c : ℕ) → Reached t s → step byte_of s c ≡ some s' → above n s' ≡ false → height s' ≤ 200 → Reached (t ++ (c ∷ [])) s'

  -- where reading stops
  pub data Stops (text : List ℕ) : ℕ → ℕ → Type 0 where
    bad_end : {s : State ℕ} → Reached text s → finish byte_of s ≡ none → Stops text 61 (length text)
    bad_character : {t : List ℕ} {s : State ℕ} (c : ℕ) (r : List ℕ) → text ≡ t ++ (c ∷ r) → Reached t s → step byte_of s c ≡ none → Stops text 61 (length t)
    bad_action : {t : List ℕ} {s : State ℕ} (c : ℕ) (r : List ℕ) (s' : State ℕ) → text ≡ t ++ (c ∷ r) → Reached t s → step byte_of s c ≡ some s' → above n s' ≡ true
        → Stops text 61 (first_digit (length t) s')
    bad_bracket : {t : List ℕ} {s : State ℕ} (c : ℕ) (r : List ℕ) (s' : State ℕ) → text ≡ t ++ (c ∷ r) → Reached t s → step byte_of s c ≡ some s' → 200 < height s'
        → Stops text 62 (length t)

  pub data Finds (text : List ℕ) : Parse → Type 0 where
    reads : {w : List ℕ} {s : State ℕ} → Reached text s → finish byte_of s ≡ some w → Finds text (Plan w)
    stops : {k p : ℕ} → Stops text k p → Finds text (Fault k p)

  -- reading goes on from each of them
  find : (text t r : List ℕ) (s : State ℕ) → text ≡ t ++ r → Reached t s → Finds text (read_from n (length t) s r)
  unfolding read_from
  find text t [] s e x = ended (finish byte_of s) refl
    where
      e' : t ≡ text
      e' = sym (e ∙ append-nil t)

      ended : (m : Option (List ℕ)) → finish byte_of s ≡ m → Finds text (on_option m (Fault 61 (length t)) (λ v. Plan v))
      ended none f = rw (ap length e') (stops (bad_end {s = s} (rw (← e') x) f))
      ended (some v) f = reads {s = s} (rw (← e') x) f
  find text t (c ∷ r) s e x =
      stepped (step byte_of s c) refl
      (λ s' y. subst (λ h. Finds text (read_from n h s' r)) (length-append t (c ∷ []) ∙ add-one (length t)) (find text (t ++ (c ∷ [])) r s' (e ∙ sym (append_assoc t (c ∷ []) r)) y))
    where
      tested : (s' : State ℕ) → step byte_of s c ≡ some s' → (a b : Bool) → above n s' ≡ a → ltb 200 (height s') ≡ b
          → (Reached (t ++ (c ∷ [])) s' → Finds text (read_from n (suc (length t)) s' r))
          → Finds text (cond a (Fault 61 (first_digit (length t) s')) (cond b (Fault 62 (length t)) (read_from n (suc (length t)) s' r)))
      tested s' f true b g h j = stops (bad_action c r s' e x f g)
      tested s' f false true g h j = stops (bad_bracket c r s' e x f (ltb-true 200 (height s') h))
      tested s' f false false g h j = j (next c x f g (ltb-false 200 (height s') h))

      stepped : (m : Option (State ℕ)) → step byte_of s c ≡ m
          → ((s' : State ℕ) → Reached (t ++ (c ∷ [])) s' → Finds text (read_from n (suc (length t)) s' r))
          → Finds text (on_option m (Fault 61 (length t)) (λ s'. limited n (length t) s' (λ s''. read_from n (suc (length t)) s'' r)))
      stepped none f j = stops (bad_character c r e x f)
      stepped (some s') f j = tested s' f (above n s') (ltb 200 (height s')) refl refl (j s')

  pub found : (text : List ℕ) → Finds text (read_text n text)
  unfolding read_text
  found text = find text [] text start refl at_start

  -- what a state that is reached tells
  reached_told : {t : List ℕ} {s : State ℕ} → Reached t s → Told byte_of Any t s
  reached_told at_start = fresh nothing
  reached_told (next {t = t} {s = s} {s' = s'} c x e f h) = next_told byte_of Any t c s s' (reached_told x) e (any-passed byte_of s')

  reached_begins : {t : List ℕ} {s : State ℕ} → Reached t s → Begins t
  reached_begins {t} {s} x = told_begins byte_of t s (reached_told x)

  reached_accept : {t : List ℕ} {s : State ℕ} → Reached t s → (r : List ℕ) → accept byte_of start (t ++ r) ≡ accept byte_of s r
  unfolding accept
  reached_accept at_start r = refl
  reached_accept (next {t = t} {s = s} c x e f h) r =
      ap (accept byte_of start) (append_assoc t (c ∷ []) r) ∙ (reached_accept x (c ∷ r) ∙ ap (λ (m : Option (State ℕ)). and_then m (λ z. accept byte_of z r)) e)

  reached_read : {t : List ℕ} {s : State ℕ} → Reached t s → (r : List ℕ) → read_from n 0 start (t ++ r) ≡ read_from n (length t) s r
  unfolding read_from
  reached_read at_start r = refl
  reached_read (next {t = t} {s = s} {s' = s'} c x e f h) r =
      ap (read_from n 0 start) (append_assoc t (c ∷ []) r)
      ∙ (reached_read x (c ∷ r)
      ∙ (ap (λ (m : Option (State ℕ)). on_option m (Fault 61 (length t)) (λ z. limited n (length t) z (λ y. read_from n (suc (length t)) y r))) e
      ∙ rw (f, le-ltb 200 (height s') h, length-append t (c ∷ []), add-one (length t))))

  level_snoc : (h : ℕ) (t : List ℕ) (c : ℕ) → level h (t ++ (c ∷ [])) ≡ moved (level h t) c
  unfolding level
  level_snoc h [] c = refl
  level_snoc h (b ∷ t) c = level_snoc (moved h b) t c

  reached_height : {t : List ℕ} {s : State ℕ} → Reached t s → level 0 t ≡ height s
  unfolding level
  reached_height at_start = refl
  reached_height (next {t = t} {s = s} {s' = s'} c x e f h) = level_snoc 0 t c ∙ (ap (λ m. moved m c) (reached_height x) ∙ sym (height-moves byte_of c s s' e))

  reached_low : {t : List ℕ} {s : State ℕ} → Reached t s → level 0 t ≤ 200
  unfolding level
  reached_low at_start = omega arith
  reached_low (next c x e f h) = omega (arith, reached_height (next c x e f h))

  reached_before : {t : List ℕ} {s : State ℕ} → Reached t s → (j : ℕ) → j ≤ length t → (s' : State ℕ) × Reached (take j t) s'
  reached_before at_start zero h = (start, at_start)
  reached_before at_start (suc j) h = absurd (omega arith)
  reached_before (next {t = t} {s' = s'} c x e f g) j h = split (leb j (length t)) refl (λ l. reached_before x j l)
    where
      split : (b : Bool) → leb j (length t) ≡ b → (j ≤ length t → (s' : State ℕ) × Reached (take j t) s') → (s' : State ℕ) × Reached (take j (t ++ (c ∷ []))) s'
      split true i y = let l = leb-true j (length t) i in rw (take-append-le j t (c ∷ []) l) (y l)
      split false i y =
          let l = leb-false j (length t) i in
          (s', rw (take_all j (t ++ (c ∷ [])) (omega (arith, length-append t (c ∷ [])))) (next c x e f g))

  -- a number is read whole while it is at most n, and refused at its first digit as soon as it is larger
  module _ (q : ℕ) (p d : Bool) (k : List Frame) (w : List ℕ) (l : length k ≤ 200) where
    decimal_small : {x : List ℕ} {a : ℕ} → Decimal x a → (r : List ℕ) → a ≤ n
        → read_from n q (unit p d k w) (x ++ r) ≡ read_from n (q + length x) (digits a (length x) p d k w) r
    unfolding read_from step
    decimal_small (digit {d = b} h) r g = rw (digit-read b h, le-ltb n b g, le-ltb 200 (length k) l) (ap (λ z. read_from n z (digits b 1 p d k w) r) (omega arith))
    decimal_small (more {s = x} {a = a} {d = b} y f h) r g =
        ap (read_from n q (unit p d k w)) (append_assoc x ((nought + b) ∷ []) r)
        ∙ (decimal_small y ((nought + b) ∷ r) (omega arith)
        ∙ rw (digit-read b h, ne_eqb a 0 (λ e. omega arith), le-ltb n (10 * a + b) g, le-ltb 200 (length k) l, length-append x ((nought + b) ∷ []), add-one (length x))
        (ap (λ z. read_from n z (digits (10 * a + b) (suc (length x)) p d k w) r) (omega arith)))

    decimal-large : {x : List ℕ} {a : ℕ} → Decimal x a → (r : List ℕ) → n < a → read_from n q (unit p d k w) (x ++ r) ≡ Fault 61 q
    unfolding read_from step
    decimal-large (digit {d = b} h) r g = rw (digit-read b h, lt-ltb n b g) (ap (Fault 61) (omega arith))
    decimal-large (more {s = x} {a = a} {d = b} y f h) r g =
        ap (read_from n q (unit p d k w)) (append_assoc x ((nought + b) ∷ []) r) ∙ grown (ltb n a) refl (λ i. decimal-large y ((nought + b) ∷ r) i)
      where
        grown : (t : Bool) → ltb n a ≡ t → (n < a → read_from n q (unit p d k w) (x ++ ((nought + b) ∷ r)) ≡ Fault 61 q)
            → read_from n q (unit p d k w) (x ++ ((nought + b) ∷ r)) ≡ Fault 61 q
        grown true e j = j (ltb-true n a e)
        grown false e j =
            decimal_small y ((nought + b) ∷ r) (ltb-false n a e)
            ∙ rw (digit-read b h, ne_eqb a 0 (λ e. omega arith), lt-ltb n (10 * a + b) g) (ap (Fault 61) (omega arith))

  -- only a unit begins with `T`
  record UnitState (s : State ℕ) : Type 0 where
    plus_waits : Bool
    dot_waits : Bool
    open_frames : List Frame
    out : List ℕ
    is : s ≡ unit plus_waits dot_waits open_frames out

  tee-unit : (s s' : State ℕ) → step byte_of s tee ≡ some s' → UnitState s
  unfolding step
  tee-unit (unit p d k w) s' e = record { plus_waits = p; dot_waits = d; open_frames = k; out = w; is = refl }
  tee-unit (digits a m p d k w) s' e = never e
  tee-unit (done p k w) s' e = never e
  tee-unit (after_tee p d k w) s' e = never e
  tee-unit (after_aitch p d k w) s' e = never e
  tee-unit (after_set h p d k w) s' e = never e
  tee-unit (after_first p d k w) s' e = never e
  tee-unit (after_sign o p d k w) s' e = never e

  expects_unit : {t : List ℕ} {s : State ℕ} → Reached t s → ExpectsUnit t → UnitState s
  unfolding accept
  expects_unit {t} {s} x b =
      let e : accept byte_of s (tee ∷ b.0) ≡ some (signs byte_of b.1.0) =
      sym (reached_accept x (tee ∷ b.0)) ∙ (ap (accept byte_of start) (sym (append_assoc t (tee ∷ []) b.0)) ∙ belongs_accepted byte_of b.1.1) in
      let i = and_then_some (step byte_of s tee) _ e in
      tee-unit s i.0 i.1

  large-read : {t : List ℕ} {s : State ℕ} {x : List ℕ} {a : ℕ} → Reached t s → ExpectsUnit t → (r : List ℕ) → Decimal x a → n < a → read_from n 0 start (t ++ (x ++ r)) ≡ Fault 61 (length t)
  large-read {t} {s} {x} y b r z g =
      let i = expects_unit y b in
      let l : length i.open_frames ≤ 200 = omega (arith, reached_low y, reached_height y ∙ ap height i.is) in
      reached_read y (x ++ r)
      ∙ (ap (λ v. read_from n (length t) v (x ++ r)) i.is
      ∙ decimal-large (length t) i.plus_waits i.dot_waits i.open_frames i.out l z r g)

  -- a fault before a place that is reached is what reading answers
  fault-before : (text t r : List ℕ) (s : State ℕ) {k p : ℕ} → text ≡ t ++ r → Reached t s → FaultOf n text k p → p < length t → read_text n text ≡ Fault k p
  unfolding read_text
  fault-before text t r s e x (cannot_go_on {p = p} h b c) l =
      absurd (c (rw (e, take-append-le (suc p) t r l) (reached_begins (reached_before x (suc p) l).1)))
  fault-before text t r s e x (early b c) l = absurd (omega (arith, ap length e, length-append t r))
  fault-before text t r s e x (large {p = p} {s = d} v b f z g) l =
      let h : take p text ≡ take p t = ap (take p) e ∙ take-append-le p t r (omega arith) in
      let y = reached_before x p (omega arith) in
      let i = large-read y.1 (rw h at b) v z g in
      ap (read_from n 0 start) (sym (take-append-drop p text) ∙ (ap (λ m. m ++ drop p text) h ∙ ap (λ m. take p t ++ m) f))
      ∙ (i ∙ ap (Fault 61) (length-take-le p t (omega arith)))
  fault-before text t r s e x (deep {p = p} h b c g) l =
      absurd (omega (arith, reached_low (reached_before x (suc p) l).1, ap (level 0) (ap (take (suc p)) e ∙ take-append-le (suc p) t r l)))

  -- the other way: where reading stops there is a fault
  not_none : {A C : Type 0} {a : A} (m : Option A) → m ≡ none → m ≡ some a → C
  not_none m e f = never (sym e ∙ f)

  snoc_take : (t : List ℕ) (c : ℕ) (r : List ℕ) → take (suc (length t)) (t ++ (c ∷ r)) ≡ t ++ (c ∷ [])
  snoc_take t c r = ap (λ m. take m (t ++ (c ∷ r))) (sym (add-one (length t))) ∙ take-append-add t (c ∷ r) 1

  inside : (text t : List ℕ) (c : ℕ) (r : List ℕ) → text ≡ t ++ (c ∷ r) → length t < length text
  inside text t c r e = omega (arith, ap length e, length-append t (c ∷ r))

  not_whole : {text : List ℕ} {s : State ℕ} → Reached text s → finish byte_of s ≡ none → Belongs text → ⊥
  unfolding accept
  not_whole {text} {s} x f b =
      not_none (finish byte_of s) f (sym (reached_accept x []) ∙ (ap (accept byte_of start) (append-nil text) ∙ belongs_accepted byte_of b.1))

  not_on : {t : List ℕ} {s : State ℕ} (c : ℕ) → Reached t s → step byte_of s c ≡ none → Begins (t ++ (c ∷ [])) → ⊥
  unfolding accept
  not_on {t} {s} c x f b =
      let e : accept byte_of s (c ∷ b.0) ≡ some (signs byte_of b.1.0) =
      sym (reached_accept x (c ∷ b.0)) ∙ (ap (accept byte_of start) (sym (append_assoc t (c ∷ []) b.0)) ∙ belongs_accepted byte_of b.1.1) in
      let i = and_then_some (step byte_of s c) _ e in
      not_none (step byte_of s c) f i.1

  step-begins : {t : List ℕ} {s : State ℕ} (c : ℕ) (s' : State ℕ) → Reached t s → step byte_of s c ≡ some s' → Told byte_of Any (t ++ (c ∷ [])) s'
  step-begins {t} {s} c s' x f = next_told byte_of Any t c s s' (reached_told x) f (any-passed byte_of s')

  -- a number above n
  decimal-long : {x : List ℕ} {a : ℕ} → Decimal x a → 1 ≤ length x
  decimal-long (digit h) = omega arith
  decimal-long (more {s = x} {d = b} y f h) = omega (arith, length-append x ((nought + b) ∷ []))

  number-fault : (text t : List ℕ) (c : ℕ) (r : List ℕ) (a m : ℕ) (p d : Bool) (k : List Frame) (w : List ℕ) → text ≡ t ++ (c ∷ r) → Told byte_of Any (t ++ (c ∷ [])) (digits a m p d k w) → n < a
      → FaultOf n text 61 (suc (length t) - m)
  number-fault text t c r a m p d k w e x g =
      let h : text ≡ x.before ++ (x.part ++ r) =
      e ∙ (sym (append_assoc t (c ∷ []) r) ∙ (ap (λ z. z ++ r) x.split ∙ append_assoc x.before x.part r)) in
      let i : suc (length t) - m ≡ length x.before =
      omega (arith, x.is.1, length-append t (c ∷ []), length-append x.before x.part, ap length x.split) in
      let u : take (length x.before) text ≡ x.before = ap (take (length x.before)) h ∙ take-append_seam x.before (x.part ++ r) in
      let v : drop (length x.before) text ≡ x.part ++ r = ap (drop (length x.before)) h ∙ drop-append_seam x.before (x.part ++ r) in
      let b : ExpectsUnit x.before =
      told_begins byte_of (x.before ++ (tee ∷ [])) (after_tee p d k w) (record { before = x.before; part = tee ∷ []; awaits = x.awaits; is = refl; split = refl }) in
      rw i (large {p = length x.before} r (rw u b) v x.is.0 g)

  above-large : (text t : List ℕ) (c : ℕ) (r : List ℕ) (s' : State ℕ) → text ≡ t ++ (c ∷ r) → Told byte_of Any (t ++ (c ∷ [])) s' → above n s' ≡ true
      → FaultOf n text 61 (first_digit (length t) s') × (first_digit (length t) s' ≤ length t)
  above-large text t c r (unit p d k w) e x g = false_true g
  above-large text t c r (digits a m p d k w) e x g =
      (number-fault text t c r a m p d k w e x (ltb-true n a g), omega (arith, decimal-long x.is.0, x.is.1))
  above-large text t c r (done p k w) e x g = false_true g
  above-large text t c r (after_tee p d k w) e x g = false_true g
  above-large text t c r (after_aitch p d k w) e x g = false_true g
  above-large text t c r (after_set h p d k w) e x g = false_true g
  above-large text t c r (after_first p d k w) e x g = false_true g
  above-large text t c r (after_sign o p d k w) e x g = false_true g

  -- a bracket too deep
  deeper_opens : (h c : ℕ) → h ≤ 200 → 200 < moved h c → c ≡ opening
  deeper_opens h c l g = tested (eqb c opening) (eqb c closing) refl g
    where
      tested : (a b : Bool) → eqb c opening ≡ a → 200 < cond a (suc h) (cond b (h - 1) h) → c ≡ opening
      tested true b e g = eqb-true c opening e
      tested false true e g = absurd (omega arith)
      tested false false e g = absurd (omega arith)

  bracket-fault : (text t : List ℕ) (c : ℕ) (r : List ℕ) (s s' : State ℕ) → text ≡ t ++ (c ∷ r) → Reached t s → step byte_of s c ≡ some s' → 200 < height s' → FaultOf n text 62 (length t)
  bracket-fault text t c r s s' e x f g =
      let u : take (suc (length t)) text ≡ t ++ (c ∷ []) = ap (take (suc (length t))) e ∙ snoc_take t c r in
      let v : level 0 (take (suc (length t)) text) ≡ height s' =
      ap (level 0) u ∙ (level_snoc 0 t c ∙ (ap (λ m. moved m c) (reached_height x) ∙ sym (height-moves byte_of c s s' f))) in
      let o : c ≡ opening = deeper_opens (height s) c (omega (arith, reached_low x, reached_height x)) (rw (← height-moves byte_of c s s' f) g) in
      deep (inside text t c r e) (rw u (told_begins byte_of (t ++ (c ∷ [])) s' (step-begins c s' x f))) (ap (λ l. get_or l (length t) 0) e ∙ (get_or-append_seam t c r 0 ∙ o)) (omega arith)

  -- what a stop is, and what was reached before it
  record Stopped (text : List ℕ) (k p : ℕ) : Type 0 where
    fault : FaultOf n text k p
    before : List ℕ
    rest : List ℕ
    state : State ℕ
    split : text ≡ before ++ rest
    reached : Reached before state
    behind : p ≤ length before

  stop-fault : (text : List ℕ) {k p : ℕ} → Stops text k p → Stopped text k p
  stop-fault text (bad_end {s = s} x f) =
      record { fault = early (reached_begins x) (not_whole x f); before = text; rest = []; state = s; split = sym (append-nil text); reached = x; behind = omega arith }
  stop-fault text (bad_character {t = t} {s = s} c r e x f) =
      record {
        fault =
            cannot_go_on (inside text t c r e) (rw (e, take-append_seam t (c ∷ r)) (reached_begins x))
            (λ b. not_on c x f (subst Begins (ap (take (suc (length t))) e ∙ snoc_take t c r) b));
        before = t;
        rest = c ∷ r;
        state = s;
        split = e;
        reached = x;
        behind = omega arith;
      }
  stop-fault text (bad_action {t = t} {s = s} c r s' e x f g) =
      let i = above-large text t c r s' e (step-begins c s' x f) g in
      record { fault = i.0; before = t; rest = c ∷ r; state = s; split = e; reached = x; behind = i.1 }
  stop-fault text (bad_bracket {t = t} {s = s} c r s' e x f g) =
      record { fault = bracket-fault text t c r s s' e x f g; before = t; rest = c ∷ r; state = s; split = e; reached = x; behind = omega arith }

  -- no two kinds of fault stand at one place
  abbrev OpensAt : List ℕ → ℕ → Type 0
  OpensAt text p = (p < length text) × Begins (take (suc p) text) × (get_or text p 0 ≡ opening)

  data Kind (text : List ℕ) (k p : ℕ) : Type 0 where
    other : k ≡ 61 → (OpensAt text p → ⊥) → Kind text k p
    bracket : k ≡ 62 → OpensAt text p → Kind text k p

  decimal_head : {x : List ℕ} {a : ℕ} → Decimal x a → (r : List ℕ) → get_or (x ++ r) 0 0 ≡ opening → ⊥
  decimal_head (digit h) r e = omega arith
  decimal_head (more {s = x} {d = b} y f h) r e = decimal_head y (((nought + b) ∷ []) ++ r) (ap (λ z. get_or z 0 0) (sym (append_assoc x ((nought + b) ∷ []) r)) ∙ e)

  kind : {text : List ℕ} {k p : ℕ} → FaultOf n text k p → Kind text k p
  kind (cannot_go_on h b c) = other refl (λ o. c o.1)
  kind (early b c) = other refl (λ o. omega (arith, o.0))
  kind {text} (large {p = p} r b f z g) = other refl (λ o. decimal_head z r (ap (λ l. get_or l 0 0) (sym f) ∙ (get_or-drop p text 0 0 ∙ (ap (λ q. get_or text q 0) (omega arith) ∙ o.2))))
  kind (deep h b c g) = bracket refl (h, b, c)

  one_kind : {text : List ℕ} {k j p : ℕ} → Kind text k p → Kind text j p → k ≡ j
  one_kind (other e f) (other g h) = e ∙ sym g
  one_kind (other e f) (bracket g h) = absurd (f h)
  one_kind (bracket e f) (other g h) = absurd (h f)
  one_kind (bracket e f) (bracket g h) = e ∙ sym g

  fault_same : {k j p q : ℕ} → ◌≡◌ {A = Parse} (Fault k p) (Fault j q) → (k ≡ j) × (p ≡ q)
  fault_same e = (cc, cc)

  fault-plan : {C : Type 0} {k p : ℕ} {w : List ℕ} → ◌≡◌ {A = Parse} (Fault k p) (Plan w) → C
  fault-plan e = let z : ◌≡◌ {A = ℕ} 0 1 = cc in absurd (omega arith)

  not_late : {text : List ℕ} {k p : ℕ} → Belongs text → FaultOf n text k p → length text ≤ p → ⊥
  not_late m (cannot_go_on h b c) l = omega arith
  not_late m (early b c) l = c m
  not_late {text} m (large {p = p} {s = x} r b f z g) l = omega (arith, decimal-long z, ap length f, length-append x r, length-drop p text)
  not_late m (deep h b c g) l = omega arith

  -- a text that is read has no fault
  pub read_faultless : (text w : List ℕ) {k p : ℕ} → read_text n text ≡ Plan w → FaultOf n text k p → ⊥
  read_faultless text w {k} {p} e x = reached (rw e at (found text))
    where
      nearer : (s : State ℕ) → Reached text s → (b : Bool) → ltb p (length text) ≡ b → ⊥
      nearer s z true f = fault-plan (sym (fault-before text text [] s (sym (append-nil text)) z x (ltb-true p (length text) f)) ∙ e)
      nearer s z false f = not_late (let y = (read_exactly n text w).0 e in (y.term, y.made)) x (ltb-false p (length text) f)

      reached : Finds text (Plan w) → ⊥
      reached (reads {s = s} z f) = nearer s z (ltb p (length text)) refl

  stopped-first : (text : List ℕ) (k p : ℕ) → read_text n text ≡ Fault k p → Finds text (Fault k p) → FirstFault n text k p
  stopped-first text k p e (stops x) =
      let i = stop-fault text x in
      record {
        fault = i.fault;
        first = λ {j} {q} y. nearer j q y i (ltb q (length i.before)) refl;
      }
    where
      nearer : (j q : ℕ) → FaultOf n text j q → (i : Stopped text k p) → (b : Bool) → ltb q (length i.before) ≡ b → p ≤ q
      nearer j q y i true f =
          let g = fault-before text i.before i.rest i.state i.split i.reached y (ltb-true q (length i.before) f) in
          omega (arith, (fault_same (sym e ∙ g)).1)
      nearer j q y i false f = omega (arith, ltb-false q (length i.before) f, i.behind)

  -- "of these the first in the text counts"
  pub refused_exactly : (text : List ℕ) (k p : ℕ) → (read_text n text ≡ Fault k p) ↔ FirstFault n text k p
  refused_exactly text k p = (λ e. stopped-first text k p e (rw e at (found text)), λ x. back x (read_text n text) refl)
    where
      back : FirstFault n text k p → (a : Parse) → read_text n text ≡ a → read_text n text ≡ Fault k p
      back x (Plan w) e = absurd (read_faultless text w e x.fault)
      back x (Fault j q) e =
          let y = stopped-first text j q e (rw e at (found text)) in
          let f : q ≡ p = omega (arith, x.first y.fault, y.first x.fault) in
          let g : FaultOf n text j p = subst (λ z. FaultOf n text j z) f y.fault in
          let h : j ≡ k = one_kind (kind g) (kind x.fault) in
          e ∙ cc

  -- a fault is 61 or 62
  fault-number : {text : List ℕ} {k p : ℕ} → FaultOf n text k p → (61 ≤ k) × (k ≤ 62)
  fault-number (cannot_go_on h b c) = (omega arith, omega arith)
  fault-number (early b c) = (omega arith, omega arith)
  fault-number (large r b f z g) = (omega arith, omega arith)
  fault-number (deep h b c g) = (omega arith, omega arith)

  pub read_number : (text : List ℕ) (k p : ℕ) → read_text n text ≡ Fault k p → (61 ≤ k) × (k ≤ 62)
  read_number text k p e = fault-number ((refused_exactly text k p).0 e).fault

-- How the three readers are made of each other: one rule for each way that their code takes.
use Prim.Native.Nat.{ℕ, suc, ◌+◌, ◌-◌, ◌*◌, ◌≤◌, ◌<◌}
use native.Mathlib.Omega.{arith}
use mathlib.Core.Path.{◌≡◌, refl, sym, ap, ◌∙◌}
use mathlib.Core.Bool.{Bool, true, false, cond}
use mathlib.Core.List.{List, [], ◌∷◌, ◌++◌, append_assoc, append-nil}
use mathlib.Core.Option.{Option, none, some}
use lib.ListN.{length}
use lib.Dec.{eqb}
use borrow.Author.Tests.{lt-ltb, le-ltb, ne_eqb}
use Rattle.plans.specs.declared.Binary.{Binary}
use Rattle.plans.specs.Word.{binary_word}
use Rattle.grammar.specs.declared.Bracket.{Bracket}
use Rattle.grammar.specs.declared.Bracket.TheVariants.{Plain, OfPriority, OfSet, Second}
use Rattle.grammar.specs.Character.{plus, dot, opening, closing, tee, aitch, blank}
use Rattle.grammar.specs.States.{digit_of, set_of, between_of, Frame, frame, State, unit, digits, done, after_tee, after_aitch, after_set, after_first, after_sign, followed, closed, step, finish, height}
use Rattle.grammar.specs.Reading.{byte_of, Plan, Fault, above, on_option, limited, read_from, read_text}
use Rattle.texts.specs.Readers.{UnitReads, ProductReads, SumReads, UnitStops, ProductStops, SumStops, next_is, next_numeral, next_between, plain?, Enters}

-- the digits of an action from place q up to place q', of value a
abbrev pub DigitsRead : ℕ → ℕ → ℕ → List ℕ → ℕ → List ℕ → ℕ → Type 0
DigitsRead n d q r q' r' a = (p e : Bool) (k : List Frame) (v : List ℕ) → length k ≡ d
    → read_from n q (unit p e k v) r ≡ read_from n q' (digits a (q' - q) p e k v) r'

module _ (n : ℕ) where
  -- one character
  goes : (q : ℕ) (s s' : State ℕ) (c : ℕ) (r : List ℕ) → step byte_of s c ≡ some s' → above n s' ≡ false → height s' ≤ 200 → read_from n q s (c ∷ r) ≡ read_from n (suc q) s' r
  unfolding read_from
  goes q s s' c r e f h =
      ap (λ (m : Option (State ℕ)). on_option m (Fault 61 q) (λ z. limited n q z (λ y. read_from n (suc q) y r))) e ∙ rw (f, le-ltb 200 (height s') h)

  sticks : (q : ℕ) (s : State ℕ) (c : ℕ) (r : List ℕ) → step byte_of s c ≡ none → read_from n q s (c ∷ r) ≡ Fault 61 q
  unfolding read_from
  sticks q s c r e = ap (λ (m : Option (State ℕ)). on_option m (Fault 61 q) (λ z. limited n q z (λ y. read_from n (suc q) y r))) e

  -- a unit that begins with no digit, bracket, T or H
  pub unit_sticks : (d q c : ℕ) (r : List ℕ) → digit_of c ≡ none → eqb c opening ≡ false → eqb c tee ≡ false → eqb c aitch ≡ false → UnitStops n d q (c ∷ r) 61 q
  unfolding step
  unit_sticks d q c r e f g h p w k v l = sticks q (unit p w k v) c r (rw (e, f, g, h))

  pub unit_missing : (d q : ℕ) → UnitStops n d q [] 61 q
  unfolding read_from finish
  unit_missing d q p e k v l = refl

  -- numbers
  pub number-begins : (d q c a : ℕ) (r : List ℕ) → d ≤ 200 → digit_of c ≡ some a → a ≤ n → DigitsRead n d q (c ∷ r) (suc q) r a
  unfolding step
  number-begins d q c a r h e g p w k v l =
      goes q (unit p w k v) (digits a 1 p w k v) c r (rw e) (le-ltb n a g) (omega arith)
      ∙ ap (λ m. read_from n (suc q) (digits a m p w k v) r) (omega arith)

  pub number-goes-on : (d q q' c a b : ℕ) (r₀ r : List ℕ) → d ≤ 200 → q < q' → DigitsRead n d q r₀ q' (c ∷ r) a → digit_of c ≡ some b → 1 ≤ a → 10 * a + b ≤ n
      → DigitsRead n d q r₀ (suc q') r (10 * a + b)
  unfolding step
  number-goes-on d q q' c a b r₀ r h i x e f g p w k v l =
      x p w k v l
      ∙ (goes q' (digits a (q' - q) p w k v) (digits (10 * a + b) (suc (q' - q)) p w k v) c r (rw (e, ne_eqb a 0 (λ z. omega arith))) (le-ltb n (10 * a + b) g) (omega arith)
      ∙ ap (λ m. read_from n (suc q') (digits (10 * a + b) m p w k v) r) (omega arith))

  pub number-above : (d q c a : ℕ) (r : List ℕ) → digit_of c ≡ some a → n < a → UnitStops n d q (c ∷ r) 61 q
  unfolding read_from step
  number-above d q c a r e g p w k v l = rw (e, lt-ltb n a g) (ap (Fault 61) (omega arith))

  pub number_grows_above : (d q q' c a b : ℕ) (r₀ r : List ℕ) → q < q' → DigitsRead n d q r₀ q' (c ∷ r) a → digit_of c ≡ some b → 1 ≤ a → n < 10 * a + b → UnitStops n d q r₀ 61 q
  unfolding read_from step
  number_grows_above d q q' c a b r₀ r i x e f g p w k v l =
      x p w k v l ∙ rw (e, ne_eqb a 0 (λ z. omega arith), lt-ltb n (10 * a + b) g) (ap (Fault 61) (omega arith))

  pub number-nought : (d q q' c b : ℕ) (r₀ r : List ℕ) → DigitsRead n d q r₀ q' (c ∷ r) 0 → digit_of c ≡ some b → UnitStops n d q r₀ 61 q'
  unfolding step
  number-nought d q q' c b r₀ r x e p w k v l = x p w k v l ∙ sticks q' (digits 0 (q' - q) p w k v) c r (rw e)

  pub number-ends : (d q q' a : ℕ) (r₀ r : List ℕ) → DigitsRead n d q r₀ q' r a → next_numeral 9 r ≡ none → UnitReads n d q r₀ q' r (a ∷ [])
  unfolding read_from step finish
  number-ends d q q' a r₀ [] x e p w k v l = x p w k v l
  number-ends d q q' a r₀ (c ∷ r) x e p w k v l = x p w k v l ∙ rw e

  -- a product of one unit, and of one more
  pub product-begins : (d q q' : ℕ) (r r' w : List ℕ) → UnitReads n d q r q' r' w → ProductReads n d q r q' r' w
  product-begins d q q' r r' w x p k v l = x p false k v l

  pub product-goes-on : (d q q' q'' : ℕ) (r₀ r r' w w' : List ℕ) → d ≤ 200 → ProductReads n d q r₀ q' (dot ∷ r) w → UnitReads n d (suc q') r q'' r' w'
      → ProductReads n d q r₀ q'' r' (w ++ (w' ++ (65 ∷ [])))
  unfolding step binary_word
  product-goes-on d q q' q'' r₀ r r' w w' h x y p k v l =
      x p k v l
      ∙ (goes q' (done p k (v ++ w)) (unit p true k (v ++ w)) dot r refl refl (omega arith)
      ∙ (y p true k (v ++ w) l ∙ ap (λ z. read_from n q'' (done p k z) r') (simp append_assoc)))

  pub product_stops : (d q q' c f : ℕ) (r₀ r w : List ℕ) → d ≤ 200 → ProductReads n d q r₀ q' (dot ∷ r) w → UnitStops n d (suc q') r c f → ProductStops n d q r₀ c f
  unfolding step
  product_stops d q q' c f r₀ r w h x y p k v l =
      x p k v l ∙ (goes q' (done p k (v ++ w)) (unit p true k (v ++ w)) dot r refl refl (omega arith) ∙ y p true k (v ++ w) l)

  -- a `+` that waits, where the product has ended
  late : (q : ℕ) (k : List Frame) (v r : List ℕ) → next_is dot r ≡ false → read_from n q (done true k v) r ≡ read_from n q (done false k (v ++ (64 ∷ []))) r
  unfolding read_from step finish binary_word
  late q k v [] e = refl
  late q k v (c ∷ r) e = rw e

  -- a sum of one product, and of one more
  pub sum-begins : (d q q' : ℕ) (r r' w : List ℕ) → ProductReads n d q r q' r' w → SumReads n d q r q' r' w
  sum-begins d q q' r r' w x k v l = x false k v l

  pub sum-goes-on : (d q q' q'' : ℕ) (r₀ r r' w w' : List ℕ) → d ≤ 200 → SumReads n d q r₀ q' (plus ∷ r) w → ProductReads n d (suc q') r q'' r' w' → next_is dot r' ≡ false
      → SumReads n d q r₀ q'' r' (w ++ (w' ++ (64 ∷ [])))
  unfolding step
  sum-goes-on d q q' q'' r₀ r r' w w' h x y e k v l =
      x k v l
      ∙ (goes q' (done false k (v ++ w)) (unit true false k (v ++ w)) plus r refl refl (omega arith)
      ∙ (y true k (v ++ w) l ∙ (late q'' k ((v ++ w) ++ w') r' e ∙ ap (λ z. read_from n q'' (done false k z) r') (simp append_assoc))))

  pub sum_stops : (d q q' c f : ℕ) (r₀ r w : List ℕ) → d ≤ 200 → SumReads n d q r₀ q' (plus ∷ r) w → ProductStops n d (suc q') r c f → SumStops n d q r₀ c f
  unfolding step
  sum_stops d q q' c f r₀ r w h x y k v l =
      x k v l ∙ (goes q' (done false k (v ++ w)) (unit true false k (v ++ w)) plus r refl refl (omega arith) ∙ y true k (v ++ w) l)

  -- brackets are opened
  nil_out : (q : ℕ) (b : Bracket) (p e : Bool) (k : List Frame) (v r : List ℕ) → read_from n q (unit false false (frame b p e ∷ k) v) r ≡ read_from n q (unit false false (frame b p e ∷ k) (v ++ [])) r
  nil_out q b p e k v r = ap (λ z. read_from n q (unit false false (frame b p e ∷ k) z) r) (sym (append-nil v))

  pub bracket-enters : (d q : ℕ) (r : List ℕ) → d < 200 → Enters n d q (opening ∷ r) Plain (suc q) r []
  unfolding step
  bracket-enters d q r h p e k v l = goes q (unit p e k v) (unit false false (frame Plain p e ∷ k) v) opening r refl refl (omega arith) ∙ nil_out (suc q) Plain p e k v r

  pub priority-enters : (d q : ℕ) (r : List ℕ) → d < 200 → Enters n d q (tee ∷ opening ∷ r) OfPriority (suc (suc q)) r []
  unfolding step
  priority-enters d q r h p e k v l =
      goes q (unit p e k v) (after_tee p e k v) tee (opening ∷ r) refl refl (omega arith)
      ∙ (goes (suc q) (after_tee p e k v) (unit false false (frame OfPriority p e ∷ k) v) opening r refl refl (omega arith) ∙ nil_out (suc (suc q)) OfPriority p e k v r)

  pub set-enters : (d q c h : ℕ) (r : List ℕ) → d < 200 → set_of c ≡ some h → Enters n d q (aitch ∷ c ∷ opening ∷ r) (OfSet h) (suc (suc (suc q))) r []
  unfolding step
  set-enters d q c h r g i p e k v l =
      goes q (unit p e k v) (after_aitch p e k v) aitch (c ∷ opening ∷ r) refl refl (omega arith)
      ∙ (goes (suc q) (after_aitch p e k v) (after_set h p e k v) c (opening ∷ r) (rw i) refl (omega arith)
      ∙ (goes (suc (suc q)) (after_set h p e k v) (unit false false (frame (OfSet h) p e ∷ k) v) opening r refl refl (omega arith) ∙ nil_out (suc (suc (suc q))) (OfSet h) p e k v r))

  pub second-enters : (d q q' q'' c : ℕ) (o : Binary) (r₀ r r' w : List ℕ) → d < 200 → Enters n d q r₀ Plain q' r [] → SumReads n (suc d) q' r q'' (blank ∷ c ∷ blank ∷ r') w
      → between_of c ≡ some o → Enters n d q r₀ (Second o) (suc (suc (suc q''))) r' w
  unfolding step
  second-enters d q q' q'' c o r₀ r r' w h x y f p e k v l =
      x p e k v l
      ∙ (y (frame Plain p e ∷ k) (v ++ []) (ap suc l)
      ∙ (ap (λ z. read_from n q'' (done false (frame Plain p e ∷ k) (z ++ w)) (blank ∷ c ∷ blank ∷ r')) (append-nil v)
      ∙ (goes q'' (done false (frame Plain p e ∷ k) (v ++ w)) (after_first p e k (v ++ w)) blank (c ∷ blank ∷ r') refl refl (omega arith)
      ∙ (goes (suc q'') (after_first p e k (v ++ w)) (after_sign o p e k (v ++ w)) c (blank ∷ r') (rw f) refl (omega arith)
      ∙ goes (suc (suc q'')) (after_sign o p e k (v ++ w)) (unit false false (frame (Second o) p e ∷ k) (v ++ w)) blank r' refl refl (omega arith)))))

  -- and closed
  closed-last : (b : Bracket) (v w : List ℕ) → closed byte_of b (v ++ w) ≡ v ++ closed byte_of b w
  closed-last Plain v w = refl
  closed-last OfPriority v w = append_assoc v w _
  closed-last (OfSet h) v w = append_assoc v w _
  closed-last (Second o) v w = append_assoc v w _

  pub bracket_closes : (d q q' q'' : ℕ) (b : Bracket) (r₀ r r' w w' : List ℕ) → d ≤ 200 → Enters n d q r₀ b q' r w → SumReads n (suc d) q' r q'' (closing ∷ r') w'
      → UnitReads n d q r₀ (suc q'') r' (closed byte_of b (w ++ w'))
  unfolding step
  bracket_closes d q q' q'' b r₀ r r' w w' h x y p e k v l =
      x p e k v l
      ∙ (y (frame b p e ∷ k) (v ++ w) (ap suc l)
      ∙ (goes q'' (done false (frame b p e ∷ k) ((v ++ w) ++ w')) (done p k (followed byte_of e (closed byte_of b ((v ++ w) ++ w')))) closing r' refl refl (omega arith)
      ∙ ap (λ z. read_from n (suc q'') (done p k (followed byte_of e z)) r') (ap (closed byte_of b) (append_assoc v w w') ∙ closed-last b v (w ++ w'))))

  -- or something is wrong
  pub bracket_stops : (d q q' c f : ℕ) (b : Bracket) (r₀ r w : List ℕ) → Enters n d q r₀ b q' r w → SumStops n (suc d) q' r c f → UnitStops n d q r₀ c f
  bracket_stops d q q' c f b r₀ r w x y p e k v l = x p e k v l ∙ y (frame b p e ∷ k) (v ++ w) (ap suc l)

  too_deep : (q : ℕ) (s s' : State ℕ) (c : ℕ) (r : List ℕ) → step byte_of s c ≡ some s' → above n s' ≡ false → 200 < height s' → read_from n q s (c ∷ r) ≡ Fault 62 q
  unfolding read_from
  too_deep q s s' c r e f h =
      ap (λ (m : Option (State ℕ)). on_option m (Fault 61 q) (λ z. limited n q z (λ y. read_from n (suc q) y r))) e ∙ rw (f, lt-ltb 200 (height s') h)

  pub bracket-deep : (q : ℕ) (r : List ℕ) → UnitStops n 200 q (opening ∷ r) 62 q
  unfolding step
  bracket-deep q r p e k v l = too_deep q (unit p e k v) (unit false false (frame Plain p e ∷ k) v) opening r refl refl (omega arith)

  pub priority-deep : (q : ℕ) (r : List ℕ) → UnitStops n 200 q (tee ∷ opening ∷ r) 62 (suc q)
  unfolding step
  priority-deep q r p e k v l =
      goes q (unit p e k v) (after_tee p e k v) tee (opening ∷ r) refl refl (omega arith)
      ∙ too_deep (suc q) (after_tee p e k v) (unit false false (frame OfPriority p e ∷ k) v) opening r refl refl (omega arith)

  pub set-deep : (q c h : ℕ) (r : List ℕ) → set_of c ≡ some h → UnitStops n 200 q (aitch ∷ c ∷ opening ∷ r) 62 (suc (suc q))
  unfolding step
  set-deep q c h r i p e k v l =
      goes q (unit p e k v) (after_aitch p e k v) aitch (c ∷ opening ∷ r) refl refl (omega arith)
      ∙ (goes (suc q) (after_aitch p e k v) (after_set h p e k v) c (opening ∷ r) (rw i) refl (omega arith)
      ∙ too_deep (suc (suc q)) (after_set h p e k v) (unit false false (frame (OfSet h) p e ∷ k) v) opening r refl refl (omega arith))

  pub tee-alone : (d q : ℕ) (r : List ℕ) → d ≤ 200 → next_is opening r ≡ false → UnitStops n d q (tee ∷ r) 61 (suc q)
  unfolding step read_from finish
  tee-alone d q [] h g p e k v l = goes q (unit p e k v) (after_tee p e k v) tee [] refl refl (omega arith)
  tee-alone d q (c ∷ r) h g p e k v l = goes q (unit p e k v) (after_tee p e k v) tee (c ∷ r) refl refl (omega arith) ∙ rw g

  pub aitch-alone : (d q : ℕ) (r : List ℕ) → d ≤ 200 → next_numeral 7 r ≡ none → UnitStops n d q (aitch ∷ r) 61 (suc q)
  unfolding step read_from finish
  aitch-alone d q [] h g p e k v l = goes q (unit p e k v) (after_aitch p e k v) aitch [] refl refl (omega arith)
  aitch-alone d q (c ∷ r) h g p e k v l = goes q (unit p e k v) (after_aitch p e k v) aitch (c ∷ r) refl refl (omega arith) ∙ rw g

  pub set-alone : (d q c i : ℕ) (r : List ℕ) → d ≤ 200 → set_of c ≡ some i → next_is opening r ≡ false → UnitStops n d q (aitch ∷ c ∷ r) 61 (suc (suc q))
  unfolding step read_from finish
  set-alone d q c i [] h j g p e k v l =
      goes q (unit p e k v) (after_aitch p e k v) aitch (c ∷ []) refl refl (omega arith)
      ∙ goes (suc q) (after_aitch p e k v) (after_set i p e k v) c [] (rw j) refl (omega arith)
  set-alone d q c i (b ∷ r) h j g p e k v l =
      goes q (unit p e k v) (after_aitch p e k v) aitch (c ∷ b ∷ r) refl refl (omega arith)
      ∙ (goes (suc q) (after_aitch p e k v) (after_set i p e k v) c (b ∷ r) (rw j) refl (omega arith) ∙ rw g)

  -- the sum in a bracket ends, and neither `)` nor, where it may stand, a blank follows
  pub bracket_open : (d q q' q'' : ℕ) (b : Bracket) (r₀ r r' w w' : List ℕ) → Enters n d q r₀ b q' r w → SumReads n (suc d) q' r q'' r' w'
      → next_is dot r' ≡ false → next_is plus r' ≡ false → next_is closing r' ≡ false → next_is blank r' ≡ false → UnitStops n d q r₀ 61 q''
  unfolding step read_from finish
  bracket_open d q q' q'' b r₀ r [] w w' x y f g h i p e k v l = x p e k v l ∙ y (frame b p e ∷ k) (v ++ w) (ap suc l)
  bracket_open d q q' q'' b r₀ r (c ∷ r') w w' x y f g h i p e k v l = x p e k v l ∙ (y (frame b p e ∷ k) (v ++ w) (ap suc l) ∙ rw (f, g, h, i))

  pub blank-refused : (d q q' q'' : ℕ) (b : Bracket) (r₀ r r' w w' : List ℕ) → plain? b ≡ false → Enters n d q r₀ b q' r w → SumReads n (suc d) q' r q'' (blank ∷ r') w'
      → UnitStops n d q r₀ 61 q''
  unfolding step
  blank-refused d q q' q'' b r₀ r r' w w' h x y p e k v l = x p e k v l ∙ (y (frame b p e ∷ k) (v ++ w) (ap suc l) ∙ refused b h)
    where
      refused : (b : Bracket) → plain? b ≡ false → read_from n q'' (done false (frame b p e ∷ k) ((v ++ w) ++ w')) (blank ∷ r') ≡ Fault 61 q''
      refused Plain h = let z : ◌≡◌ {A = ℕ} 0 1 = cc in absurd (omega arith)
      refused OfPriority h = sticks q'' _ blank r' refl
      refused (OfSet i) h = sticks q'' _ blank r' refl
      refused (Second o) h = sticks q'' _ blank r' refl

  first_ends : (d q q' q'' : ℕ) (r₀ r r' w : List ℕ) → d < 200 → Enters n d q r₀ Plain q' r [] → SumReads n (suc d) q' r q'' (blank ∷ r') w → (p e : Bool) (k : List Frame) (v : List ℕ) → length k ≡ d
      → read_from n q (unit p e k v) r₀ ≡ read_from n (suc q'') (after_first p e k ((v ++ []) ++ w)) r'
  unfolding step
  first_ends d q q' q'' r₀ r r' w h x y p e k v l =
      x p e k v l
      ∙ (y (frame Plain p e ∷ k) (v ++ []) (ap suc l)
      ∙ goes q'' (done false (frame Plain p e ∷ k) ((v ++ []) ++ w)) (after_first p e k ((v ++ []) ++ w)) blank r' refl refl (omega arith))

  pub sign_missing : (d q q' q'' : ℕ) (r₀ r r' w : List ℕ) → d < 200 → Enters n d q r₀ Plain q' r [] → SumReads n (suc d) q' r q'' (blank ∷ r') w → next_between r' ≡ none
      → UnitStops n d q r₀ 61 (suc q'')
  unfolding step read_from finish
  sign_missing d q q' q'' r₀ r [] w h x y f p e k v l = first_ends d q q' q'' r₀ r [] w h x y p e k v l
  sign_missing d q q' q'' r₀ r (c ∷ r') w h x y f p e k v l = first_ends d q q' q'' r₀ r (c ∷ r') w h x y p e k v l ∙ rw f

  pub blank_missing : (d q q' q'' c : ℕ) (o : Binary) (r₀ r r' w : List ℕ) → d < 200 → Enters n d q r₀ Plain q' r [] → SumReads n (suc d) q' r q'' (blank ∷ c ∷ r') w
      → between_of c ≡ some o → next_is blank r' ≡ false → UnitStops n d q r₀ 61 (suc (suc q''))
  unfolding step read_from finish
  blank_missing d q q' q'' c o r₀ r [] w h x y f g p e k v l =
      first_ends d q q' q'' r₀ r (c ∷ []) w h x y p e k v l ∙ goes (suc q'') (after_first p e k ((v ++ []) ++ w)) (after_sign o p e k ((v ++ []) ++ w)) c [] (rw f) refl (omega arith)
  blank_missing d q q' q'' c o r₀ r (b ∷ r') w h x y f g p e k v l =
      first_ends d q q' q'' r₀ r (c ∷ b ∷ r') w h x y p e k v l
      ∙ (goes (suc q'') (after_first p e k ((v ++ []) ++ w)) (after_sign o p e k ((v ++ []) ++ w)) c (b ∷ r') (rw f) refl (omega arith) ∙ rw g)

  -- the whole text is a sum
  pub text_read : (q : ℕ) (text w : List ℕ) → SumReads n 0 0 text q [] w → read_text n text ≡ Plan w
  unfolding read_text read_from finish
  text_read q text w x = x [] [] refl

  pub text_stops : (c f : ℕ) (text : List ℕ) → SumStops n 0 0 text c f → read_text n text ≡ Fault c f
  unfolding read_text
  text_stops c f text x = x [] [] refl

  pub text_goes-on : (q c : ℕ) (text r w : List ℕ) → SumReads n 0 0 text q (c ∷ r) w → eqb c dot ≡ false → eqb c plus ≡ false → read_text n text ≡ Fault 61 q
  unfolding read_text step
  text_goes-on q c text r w x f g = x [] [] refl ∙ sticks q (done false [] w) c r (rw (f, g) (either (eqb c closing) (eqb c blank)))
    where
      either : (a b : Bool) → ◌≡◌ {A = Option (State ℕ)} (cond a none (cond b none none)) none
      either true b = refl
      either false true = refl
      either false false = refl

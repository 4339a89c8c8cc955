-- A law fits as people read it: `fit` gives the letters exactly when the left side with them put in is the plan, so `rewrite` and `step` do.
use Prim.Native.Nat.{ℕ, suc, zero, ◌≤◌, ◌<◌}
use native.Mathlib.Omega.{arith}
use mathlib.Core.Path.{◌≡◌, refl, ap, ap₂, sym, ◌∙◌, subst, fun_ext}
use mathlib.Core.Bool.{Bool, true, false, cond, ◌&&◌, ◌||◌, not, false≢true, and-eq-true_iff}
use mathlib.Core.List.{List, [], ◌∷◌}
use mathlib.Core.Logic.{◌↔◌}
use mathlib.Core.Option.{none, some, some-injective}
use lib.Dec.{eqb, leb}
use lib.ListN.{length}
use borrow.Author.Tests.{eqb-true, eq-eqb, ne_eqb, leb-true, not-true}
use Rattle.tables.specs.Tables.{Tables}
use Rattle.plans.specs.declared.Binary.TheVariants.{Choice}
use Rattle.plans.specs.declared.Unary.TheVariants.{Priority, Encapsulation}
use Rattle.plans.specs.Word.{binary_word}
use Rattle.plans.specs.Term.{Term, act, un, bin, and_then}
use Rattle.plans.proofs.Options.{never, and_then_some}
use Rattle.laws.specs.Laws.{Pattern, any, any_action, δ, entry, node, θ, ∂, Condition, always, same_words, a_in_set, a_not_in_set, a_below_b, a_not_below_b, Law, laws, nth, law_at, Binding, unbound, bind, number, fit, holds, build, rewrite, highest_law}
use Rattle.laws.specs.Step.{step}
use Rattle.laws.specs.Fits.{Letters, numbered, Fits, FitsAt}
use Rattle.laws.proofs.Fitting.{Need, meets}
use Rattle.laws.proofs.Stepping.{step-made, step_fits}

-- whether a pattern has a letter
unfoldable pub has : ℕ → Pattern → Bool
has j (any k) = eqb j k
has j (any_action k) = eqb j k
has j δ = false
has j entry = eqb j 3 || eqb j 4
has j (node o p q) = has j p || has j q
has j (θ p) = has j p
has j (∂ p) = has j p || eqb j 5

-- whether all its letters pass a test
unfoldable all? : (ℕ → Bool) → Pattern → Bool
all? f (any k) = f k
all? f (any_action k) = f k
all? f δ = true
all? f entry = f 3 && f 4
all? f (node o p q) = all? f p && all? f q
all? f (θ p) = all? f p
all? f (∂ p) = f 5 && all? f p

-- whether a pattern is a left side: no letter stands twice in it, those numbered 0 to 2 are plans and 3 and 4 actions, and it has no entry
unfoldable pub left_side? : Pattern → Bool
unfolding has all?
left_side? (any k) = leb k 2
left_side? (any_action k) = eqb k 3 || eqb k 4
left_side? δ = true
left_side? entry = false
left_side? (node o p q) = (left_side? p && left_side? q) && all? (λ j. not (has j p)) q
left_side? (θ p) = left_side? p
left_side? (∂ p) = left_side? p && not (has 5 p)

and_true : (b c : Bool) → b && c ≡ true → (b ≡ true) × (c ≡ true)
and_true b c e = (and-eq-true_iff b c).0 e

or_left : (b c : Bool) → b ≡ true → b || c ≡ true
or_left true c e = refl
or_left false c e = absurd (false≢true e)

or_right : (b c : Bool) → c ≡ true → b || c ≡ true
or_right true c e = refl
or_right false c e = e

or_case {ℓ} : {A : Type ℓ} (b c : Bool) → b || c ≡ true → (b ≡ true → A) → (c ≡ true → A) → A
or_case true c e f g = f refl
or_case false c e f g = g e

or_false : (b c : Bool) → b || c ≡ false → (b ≡ false) × (c ≡ false)
or_false true c e = absurd (false≢true (sym e))
or_false false c e = (refl, e)

-- each letter of a pattern passes a test that all pass
all_has : (f : ℕ → Bool) (p : Pattern) → all? f p ≡ true → (j : ℕ) → has j p ≡ true → f j ≡ true
unfolding has all?
all_has f (any k) e j h = rw (eqb-true j k h) e
all_has f (any_action k) e j h = rw (eqb-true j k h) e
all_has f δ e j h = absurd (false≢true h)
all_has f entry e j h = or_case (eqb j 3) (eqb j 4) h (λ i. rw (eqb-true j 3 i) (and_true (f 3) (f 4) e).0) (λ i. rw (eqb-true j 4 i) (and_true (f 3) (f 4) e).1)
all_has f (node o p q) e j h =
    let c = and_true (all? f p) (all? f q) e in
    or_case (has j p) (has j q) h (all_has f p c.0 j) (all_has f q c.1 j)
all_has f (θ p) e j h = all_has f p e j h
all_has f (∂ p) e j h =
    let c = and_true (f 5) (all? f p) e in
    or_case (has j p) (eqb j 5) h (all_has f p c.1 j) (λ i. rw (eqb-true j 5 i) c.0)

-- bindings that agree on the letters of a pattern
abbrev pub Agree : Pattern → Binding → Binding → Type 0
Agree p s r = (j : ℕ) → has j p ≡ true → s j ≡ r j

-- a binding, with what another has for the letters of a pattern
unfoldable pub over : Pattern → Binding → Binding → Binding
over p s w j = cond (has j p) (s j) (w j)

over-letter : (k : ℕ) (s w : Binding) (j : ℕ) → bind w k (s k) j ≡ cond (eqb j k) (s j) (w j)
unfolding bind
over-letter k s w j = pick (eqb j k) refl
  where
    pick : (b : Bool) → eqb j k ≡ b → cond b (s k) (w j) ≡ cond b (s j) (w j)
    pick true e = ap s (sym (eqb-true j k e))
    pick false e = refl

over_both : (b c : Bool) (u v : Term) → cond b u (cond c u v) ≡ cond (b || c) u v
over_both true c u v = refl
over_both false c u v = refl

over_same : (p : Pattern) (s w r : Binding) → Agree p s r → ((j : ℕ) → has j p ≡ false → r j ≡ w j) → r ≡ over p s w
unfolding over
over_same p s w r f g = fun_ext (λ j. pick j (has j p) refl)
  where
    pick : (j : ℕ) (b : Bool) → has j p ≡ b → r j ≡ cond b (s j) (w j)
    pick j true e = sym (f j e)
    pick j false e = g j e

over_agree : (p : Pattern) (s w : Binding) → Agree p s (over p s w)
unfolding over
over_agree p s w j h = rw h refl

-- letters from 3 on stand for numbers: actions, and the set
abbrev Coded : Binding → Type 0
Coded s = (j : ℕ) → 3 ≤ j → s j ≡ act (number (s j))

bound : (k : ℕ) (w : Binding) (u : Term) → (bind w k u k ≡ u) × ((j : ℕ) → eqb j k ≡ false → bind w k u j ≡ w j)
unfolding bind
bound k w u = (rw (eq-eqb k k refl) refl, λ j h. rw h refl)

coded_bound : (k c : ℕ) (w : Binding) → Coded w → Coded (bind w k (act c))
unfolding bind
coded_bound k c w i j h = pick (eqb j k)
  where
    pick : (b : Bool) → cond b (act c) (w j) ≡ act (number (cond b (act c) (w j)))
    pick true = refl
    pick false = i j h

coded_plan : (k : ℕ) (u : Term) (w : Binding) → k ≤ 2 → Coded w → Coded (bind w k u)
coded_plan k u w l i j h = rw ((bound k w u).1 j (ne_eqb j k (λ e. omega arith))) (i j h)

-- letters by their names and by their numbers
low : (p : Pattern) → left_side? p ≡ true → (j : ℕ) → has j p ≡ true → j ≤ 5
unfolding left_side? has
low (any k) l j h = omega (arith, eqb-true j k h, leb-true k 2 l)
low (any_action k) l j h = or_case (eqb k 3) (eqb k 4) l (λ i. omega (arith, eqb-true j k h, eqb-true k 3 i)) (λ i. omega (arith, eqb-true j k h, eqb-true k 4 i))
low δ l j h = absurd (false≢true h)
low entry l j h = absurd (false≢true l)
low (node o p q) l j h =
    let d = and_true (left_side? p) (left_side? q) (and_true (left_side? p && left_side? q) _ l).0 in
    or_case (has j p) (has j q) h (low p d.0 j) (low q d.1 j)
low (θ p) l j h = low p l j h
low (∂ p) l j h = or_case (has j p) (eqb j 5) h (low p (and_true (left_side? p) _ l).0 j) (λ i. omega (arith, eqb-true j 5 i))

letters_of : Binding → Letters
letters_of r = record { x = r 0; y = r 1; z = r 2; a = number (r 3); b = number (r 4); set = number (r 5) }

named : (r : Binding) → Coded r → (j : ℕ) → j ≤ 5 → numbered (letters_of r) j ≡ r j
unfolding numbered letters_of bind
named r c zero h = refl
named r c (suc zero) h = refl
named r c (suc (suc zero)) h = refl
named r c (suc (suc (suc zero))) h = sym (c 3 (omega arith))
named r c (suc (suc (suc (suc zero)))) h = sym (c 4 (omega arith))
named r c (suc (suc (suc (suc (suc zero))))) h = sym (c 5 (omega arith))
named r c (suc (suc (suc (suc (suc (suc j)))))) h = absurd (omega arith)

numbered_coded : (l : Letters) → Coded (numbered l)
unfolding numbered
numbered_coded l =
    coded_bound 5 l.set _ (coded_bound 4 l.b _ (coded_bound 3 l.a _
    (coded_plan 2 l.z _ (omega arith) (coded_plan 1 l.y _ (omega arith) (coded_plan 0 l.x _ (omega arith) (λ j h. refl))))))

fit-action : (k : ℕ) (u : Term) → u ≡ act (number u) → (w : Binding) → fit (any_action k) u w ≡ some (bind w k u)
unfolding fit
fit-action k (act c) e w = refl
fit-action k (un o l) e w = let q : ◌≡◌ {A = ℕ} 0 1 = cc in absurd (omega arith)
fit-action k (bin o l m) e w = let q : ◌≡◌ {A = ℕ} 0 1 = cc in absurd (omega arith)

-- what holds of every fit, from what does
need_map : (p : Pattern) (w : Binding) (Q R : Term → Binding → Type 0) → ((u : Term) (r : Binding) → Q u r → R u r) → Need p w Q → Need p w R
need_map (any k) w Q R f n = λ u. f u (bind w k u) (n u)
need_map (any_action k) w Q R f n = λ c. f (act c) (bind w k (act c)) (n c)
need_map δ w Q R f n = f (act 0) w n
need_map entry w Q R f n = tt
need_map (node o p q) w Q R f n = need_map q w _ _ (λ m r. need_map p r _ _ (λ l v. f (bin o l m) v)) n
need_map (θ p) w Q R f n = need_map p w _ _ (λ l r. f (un Priority l) r) n
need_map (∂ p) w Q R f n = λ h. need_map p (bind w 5 (act h)) _ _ (λ l r. f (un (Encapsulation h) l) r) (n h)

-- the letters of which a condition speaks
unfoldable asks : Condition → Pattern
asks always = δ
asks same_words = node Choice (any 0) (any 1)
asks a_in_set = ∂ (any_action 3)
asks a_not_in_set = ∂ (any_action 3)
asks a_below_b = node Choice (any_action 3) (any_action 4)
asks a_not_below_b = node Choice (any_action 3) (any_action 4)

-- each law is such: the right side and the condition have no letter that the left side has not
unfoldable proper? : Law → Bool
proper? l = left_side? l.lhs && (all? (λ j. has j l.lhs) l.rhs && all? (λ j. has j l.lhs) (asks l.when))

unfoldable each? : (Law → Bool) → List Law → Bool
each? f [] = true
each? f (l ∷ ls) = f l && each? f ls

laws_proper : each? proper? laws ≡ true
unfolding each? proper? laws left_side? has all? asks
laws_proper = refl

nth-each : (f : Law → Bool) (ls : List Law) → each? f ls ≡ true → (k : ℕ) → k < length ls → f (nth ls k) ≡ true
unfolding each?
nth-each f [] e k h = absurd (omega arith)
nth-each f (l ∷ ls) e zero h = (and_true (f l) (each? f ls) e).0
nth-each f (l ∷ ls) e (suc k) h = nth-each f ls (and_true (f l) (each? f ls) e).1 k (omega arith)

law_proper : (k : ℕ) → 1 ≤ k → k ≤ highest_law → proper? (law_at k) ≡ true
unfolding law_at
law_proper zero h i = absurd (omega arith)
law_proper (suc k) h i = nth-each proper? laws laws_proper k (omega arith)

module _ (t : Tables) where
  agree_build : (p : Pattern) (s r : Binding) → Agree p s r → build t s p ≡ build t r p
  unfolding has build
  agree_build (any k) s r e = e k (eq-eqb k k refl)
  agree_build (any_action k) s r e = e k (eq-eqb k k refl)
  agree_build δ s r e = refl
  agree_build entry s r e = rw (e 3 refl, e 4 refl) refl
  agree_build (node o p q) s r e =
      ap₂ (bin o) (agree_build p s r (λ j h. e j (or_left (has j p) (has j q) h))) (agree_build q s r (λ j h. e j (or_right (has j p) (has j q) h)))
  agree_build (θ p) s r e = ap (un Priority) (agree_build p s r e)
  agree_build (∂ p) s r e =
      rw (e 5 (or_right (has 5 p) true refl)) (ap (un (Encapsulation (number (r 5)))) (agree_build p s r (λ j h. e j (or_left (has j p) (eqb j 5) h))))

  agree_holds : (c : Condition) (s r : Binding) → Agree (asks c) s r → holds t c s ≡ holds t c r
  unfolding has holds asks
  agree_holds always s r e = refl
  agree_holds same_words s r e = rw (e 0 refl, e 1 refl) refl
  agree_holds a_in_set s r e = rw (e 3 refl, e 5 refl) refl
  agree_holds a_not_in_set s r e = rw (e 3 refl, e 5 refl) refl
  agree_holds a_below_b s r e = rw (e 3 refl, e 4 refl) refl
  agree_holds a_not_below_b s r e = rw (e 3 refl, e 4 refl) refl

  -- the left side with letters put in is fitted, with those letters
  fit_built : (p : Pattern) → left_side? p ≡ true → (s w : Binding) → Coded s → fit p (build t s p) w ≡ some (over p s w)
  unfolding left_side? fit build over
  fit_built (any k) l s w c = ap some (fun_ext (over-letter k s w))
  fit_built (any_action k) l s w c = fit-action k (s k) (c k (three l)) w ∙ ap some (fun_ext (over-letter k s w))
    where
      three : eqb k 3 || eqb k 4 ≡ true → 3 ≤ k
      three e = or_case (eqb k 3) (eqb k 4) e (λ i. omega (arith, eqb-true k 3 i)) (λ i. omega (arith, eqb-true k 4 i))
  fit_built δ l s w c = refl
  fit_built entry l s w c = absurd (false≢true l)
  fit_built (node o p q) l s w c =
      let d = and_true (left_side? p) (left_side? q) (and_true (left_side? p && left_side? q) _ l).0 in
      rw (eq-eqb (binary_word o) (binary_word o) refl, fit_built q d.1 s w c, fit_built p d.0 s (over q s w) c)
      (ap some (fun_ext (λ j. over_both (has j p) (has j q) (s j) (w j))))
  fit_built (θ p) l s w c = fit_built p l s w c
  fit_built (∂ p) l s w c =
      rw (← c 5 (omega arith)) (fit_built p (and_true (left_side? p) _ l).0 s (bind w 5 (s 5)) c ∙ ap some (fun_ext (λ j. rw (over-letter 5 s w j) (over_both (has j p) (eqb j 5) (s j) (w j)))))

  -- what is fitted is the left side with the letters put in; the other letters stay
  abbrev Said : Pattern → Binding → Term → Binding → Type 0
  Said p w u r = (build t r p ≡ u) × ((j : ℕ) → has j p ≡ false → r j ≡ w j) × (Coded w → Coded r)

  said : (p : Pattern) → left_side? p ≡ true → (w : Binding) → Need p w (Said p w)
  unfolding left_side? has build
  said (any k) l w = λ u. ((bound k w u).0, (bound k w u).1, coded_plan k u w (leb-true k 2 l))
  said (any_action k) l w = λ c. ((bound k w (act c)).0, (bound k w (act c)).1, coded_bound k c w)
  said δ l w = (refl, λ j h. refl, λ i. i)
  said entry l w = tt
  said (node o p q) l w =
      let c = and_true (left_side? p && left_side? q) (all? (λ j. not (has j p)) q) l in
      let d = and_true (left_side? p) (left_side? q) c.0 in
      need_map q w (Said q w) _
      (λ m r g. need_map p r (Said p r) _
      (λ u v h. (
        ap₂ (bin o) h.0 (agree_build q v r (λ j i. h.1 j (not-true _ (all_has (λ j. not (has j p)) q c.1 j i))) ∙ g.0),
        λ j i. h.1 j (or_false (has j p) (has j q) i).0 ∙ g.1 j (or_false (has j p) (has j q) i).1,
        λ i. h.2 (g.2 i),
      )) (said p d.0 r)) (said q d.1 w)
  said (θ p) l w = need_map p w (Said p w) _ (λ u r g. (ap (un Priority) g.0, g.1, g.2)) (said p l w)
  said (∂ p) l w = λ h.
      let c = and_true (left_side? p) (not (has 5 p)) l in
      need_map p (bind w 5 (act h)) (Said p (bind w 5 (act h))) _
      (λ u r g. (
        ap₂ (λ s u. un (Encapsulation (number s)) u) (g.1 5 (not-true (has 5 p) c.1) ∙ (bound 5 w (act h)).0) g.0,
        λ j i. g.1 j (or_false (has j p) (eqb j 5) i).0 ∙ (bound 5 w (act h)).1 j (or_false (has j p) (eqb j 5) i).1,
        λ i. g.2 (coded_bound 5 h w i),
      )) (said p c.0 (bind w 5 (act h)))

  -- Of a pattern that is a left side: fitting it gives a binding exactly when some letters make it the term, and gives those letters.
  pub fit_iff : (p : Pattern) → left_side? p ≡ true → (u : Term) (r : Binding)
      → (fit p u unbound ≡ some r) ↔ ((l : Letters) × (build t (numbered l) p ≡ u) × (r ≡ over p (numbered l) unbound))
  fit_iff p l u r = (to, λ c. rw (← c.1, c.2) (fit_built p l (numbered c.0) unbound (numbered_coded c.0)))
    where
      to : fit p u unbound ≡ some r → (l : Letters) × (build t (numbered l) p ≡ u) × (r ≡ over p (numbered l) unbound)
      to e =
          let d = meets p u unbound r (Said p unbound) (said p l unbound) e in
          let same : Agree p (numbered (letters_of r)) r = λ j h. named r (d.2 (λ j h. refl)) j (low p l j h) in
          (letters_of r, agree_build p (numbered (letters_of r)) r same ∙ d.0, over_same p (numbered (letters_of r)) unbound r same d.1)

  -- no left side fits in two ways
  pub fits-once : (p : Pattern) → left_side? p ≡ true → (l m : Letters) → build t (numbered l) p ≡ build t (numbered m) p → Agree p (numbered l) (numbered m)
  fits-once p i l m e j h =
      over_agree p (numbered l) unbound j h
      ∙ (ap (λ s. s j) (some-injective _ _ (sym (fit_built p i (numbered l) unbound (numbered_coded l)) ∙ (ap (λ u. fit p u unbound) e ∙ fit_built p i (numbered m) unbound (numbered_coded m))))
      ∙ sym (over_agree p (numbered m) unbound j h))

  -- what a law makes of a term depends on the letters of its left side alone
  agree_law : (l : Law) → proper? l ≡ true → (s r : Binding) → Agree l.lhs s r
      → (holds t l.when s ≡ holds t l.when r) × (build t s l.rhs ≡ build t r l.rhs)
  unfolding proper?
  agree_law l i s r e =
      let c = and_true (all? (λ j. has j l.lhs) l.rhs) (all? (λ j. has j l.lhs) (asks l.when)) (and_true (left_side? l.lhs) _ i).1 in
      (agree_holds l.when s r (λ j h. e j (all_has _ (asks l.when) c.1 j h)), agree_build l.rhs s r (λ j h. e j (all_has _ l.rhs c.0 j h)))

  law_iff : (l : Law) → proper? l ≡ true → (u v : Term) → (rewrite t l u ≡ some v) ↔ Fits t l u v
  unfolding proper? rewrite
  law_iff l i u v = (to, from)
    where
      left : left_side? l.lhs ≡ true
      left = (and_true (left_side? l.lhs) _ i).0

      settle : (b : Bool) (w : Term) → cond b (some w) none ≡ some v → (b ≡ true) × (w ≡ v)
      settle true w e = (refl, some-injective _ _ e)
      settle false w e = never e

      to : and_then (fit l.lhs u unbound) (λ s. cond (holds t l.when s) (some (build t s l.rhs)) none) ≡ some v → Fits t l u v
      to e =
          let c = and_then_some (fit l.lhs u unbound) _ e in
          let d = (fit_iff l.lhs left u c.0).0 c.1 in
          let g = agree_law l i (numbered d.0) c.0 (subst (Agree l.lhs (numbered d.0)) (sym d.2) (over_agree l.lhs (numbered d.0) unbound)) in
          let h = settle (holds t l.when c.0) (build t c.0 l.rhs) c.2 in
          record { letters = d.0; left = d.1; condition = g.0 ∙ h.0; right = g.1 ∙ h.1 }

      from : Fits t l u v → and_then (fit l.lhs u unbound) (λ s. cond (holds t l.when s) (some (build t s l.rhs)) none) ≡ some v
      from f =
          let s = numbered f.letters in
          let g = agree_law l i s (over l.lhs s unbound) (over_agree l.lhs s unbound) in
          rw ((fit_iff l.lhs left u (over l.lhs s unbound)).1 (f.letters, f.left, refl), sym g.0 ∙ f.condition, sym g.1 ∙ f.right) refl

-- "that law's left side, as published, fits there …; it gives the plan with the right side put in": each of the thirty-two laws makes v of u
-- exactly when it fits u, as people read it
pub rewrite_iff : (t : Tables) (k : ℕ) → 1 ≤ k → k ≤ highest_law → (u v : Term) → (rewrite t (law_at k) u ≡ some v) ↔ Fits t (law_at k) u v
rewrite_iff t k h i = law_iff t (law_at k) (law_proper k h i)

-- and a step at a place is made exactly when its law fits there
pub step_iff : (t : Tables) (k : ℕ) → 1 ≤ k → k ≤ highest_law → (p : ℕ) (ws vs : List ℕ) → (step t k p ws ≡ some vs) ↔ FitsAt t k p ws vs
step_iff t k h i p ws vs = (
  λ e. let c = step-made t k p ws vs e in record { first = h; last = i; subplan = c.0; side = c.1; there = c.2; fits = (rewrite_iff t k h i c.0 c.1).0 c.3; put_in = c.4 },
  λ f. step_fits t k p ws f.subplan f.side f.there ((rewrite_iff t k h i f.subplan f.side).1 f.fits) ∙ ap some f.put_in,
)

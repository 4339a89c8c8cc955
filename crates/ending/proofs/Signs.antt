-- Each sign with basic operands settles, by its own laws and by the signs that their right sides have; and so each term does.
use Prim.Native.Nat.{ℕ, suc, zero, ◌+◌, ◌≤◌}
use native.Mathlib.Omega.{arith}
use mathlib.Core.Path.{◌≡◌, refl}
use mathlib.Core.Bool.{Bool, true, false}
use mathlib.Core.Option.{some}
use borrow.Author.Tests.{ne_eqb}
use Rattle.tables.specs.Tables.{Tables, actions, communication, below, blocked}
use Rattle.plans.specs.declared.Binary.{Binary}
use Rattle.plans.specs.declared.Binary.TheVariants.{Choice, Sequence, Merge, LeftMerge, CommunicationMerge, Unless}
use Rattle.plans.specs.declared.Unary.{Unary}
use Rattle.plans.specs.declared.Unary.TheVariants.{Priority, Encapsulation}
use Rattle.plans.specs.Term.{Term, act, un, bin, SetNumber, Over}
use Rattle.plans.specs.Basic.{Basic, dead_stop, sum_plan, SumPlan, action, prefix, sum}
use Rattle.laws.specs.Laws.{laws, law_at, rewrite, fit, first_choice, choices as law-count}
use Rattle.laws.proofs.Tables.{Proper}
use Rattle.rewritings.specs.Roots.{first_law}
use Rattle.ending.proofs.Parts.{Fine, Settles, settled, in_one, in_left, in_right, in_two, law-one, law-two}

-- the size of a term, for the merges
unfoldable size : Term → ℕ
size (act a) = 1
size (un o x) = suc (size x)
size (bin o x y) = suc (size x + size y)

some_size : (u : Term) → 1 ≤ size u
unfolding size
some_size (act a) = omega arith
some_size (un o x) = omega arith
some_size (bin o x y) = omega arith

module _ (t : Tables) (ok : Proper t) where
  -- what settles a term, over these tables
  done : {u : Term} → Fine t u → Settles t u
  done {u} f = settled t ok.few u f

  by_law : {o : Binary} {x y v : Term} (k : ℕ) → Fine t x → Fine t y → first_law t first_choice law-count (bin o x y) ≡ some (k, v) → Settles t v → Settles t (bin o x y)
  by_law k f g e s = law-two t ok.few f g k e s

  fine_action : (c : ℕ) → c ≤ actions t → Fine t (act c)
  fine_action zero h = (dead_stop, h)
  fine_action (suc c) h = (sum_plan (action {a = suc c} (omega arith)), h)

  lone : (c : ℕ) → c ≤ actions t → Settles t (act c)
  lone c h = done (fine_action c h)

  -- what holds of actions, of an action before a basic term for which it holds, and of a sum of two, holds of all basic terms
  module _ (P : Term → Type 0) (of_action : (c : ℕ) → c ≤ actions t → P (act c))
      (of_prefix : (c : ℕ) (u : Term) → Fine t (bin Sequence (act c) u) → Fine t u → P u → P (bin Sequence (act c) u))
      (of_sum : (u v : Term) → Fine t (bin Choice u v) → Fine t u → Fine t v → P u → P v → P (bin Choice u v)) where
    mutual
      each-basic : {u : Term} → Basic u → Over (actions t) u → P u
      each-basic dead_stop h = of_action 0 h
      each-basic (sum_plan p) h = each-sum p h

      each-sum : {u : Term} → SumPlan u → Over (actions t) u → P u
      each-sum (action {a = c} l) h = of_action c h
      each-sum (prefix {a = c} {u = u} l b) h = of_prefix c u (sum_plan (prefix l b), h) (b, h.1) (each-basic b h.1)
      each-sum (sum {u = u} {v = v} p q) h = of_sum u v (sum_plan (sum p q), h) (sum_plan p, h.0) (sum_plan q, h.1) (each-sum p h.0) (each-sum q h.1)

    by_parts : (u : Term) → Fine t u → P u
    by_parts u f = each-basic f.0 f.1

  -- choice: laws 7 and 8
  drop-left : {v : Term} → SumPlan v → first_law t first_choice law-count (bin Choice (act 0) v) ≡ some (8, v)
  unfolding first_law rewrite law_at laws fit
  drop-left (action {a = c} h) = rw (ne_eqb c 0 (omega arith))
  drop-left (prefix h b) = refl
  drop-left (sum p q) = refl

  choice : (x y : Term) → Fine t x → Fine t y → Settles t (bin Choice x y)
  unfolding first_law rewrite law_at laws fit
  choice x y f (dead_stop, i) = by_law 7 f (dead_stop, i) refl (done f)
  choice x y (dead_stop, h) (sum_plan q, i) = by_law 8 (dead_stop, h) (sum_plan q, i) (drop-left q) (done (sum_plan q, i))
  choice x y (sum_plan p, h) (sum_plan q, i) = done (sum_plan (sum p q), (h, i))

  choices : {x y : Term} → Settles t x → Settles t y → Settles t (bin Choice x y)
  choices p q = in_two t ok.few p q choice

  -- sequence: laws 5, 6 and 9
  before : (c : ℕ) → c ≤ actions t → (z : Term) → Fine t z → Settles t (bin Sequence (act c) z)
  unfolding first_law rewrite law_at laws fit
  before zero h z g = by_law 9 (dead_stop, h) g refl (lone 0 h)
  before (suc c) h z g = done (sum_plan (prefix {a = suc c} (omega arith) g.0), (h, g.1))

  sequence : (z : Term) → Fine t z → (x : Term) → Fine t x → Settles t (bin Sequence x z)
  unfolding first_law rewrite law_at laws fit
  sequence z g =
      by_parts (λ x. Settles t (bin Sequence x z)) (λ c h. before c h z g)
      (λ c u w f s. by_law 6 w g refl (in_right t ok.few (fine_action c w.1.0) s (before c w.1.0)))
      (λ u v w f h p q. by_law 5 w g refl (choices p q))

  sequences : {x z : Term} → Settles t x → Settles t z → Settles t (bin Sequence x z)
  sequences p q = in_two t ok.few p q (λ x z f g. sequence z g x f)

  -- encapsulation: laws 20 to 23
  module _ (d : ℕ) (number : d ≤ 7) where
    out-law : {x v : Term} (k : ℕ) → Fine t x → first_law t first_choice law-count (un (Encapsulation d) x) ≡ some (k, v) → Settles t v → Settles t (un (Encapsulation d) x)
    out-law k f e s = law-one t ok.few number f k e s

    out-action : (c : ℕ) → c ≤ actions t → Settles t (un (Encapsulation d) (act c))
    unfolding first_law rewrite law_at laws fit
    out-action c h = pick (blocked t d c) refl
      where
        pick : (b : Bool) → blocked t d c ≡ b → Settles t (un (Encapsulation d) (act c))
        pick true e = out-law 21 (fine_action c h) (rw e) (lone 0 (omega arith))
        pick false e = out-law 20 (fine_action c h) (rw e) (lone c h)

    encapsulation : (x : Term) → Fine t x → Settles t (un (Encapsulation d) x)
    unfolding first_law rewrite law_at laws fit
    encapsulation =
        by_parts (λ x. Settles t (un (Encapsulation d) x)) out-action
        (λ c u w f s. out-law 23 w refl (sequences (out-action c w.1.0) s))
        (λ u v w f h p q. out-law 22 w refl (choices p q))

  -- unless: laws 24 to 29, first with an action at the right
  module _ (d : ℕ) (known : d ≤ actions t) where
    right_fine : Fine t (act d)
    right_fine = fine_action d known

    unless_actions : (c : ℕ) → c ≤ actions t → Settles t (bin Unless (act c) (act d))
    unfolding first_law rewrite law_at laws fit
    unless_actions c h = pick (below t c d) refl
      where
        pick : (b : Bool) → below t c d ≡ b → Settles t (bin Unless (act c) (act d))
        pick true e = by_law 25 (fine_action c h) right_fine (rw e) (lone 0 (omega arith))
        pick false e = by_law 24 (fine_action c h) right_fine (rw e) (lone c h)

    unless-action : (x : Term) → Fine t x → Settles t (bin Unless x (act d))
    unfolding first_law rewrite law_at laws fit
    unless-action =
        by_parts (λ x. Settles t (bin Unless x (act d))) unless_actions
        (λ c u w f s. by_law 28 w right_fine refl (sequences (unless_actions c w.1.0) (done f)))
        (λ u v w f h p q. by_law 29 w right_fine refl (choices p q))

  unless : (y : Term) → Fine t y → (x : Term) → Fine t x → Settles t (bin Unless x y)
  unfolding first_law rewrite law_at laws fit
  unless =
      by_parts (λ y. (x : Term) → Fine t x → Settles t (bin Unless x y)) unless-action
      (λ d u w g s x f. by_law 26 f w refl (unless-action d w.1.0 x f))
      (λ u v w g h p q x f. by_law 27 f w refl (in_left t ok.few (p x f) q))

  unlesses : {x y : Term} → Settles t x → Fine t y → Settles t (bin Unless x y)
  unlesses {y = y} p g = in_left t ok.few p (unless y g)

  -- priority: laws 30 to 32
  top-law : {x v : Term} (k : ℕ) → Fine t x → first_law t first_choice law-count (un Priority x) ≡ some (k, v) → Settles t v → Settles t (un Priority x)
  top-law k f e s = law-one t ok.few tt f k e s

  top-action : (c : ℕ) → c ≤ actions t → Settles t (un Priority (act c))
  unfolding first_law rewrite law_at laws fit
  top-action c h = top-law 30 (fine_action c h) refl (lone c h)

  priority : (x : Term) → Fine t x → Settles t (un Priority x)
  unfolding first_law rewrite law_at laws fit
  priority =
      by_parts (λ x. Settles t (un Priority x)) top-action
      (λ c u w f s. top-law 31 w refl (sequences (top-action c w.1.0) s))
      (λ u v w f h p q. top-law 32 w refl (choices (unlesses p h) (unlesses q f)))

  -- communication merge with an action at the left: laws 10, 16 and 19; with a sum there: law 18
  both_actions : (c d : ℕ) → c ≤ actions t → d ≤ actions t → Settles t (bin CommunicationMerge (act c) (act d))
  unfolding first_law rewrite law_at laws fit
  both_actions c d h i = by_law 10 (fine_action c h) (fine_action d i) refl (lone (communication t c d) (ok.range c d h i))

  from-action : (c : ℕ) → c ≤ actions t → (y : Term) → Fine t y → Settles t (bin CommunicationMerge (act c) y)
  unfolding first_law rewrite law_at laws fit
  from-action c h =
      by_parts (λ y. Settles t (bin CommunicationMerge (act c) y)) (λ d i. both_actions c d h i)
      (λ d u w f s. by_law 16 (fine_action c h) w refl (sequences (both_actions c d h w.1.0) (done f)))
      (λ u v w f i p q. by_law 19 (fine_action c h) w refl (choices p q))

  from-sum : (u v y : Term) → Fine t (bin Choice u v) → Fine t y → Settles t (bin CommunicationMerge u y) → Settles t (bin CommunicationMerge v y)
      → Settles t (bin CommunicationMerge (bin Choice u v) y)
  unfolding first_law rewrite law_at laws fit
  from-sum u v y w g p q = by_law 18 w g (sum_first y g) (choices p q)
    where
      sum_first : (y : Term) → Fine t y
          → first_law t first_choice law-count (bin CommunicationMerge (bin Choice u v) y) ≡ some (18, bin Choice (bin CommunicationMerge u y) (bin CommunicationMerge v y))
      sum_first = by_parts _ (λ d i. refl) (λ d x w f s. refl) (λ x z w f h r s. refl)

  -- left merge and communication merge, where smaller merges settle: laws 12 to 15, 17 and 19
  module _ (m : ℕ) (smaller : (x y : Term) → Fine t x → Fine t y → size x + size y ≤ m → Settles t (bin Merge x y)) where
    left : (y : Term) → Fine t y → (x : Term) → Fine t x → size x + size y ≤ suc m → Settles t (bin LeftMerge x y)
    unfolding first_law rewrite law_at laws fit size
    left y g =
        by_parts (λ x. size x + size y ≤ suc m → Settles t (bin LeftMerge x y)) (λ c h l. by_law 12 (fine_action c h) g refl (before c h y g))
        (λ c u w f s l. by_law 13 w g refl (sequences (lone c w.1.0) (smaller u y f g (omega arith))))
        (λ u v w f h p q l. by_law 14 w g refl (choices (p (omega arith)) (q (omega arith))))

    from-prefix : (c : ℕ) (x : Term) → Fine t (bin Sequence (act c) x) → Fine t x → (y : Term) → Fine t y → suc (suc (size x)) + size y ≤ suc m
        → Settles t (bin CommunicationMerge (bin Sequence (act c) x) y)
    unfolding first_law rewrite law_at laws fit size
    from-prefix c x w f =
        by_parts (λ y. suc (suc (size x)) + size y ≤ suc m → Settles t (bin CommunicationMerge (bin Sequence (act c) x) y))
        (λ d i l. by_law 15 w (fine_action d i) refl (sequences (both_actions c d w.1.0 i) (done f)))
        (λ d y v g s l. by_law 17 w v refl (sequences (both_actions c d w.1.0 v.1.0) (smaller x y f g (omega arith))))
        (λ y z v g i p q l. by_law 19 w v refl (choices (p (omega arith)) (q (omega arith))))

    communicate : (y : Term) → Fine t y → (x : Term) → Fine t x → size x + size y ≤ suc m → Settles t (bin CommunicationMerge x y)
    unfolding size
    communicate y g =
        by_parts (λ x. size x + size y ≤ suc m → Settles t (bin CommunicationMerge x y)) (λ c h l. from-action c h y g)
        (λ c u w f s l. from-prefix c u w f y g (omega arith))
        (λ u v w f h p q l. from-sum u v y w g (p (omega arith)) (q (omega arith)))

  -- merge: law 11, by the size of both operands
  merge : (m : ℕ) (x y : Term) → Fine t x → Fine t y → size x + size y ≤ m → Settles t (bin Merge x y)
  unfolding first_law rewrite law_at laws fit
  merge zero x y f g l = absurd (omega (arith, some_size x))
  merge (suc m) x y f g l =
      by_law 11 f g refl
      (choices (choices (left m (merge m) y g x f l) (left m (merge m) x f y g (omega arith))) (communicate m (merge m) y g x f l))

  -- any sign with basic operands, and so any term
  settles_one : (o : Unary) → SetNumber o → (x : Term) → Fine t x → Settles t (un o x)
  settles_one Priority i x f = priority x f
  settles_one (Encapsulation d) i x f = encapsulation d i x f

  settles_two : (o : Binary) (x y : Term) → Fine t x → Fine t y → Settles t (bin o x y)
  settles_two Choice x y f g = choice x y f g
  settles_two Sequence x y f g = sequence y g x f
  settles_two Merge x y f g = merge (size x + size y) x y f g (omega arith)
  settles_two LeftMerge x y f g = left (size x + size y) (merge (size x + size y)) y g x f (omega arith)
  settles_two CommunicationMerge x y f g = communicate (size x + size y) (merge (size x + size y)) y g x f (omega arith)
  settles_two Unless x y f g = unless y g x f

  pub all_settle : (u : Term) → Over (actions t) u → Settles t u
  all_settle (act c) h = lone c h
  all_settle (un o x) h = in_one t ok.few (all_settle x h.1) (settles_one o h.0)
  all_settle (bin o x y) h = in_two t ok.few (all_settle x h.0) (all_settle y h.1) (settles_two o)

-- The actions before the words of a basic plan are those of the paths of its tree, and of its own.
use Prim.Native.Nat.{ℕ, suc, ◌+◌, ◌≤◌, ◌<◌}
use native.Mathlib.Numerals.{add-one}
use native.Mathlib.Omega.{arith}
use mathlib.Core.Path.{◌≡◌, refl, sym, ap, ◌∙◌, subst}
use mathlib.Core.Bool.{Bool, true, false}
use mathlib.Core.List.{List, [], ◌∷◌, ◌++◌, append_assoc}
use mathlib.Core.Logic.{◌↔◌, inl, inr}
use mathlib.Core.Option.{some}
use lib.Dec.{ltb}
use lib.ListN.{length, get_or}
use borrow.Author.Tests.{lt-ltb, le-ltb, ltb-true, ltb-false}
use Rattle.tables.specs.Tables.{Tables}
use Rattle.plans.specs.declared.Binary.{Binary}
use Rattle.plans.specs.declared.Binary.TheVariants.{Choice, Sequence}
use Rattle.plans.specs.Word.{binary_word}
use Rattle.plans.specs.Term.{Term, act, bin, words, term_of}
use Rattle.plans.specs.Basic.{Basic, dead_stop, sum_plan, SumPlan, action, prefix, sum}
use Rattle.trees.specs.Tree.{Tree, stop, Rest, finish, further}
use Rattle.trees.specs.Meaning.{tree}
use Rattle.paths.specs.Paths.{Whole, Begins}
use Rattle.paths.specs.Subplans.{place_of, Target, subplan, Transition, goes, Transitions, stay, go}
use Rattle.paths.specs.Subplans as subplans
use Rattle.paths.specs.Ends.{PathTo}
use Rattle.paths.specs.Ends as ends
use Rattle.paths.specs.Appearances.{before_second, actions_before}
use Rattle.paths.proofs.Standing.{Standing, size-bin, standing_whole, standing_action, standing_first, standing_second, standing_sign}
use Rattle.paths.proofs.Parts.{plan_size, part_standing, transition_part}
use Rattle.paths.proofs.Ends.{inside, finishing_paths, stuck_paths}

-- the words of an operator: its first operand's, its second's, its own
module _ (s : ℕ) (o : Binary) (x y : Term) (p : ℕ) where
  pub before_in_first : p < s + length (words x) → actions_before s (bin o x y) p ≡ actions_before s x p
  unfolding actions_before
  before_in_first h = rw (lt-ltb p (s + length (words x)) h) refl

  pub before_in_second : s + length (words x) ≤ p → p < s + length (words x) + length (words y)
      → actions_before s (bin o x y) p ≡ before_second o x ++ actions_before (s + length (words x)) y p
  unfolding actions_before
  before_in_second l h = rw (le-ltb p (s + length (words x)) l, lt-ltb p (s + length (words x) + length (words y)) h) refl

  -- where a place of the operator stands
  pub data Within : Type 0 where
    in_first : p < s + length (words x) → Within
    in_second : s + length (words x) ≤ p → p < s + length (words x) + length (words y) → Within
    at_operator : p ≡ place_of s (bin o x y) → Within

  pub within_operator : p < s + length (words (bin o x y)) → Within
  within_operator h = go (ltb p (s + length (words x))) refl (ltb p (s + length (words x) + length (words y))) refl
    where
      last : s + length (words x) + length (words y) ≤ p → p ≡ place_of s (bin o x y)
      last l = omega (arith, size-bin o x y)

      go : (b : Bool) → ltb p (s + length (words x)) ≡ b → (c : Bool) → ltb p (s + length (words x) + length (words y)) ≡ c → Within
      go true d c e = in_first (ltb-true p (s + length (words x)) d)
      go false d true e = in_second (ltb-false p (s + length (words x)) d) (ltb-true p (s + length (words x) + length (words y)) e)
      go false d false e = at_operator (last (ltb-false p (s + length (words x) + length (words y)) e))

pub before_in_factor : (s a : ℕ) (y : Term) (p : ℕ) → s < p → p < suc s + length (words y) → actions_before s (bin Sequence (act a) y) p ≡ a ∷ actions_before (suc s) y p
unfolding words
before_in_factor s a y p l h = rw (← add-one s) (before_in_second s Sequence (act a) y p (omega arith) (omega arith))

-- every basic plan has a path
mutual
  some_path : {u : Term} → Basic u → (s : ℕ) → (ms : List ℕ) × (e : Rest) × (p : ℕ) × PathTo s u ms e p
  some_path dead_stop s = ([], further stop, s, ends.dead_stop)
  some_path (sum_plan b) s = some_path-sum b s

  some_path-sum : {u : Term} → SumPlan u → (s : ℕ) → (ms : List ℕ) × (e : Rest) × (p : ℕ) × PathTo s u ms e p
  some_path-sum (action {a = a} l) s = (a ∷ [], finish, s, ends.action l)
  some_path-sum (prefix {a = a} l b) s = let r = some_path b (suc s) in (a ∷ r.0, r.1, r.2, ends.prefix r.3)
  some_path-sum (sum b c) s = let r = some_path-sum b s in (r.0, r.1, r.2, ends.left r.3)

-- and each that does not finish ends in a dead stop
stuck_end : {s p : ℕ} {u : Term} {ms : List ℕ} {z : Tree} → PathTo s u ms (further z) p → z ≡ stop
stuck_end ends.dead_stop = refl
stuck_end (ends.prefix i) = stuck_end i
stuck_end (ends.left i) = stuck_end i
stuck_end (ends.right i) = stuck_end i

-- a product's second factor stands just behind its first
behind : {n : ℕ} (few : n ≤ 31) {plan : List ℕ} {b s : ℕ} {y : Term} → Standing n plan s (bin Sequence (act b) y) → Standing n plan (suc s) y
unfolding words
behind {n} few {plan} {b} {s} {y} k = subst (λ q. Standing n plan q y) (add-one s) (standing_second few k)

-- a sign is no action
pub signs : (64 ≤ binary_word Choice) × (64 ≤ binary_word Sequence)
unfolding binary_word
signs = (omega arith, omega arith)

-- Action a at place p: a path has it behind the actions before p.
module _ (n : ℕ) (few : n ≤ 31) (plan : List ℕ) (a : ℕ) (live : 1 ≤ a) (small : a ≤ 31) where
  abbrev Shown : ℕ → Term → ℕ → Type 0
  Shown s u p = (ks : List ℕ) × (e : Rest) × (q : ℕ) × PathTo s u (actions_before s u p ++ (a ∷ ks)) e q

  not_sign : {o : Binary} {s p : ℕ} {x y : Term} → Standing n plan s (bin o x y) → get_or plan p 0 ≡ a → p ≡ place_of s (bin o x y) → 64 ≤ binary_word o → ⊥
  not_sign {o} {s} {p} {x} {y} k e q h = let w : get_or plan (place_of s (bin o x y)) 0 ≡ a = subst (λ i. get_or plan i 0 ≡ a) q e in omega (arith, standing_sign few k)

  at_action : {b s p : ℕ} → Standing n plan s (act b) → s ≤ p → p < s + length (words (act b)) → get_or plan p 0 ≡ a → b ≡ a
  unfolding words
  at_action {b} {s} {p} k l h e = let q : p ≡ s = omega arith in sym (standing_action few k) ∙ subst (λ i. get_or plan i 0 ≡ a) q e

  shown-action : {b : ℕ} (s p : ℕ) → 0 < b → b ≡ a → Shown s (act b) p
  unfolding actions_before
  shown-action s p l q = ([], finish, s, rw (← q) (ends.action l))

  shown-first : {b s p : ℕ} {y : Term} → b ≡ a → p < s + length (words (act b)) → Basic y → Shown s (bin Sequence (act b) y) p
  unfolding actions_before
  shown-first {b} {s} {p} {y} q h c = let r = some_path c (suc s) in (r.0, r.1, r.2, rw (before_in_first s Sequence (act b) y p h, ← q) (ends.prefix r.3))

  shown_factor : {b s p : ℕ} {y : Term} → s < p → p < suc s + length (words y) → Shown (suc s) y p → Shown s (bin Sequence (act b) y) p
  shown_factor {b} {s} {p} {y} l h r = (r.0, r.1, r.2, rw (before_in_factor s b y p l h) (ends.prefix r.3))

  shown-left : {s p : ℕ} {x y : Term} → p < s + length (words x) → Shown s x p → Shown s (bin Choice x y) p
  shown-left {s} {p} {x} {y} h r = (r.0, r.1, r.2, rw (before_in_first s Choice x y p h) (ends.left r.3))

  shown-right : {s p : ℕ} {x y : Term} → s + length (words x) ≤ p → p < s + length (words x) + length (words y) → Shown (s + length (words x)) y p → Shown s (bin Choice x y) p
  shown-right {s} {p} {x} {y} l h r = (r.0, r.1, r.2, rw (before_in_second s Choice x y p l h) (ends.right r.3))

  -- both operators, by where the place stands
  product-shown : {b s p : ℕ} {y : Term} → Standing n plan s (bin Sequence (act b) y) → Basic y → s ≤ p → get_or plan p 0 ≡ a
      → (suc s ≤ p → p < suc s + length (words y) → Shown (suc s) y p) → Within s Sequence (act b) y p → Shown s (bin Sequence (act b) y) p
  unfolding words
  product-shown k c low e f (in_first i) = shown-first (at_action (standing_first few k) low i e) i c
  product-shown k c low e f (in_second i j) = shown_factor (omega arith) (omega arith) (f (omega arith) (omega arith))
  product-shown k c low e f (at_operator q) = absurd (not_sign k e q signs.1)

  sum-shown : {s p : ℕ} {x y : Term} → Standing n plan s (bin Choice x y) → get_or plan p 0 ≡ a → (p < s + length (words x) → Shown s x p)
      → (s + length (words x) ≤ p → p < s + length (words x) + length (words y) → Shown (s + length (words x)) y p) → Within s Choice x y p → Shown s (bin Choice x y) p
  sum-shown k e f g (in_first i) = shown-left i (f i)
  sum-shown k e f g (in_second i j) = shown-right i j (g i j)
  sum-shown k e f g (at_operator q) = absurd (not_sign k e q signs.0)

  mutual
    shown : {u : Term} → Basic u → (s : ℕ) → Standing n plan s u → (p : ℕ) → s ≤ p → p < s + length (words u) → get_or plan p 0 ≡ a → Shown s u p
    shown dead_stop s k p l h e = absurd (omega (arith, at_action k l h e))
    shown (sum_plan b) s k p l h e = shown-sum b s k p l h e

    shown-sum : {u : Term} → SumPlan u → (s : ℕ) → Standing n plan s u → (p : ℕ) → s ≤ p → p < s + length (words u) → get_or plan p 0 ≡ a → Shown s u p
    shown-sum (action l) s k p low h e = shown-action s p l (at_action k low h e)
    shown-sum (prefix {a = b} {u = y} l c) s k p low h e =
        product-shown k c low e (λ i j. shown c (suc s) (behind few k) p i j e) (within_operator s Sequence (act b) y p h)
    shown-sum (sum {u = x} {v = y} b c) s k p low h e =
        sum-shown k e (λ i. shown-sum b s (standing_first few k) p low i e) (λ i j. shown-sum c (s + length (words x)) (standing_second few k) p i j e) (within_operator s Choice x y p h)

-- And the other way round: an action on a path stands at a place, and before it those before that place.
cons_heads : {a b : ℕ} {ms ks : List ℕ} → a ∷ ms ≡ b ∷ ks → a ≡ b
cons_heads e = cc

cons_tails : {a b : ℕ} {ms ks : List ℕ} → a ∷ ms ≡ b ∷ ks → ms ≡ ks
cons_tails e = cc

nothing-after : {A : Type 0} (ms : List ℕ) (a : ℕ) (ks : List ℕ) → [] ≡ ms ++ (a ∷ ks) → A
nothing-after [] a ks e = let q : ◌≡◌ {A = ℕ} 0 1 = cc in absurd (omega arith)
nothing-after (m ∷ ms) a ks e = let q : ◌≡◌ {A = ℕ} 0 1 = cc in absurd (omega arith)

module _ (n : ℕ) (few : n ≤ 31) (plan : List ℕ) (a : ℕ) (ks : List ℕ) where
  record Appears (s : ℕ) (u : Term) (ms : List ℕ) : Type 0 where
    place : ℕ
    low : s ≤ place
    high : place < s + length (words u)
    word : get_or plan place 0 ≡ a
    before : actions_before s u place ≡ ms

  appears-action : {s b : ℕ} → Standing n plan s (act b) → b ≡ a → Appears s (act b) []
  unfolding words actions_before
  appears-action {s} k d = record { place = s; low = omega arith; high = omega arith; word = standing_action few k ∙ d; before = refl }

  appears-first : {s b : ℕ} {y : Term} → Standing n plan s (bin Sequence (act b) y) → b ≡ a → Appears s (bin Sequence (act b) y) []
  unfolding words actions_before
  appears-first {s} {b} {y} k d =
      record {
        place = s;
        low = omega arith;
        high = omega (arith, size-bin Sequence (act b) y);
        word = standing_action few (standing_first few k) ∙ d;
        before = before_in_first s Sequence (act b) y s (omega arith);
      }

  appears_factor : {s b m : ℕ} {y : Term} {ms : List ℕ} → b ≡ m → Appears (suc s) y ms → Appears s (bin Sequence (act b) y) (m ∷ ms)
  unfolding words
  appears_factor {s} {b} {y = y} d r =
      record {
        place = r.place;
        low = omega (arith, r.low);
        high = omega (arith, r.high, size-bin Sequence (act b) y);
        word = r.word;
        before = rw (before_in_factor s b y r.place (omega (arith, r.low)) r.high, r.before, d) refl;
      }

  appears-left : {s : ℕ} {x y : Term} {ms : List ℕ} → Appears s x ms → Appears s (bin Choice x y) ms
  appears-left {s} {x} {y} r =
      record {
        place = r.place;
        low = r.low;
        high = omega (arith, r.high, size-bin Choice x y);
        word = r.word;
        before = before_in_first s Choice x y r.place r.high ∙ r.before;
      }

  appears-right : {s : ℕ} {x y : Term} {ms : List ℕ} → Appears (s + length (words x)) y ms → Appears s (bin Choice x y) ms
  appears-right {s} {x} {y} r =
      record {
        place = r.place;
        low = omega (arith, r.low);
        high = omega (arith, r.high, size-bin Choice x y);
        word = r.word;
        before = before_in_second s Choice x y r.place r.low r.high ∙ r.before;
      }

  appears : {s q : ℕ} {u : Term} {l : List ℕ} {e : Rest} → PathTo s u l e q → Standing n plan s u → (ms : List ℕ) → l ≡ ms ++ (a ∷ ks) → Appears s u ms
  appears ends.dead_stop k ms d = nothing-after ms a ks d
  appears (ends.action h) k [] d = appears-action k (cons_heads d)
  appears (ends.action h) k (m ∷ ms) d = nothing-after ms a ks (cons_tails d)
  appears (ends.prefix i) k [] d = appears-first k (cons_heads d)
  appears (ends.prefix i) k (m ∷ ms) d = appears_factor (cons_heads d) (appears i (behind few k) ms (cons_tails d))
  appears (ends.left i) k ms d = appears-left (appears i (standing_first few k) ms d)
  appears (ends.right i) k ms d = appears-right (appears i (standing_second few k) ms d)

-- Of a whole plan: some path has action a behind the actions ms exactly when they are those before some word a.
module _ (t : Tables) (n : ℕ) (few : n ≤ 31) (plan : List ℕ) (u : Term) (b : Basic u) (e : term_of n plan ≡ some u) where
  stands : Standing n plan 0 u
  stands = standing_whole n plan u e

  pub path-appears : (ms ks : List ℕ) (a : ℕ) → Whole (tree t u) (ms ++ (a ∷ ks)) → (p : ℕ) × (p < length plan) × (get_or plan p 0 ≡ a) × (actions_before 0 u p ≡ ms)
  path-appears ms ks a l = told (of l)
    where
      of : Whole (tree t u) (ms ++ (a ∷ ks)) → Appears n few plan a ks 0 u ms
      of (inl l) = appears n few plan a ks ((finishing_paths t u b (ms ++ (a ∷ ks))).0 l).1 stands ms refl
      of (inr l) = appears n few plan a ks ((stuck_paths t u b (ms ++ (a ∷ ks))).0 l).1 stands ms refl

      told : Appears n few plan a ks 0 u ms → (p : ℕ) × (p < length plan) × (get_or plan p 0 ≡ a) × (actions_before 0 u p ≡ ms)
      told r = (r.place, omega (arith, r.high, plan_size n few plan u b e), r.word, r.before)

  pub appears-path : (p a : ℕ) → 1 ≤ a → a ≤ 31 → p < length plan → get_or plan p 0 ≡ a → (ks : List ℕ) × Whole (tree t u) (actions_before 0 u p ++ (a ∷ ks))
  appears-path p a live small h w = of (shown n few plan a live small b 0 stands p (omega arith) (omega (arith, plan_size n few plan u b e)) w)
    where
      of : Shown n few plan a live small 0 u p → (ks : List ℕ) × Whole (tree t u) (actions_before 0 u p ++ (a ∷ ks))
      of (ks, finish, q, i) = (ks, inl ((finishing_paths t u b (actions_before 0 u p ++ (a ∷ ks))).1 (q, i)))
      of (ks, further z, q, i) = (ks, inr ((stuck_paths t u b (actions_before 0 u p ++ (a ∷ ks))).1 (q, rw (stuck_end i) at i)))

  -- the same, said of beginnings
  pub appears_exactly : (ms : List ℕ) (a : ℕ) → 1 ≤ a → a ≤ 31
      → Begins (tree t u) (ms ++ (a ∷ [])) ↔ ((p : ℕ) × (p < length plan) × (get_or plan p 0 ≡ a) × (actions_before 0 u p ≡ ms))
  appears_exactly ms a live small = (to, from)
    where
      to : Begins (tree t u) (ms ++ (a ∷ [])) → (p : ℕ) × (p < length plan) × (get_or plan p 0 ≡ a) × (actions_before 0 u p ≡ ms)
      to (ks, l) = path-appears ms ks a (rw (append_assoc ms (a ∷ []) ks) at l)

      from : (p : ℕ) × (p < length plan) × (get_or plan p 0 ≡ a) × (actions_before 0 u p ≡ ms) → Begins (tree t u) (ms ++ (a ∷ []))
      from (p, h, w, q) = let r = appears-path p a live small h w in (r.0, rw (← q, append_assoc (actions_before 0 u p) (a ∷ []) r.0) r.1)

-- Where a path finishes at a word, its actions are those before that word and then the word's own; and so are messages that lead to the subplan just
-- behind a word.
module _ {n : ℕ} (few : n ≤ 31) (plan : List ℕ) where
  abbrev Through : ℕ → Term → ℕ → List ℕ → Type 0
  Through s u p ms = ms ≡ actions_before s u p ++ (get_or plan p 0 ∷ [])

  finish_through : {s p : ℕ} {u : Term} {ms : List ℕ} → PathTo s u ms finish p → Standing n plan s u → Through s u p ms
  unfolding actions_before
  finish_through (ends.action h) k = rw (standing_action few k) refl
  finish_through (ends.prefix {s = s} {a = a} {p = p} {y = y} i) k =
      let h = inside i in rw (before_in_factor s a y p h.0 h.1) (ap (λ l. a ∷ l) (finish_through i (behind few k)))
  finish_through (ends.left {s = s} {p = p} {x = x} {y = y} i) k = rw (before_in_first s Choice x y p (inside i).1) (finish_through i (standing_first few k))
  finish_through (ends.right {s = s} {p = p} {x = x} {y = y} i) k =
      let h = inside i in rw (before_in_second s Choice x y p h.0 h.1) (finish_through i (standing_second few k))

  -- a transition leads to the second factor behind the word that is the message
  record Factor (m s : ℕ) (u : Term) (p : ℕ) : Type 0 where
    low : s ≤ p
    high : p < s + length (words u)
    none_before : actions_before s u p ≡ []
    word : get_or plan p 0 ≡ m

  factor_there : {m s r p : ℕ} {u v : Term} → Transition m s u (subplan r v) → r ≡ suc p → Standing n plan s u → Factor m s u p
  unfolding words actions_before
  factor_there {m} {p = p} (goes {s = s} {y = y}) e k =
      let q : p ≡ s = omega arith in
      record {
        low = omega arith;
        high = omega (arith, size-bin Sequence (act m) y);
        none_before = before_in_first s Sequence (act m) y p (omega arith);
        word = rw q (standing_action few (standing_first few k));
      }
  factor_there {p = p} (subplans.left {s = s} {x = x} {y = y} i) e k =
      let r = factor_there i e (standing_first few k) in
      record { low = r.low; high = omega (arith, r.high, size-bin Choice x y); none_before = before_in_first s Choice x y p r.high ∙ r.none_before; word = r.word }
  factor_there {p = p} (subplans.right {s = s} {x = x} {y = y} i) e k =
      let r = factor_there i e (standing_second few k) in
      record {
        low = omega (arith, r.low);
        high = omega (arith, r.high, size-bin Choice x y);
        none_before = before_in_second s Choice x y p r.low r.high ∙ r.none_before;
        word = r.word;
      }

  -- and the words of that factor have it before theirs
  record Behind (m s : ℕ) (u : Term) (r : ℕ) (v : Term) (q : ℕ) : Type 0 where
    low : s ≤ q
    high : q < s + length (words u)
    one_more : actions_before s u q ≡ m ∷ actions_before r v q

  behind-there : {m s r : ℕ} {u v : Term} → Transition m s u (subplan r v) → (q : ℕ) → r ≤ q → q < r + length (words v) → Behind m s u r v q
  unfolding words
  behind-there {m} (goes {s = s} {y = y}) q l h = record { low = omega arith; high = omega (arith, size-bin Sequence (act m) y); one_more = before_in_factor s m y q l h }
  behind-there (subplans.left {s = s} {x = x} {y = y} i) q l h =
      let r = behind-there i q l h in record { low = r.low; high = omega (arith, r.high, size-bin Choice x y); one_more = before_in_first s Choice x y q r.high ∙ r.one_more }
  behind-there (subplans.right {s = s} {x = x} {y = y} i) q l h =
      let r = behind-there i q l h in
      record { low = omega (arith, r.low); high = omega (arith, r.high, size-bin Choice x y); one_more = before_in_second s Choice x y q r.low r.high ∙ r.one_more }

  record Led (s : ℕ) (u : Term) (p : ℕ) (ms : List ℕ) : Type 0 where
    low : s ≤ p
    high : p < s + length (words u)
    through : Through s u p ms

  led_through : {m s p : ℕ} {u y : Term} {h : Target} {ms : List ℕ} → Transitions h ms (subplan (suc p) y) → Transition m s u h → Standing n plan s u → Led s u p (m ∷ ms)
  led_through {m} stay i k = let f = factor_there i refl k in record { low = f.low; high = f.high; through = rw (f.none_before, f.word) refl }
  led_through {m} {p = p} {h = subplan r v} (go j l) i k =
      let d = led_through l j (part_standing few (transition_part i) k) in
      let b = behind-there i p d.low d.high in record { low = b.low; high = b.high; through = rw b.one_more (ap (λ l. m ∷ l) d.through) }

-- of a whole plan
module _ (n : ℕ) (few : n ≤ 31) (plan : List ℕ) (u : Term) (e : term_of n plan ≡ some u) where
  pub finishes-before : {ms : List ℕ} {p : ℕ} → PathTo 0 u ms finish p → ms ≡ actions_before 0 u p ++ (get_or plan p 0 ∷ [])
  finishes-before i = finish_through few plan i (standing_whole n plan u e)

  pub leads-before : {ms : List ℕ} {p : ℕ} {y : Term} → Transitions (subplan 0 u) ms (subplan (suc p) y) → ms ≡ actions_before 0 u p ++ (get_or plan p 0 ∷ [])
  leads-before (go i l) = (led_through few plan l i (standing_whole n plan u e)).through

-- The pass over a basic plan finds the least place: over the words of each of its parts it finds the least there.
use Rattle.std.specs.Prelude.{Some, None, Option as Maybe}
use Prim.Native.Nat.{ℕ, suc, ◌+◌, ◌-◌, ◌≤◌, ◌<◌}
use native.Mathlib.Numerals.{add-one}
use native.Mathlib.Omega.{arith}
use mathlib.Core.Path.{◌≡◌, refl, sym, ap, ◌∙◌, subst}
use mathlib.Core.Bool.{Bool, true, false, cond, not, ◌&&◌, ◌||◌}
use mathlib.Core.List.{List}
use mathlib.Core.Option.{Option, none, some}
use lib.Dec.{eqb}
use lib.ListN.{length, get_or, set, replicate, length-set, length-replicate, get_or-replicate}
use lib.Seq.{get_or-set_same, get_or-set_other}
use borrow.Author.Tests.{ne_eqb}
use Rattle.areas.specs.Area.{most_words}
use Rattle.plans.specs.declared.Binary.{Binary}
use Rattle.plans.specs.declared.Binary.TheVariants.{Choice, Sequence}
use Rattle.plans.specs.Word.{binary_word}
use Rattle.plans.specs.Term.{Term, act, bin, words, term_of}
use Rattle.plans.specs.Basic.{Basic, dead_stop, sum_plan, SumPlan, action, prefix, sum}
use Rattle.plans.proofs.Accepted.{words_some}
use Rattle.paths.specs.Subplans.{place_of}
use Rattle.paths.specs.Operands.{first_operand}
use Rattle.paths.specs.Appearances.{actions_before}
use Rattle.paths.proofs.Standing.{Standing, size-bin, standing_whole, standing_inside, standing_action, standing_first, standing_second, standing_sign, standing_operand}
use Rattle.paths.proofs.Parts.{plan_size}
use Rattle.paths.proofs.Appearances.{Within, in_first, in_second, at_operator, within_operator, before_in_first, before_in_second, signs}
use Rattle.precedence.specs.Overtaking.{among?, overtakes?, overtaking}
use Rattle.precedence.specs.Pass.{hand_on, early?, pass, passed}
use Rattle.precedence.proofs.Least.{Found, at_place, nowhere, least_found, one_found, found_as}

-- what was found in one stretch, and else what was found before it
abbrev pub or_at : Option ℕ → Maybe ℕ → Maybe ℕ
or_at none at = at
or_at (some p) at = Some p

-- of two stretches the first one's place is the lower
abbrev lower : Option ℕ → Option ℕ → Option ℕ
lower none o = o
lower (some p) o = some p

lower_at : (o w : Option ℕ) (at : Maybe ℕ) → or_at o (or_at w at) ≡ or_at (lower o w) at
lower_at none w at = refl
lower_at (some p) w at = refl

module _ (n : ℕ) (few : n ≤ 31) (plan : List ℕ) (first second : ℕ) (small : second ≤ n) where
  -- the word is the second action, and the first stands neither before the part, which v tells, nor in it before the word
  abbrev pub test : ℕ → Term → Bool → ℕ → Bool
  test s u v q = eqb (get_or plan q 0) second && (not (among? first (actions_before s u q)) && not v)

  -- the pass over the words of the part u that starts at word s
  record Swept (s : ℕ) (u : Term) (seen : List Bool) (at : Maybe ℕ) : Type 0 where
    seen' : List Bool
    place : Option ℕ
    goes : pass n plan first second (s + length (words u)) seen at ≡ pass n plan first second s seen' (or_at place at)
    low : (k : ℕ) → k < s → get_or seen' k false ≡ get_or seen k false
    same_length : length seen' ≡ length seen
    found : Found (test s u (get_or seen (place_of s u) false)) s (length (words u)) place

  -- an action
  action_stays : {s a : ℕ} → a ≤ 31 → Standing n plan s (act a) → (seen : List Bool) → hand_on n plan first second s seen ≡ seen
  unfolding hand_on
  action_stays {s} {a} little k seen = rw (standing_action few k, ne_eqb a 64 (λ q. omega arith), ne_eqb a 65 (λ q. omega arith)) refl

  swept_action : {s a : ℕ} → a ≤ 31 → Standing n plan s (act a) → (seen : List Bool) (at : Maybe ℕ) → Swept s (act a) seen at
  unfolding pass words actions_before among?
  swept_action {s} {a} little k seen at = go (early? n plan first second s seen) refl
    where
      here : s + 1 - 1 ≡ s
      here = omega arith

      over : (b : Bool) → early? n plan first second s seen ≡ b → pass n plan first second (s + 1) seen at ≡ pass n plan first second s seen (cond b (Some s) at)
      over b e = rw (add-one s, action_stays little k seen, e) refl

      only : (q : ℕ) → s ≤ q → q < s + 1 → q ≡ s
      only q l h = omega arith

      go : (b : Bool) → early? n plan first second s seen ≡ b → Swept s (act a) seen at
      go true e =
          record {
            seen' = seen;
            place = some s;
            goes = over true e;
            low = λ j h. refl;
            same_length = refl;
            found = rw here (at_place s (omega arith) (omega arith) e (λ q l h. absurd (omega arith)));
          }
      go false e =
          record {
            seen' = seen;
            place = none;
            goes = over false e;
            low = λ j h. refl;
            same_length = refl;
            found = rw here (nowhere (λ q l h. rw (only q l h) e));
          }

  -- a word that is not the second action
  pass-over : (i : ℕ) (seen seen' : List Bool) (at : Maybe ℕ) → hand_on n plan first second i seen ≡ seen' → eqb (get_or plan i 0) second ≡ false
      → pass n plan first second (suc i) seen at ≡ pass n plan first second i seen' at
  unfolding pass
  pass-over i seen seen' at e d = rw (e, d) refl

  -- an operator: it hands on v to its first operand and w to its second
  record Handed (s : ℕ) (o : Binary) (x y : Term) (seen seen' : List Bool) (v w : Bool) : Type 0 where
    low : (k : ℕ) → k < s → get_or seen' k false ≡ get_or seen k false
    same_length : length seen' ≡ length seen
    to-first : get_or seen' (place_of s x) false ≡ v
    to-second : get_or seen' (place_of (s + length (words x)) y) false ≡ w

  -- the places found in both operands; the operator's own word is none
  join : (s : ℕ) (o : Binary) (x y : Term) (f g h : ℕ → Bool) → f (place_of s (bin o x y)) ≡ false → ((q : ℕ) → q < s + length (words x) → f q ≡ g q)
      → ((q : ℕ) → s + length (words x) ≤ q → q < s + length (words x) + length (words y) → f q ≡ h q) → {p r : Option ℕ}
      → Found g s (length (words x)) p → Found h (s + length (words x)) (length (words y)) r → Found f s (length (words (bin o x y))) (lower p r)
  join s o x y f g h own as_g as_h (at_place p l i e m) j = at_place p l (omega (arith, size-bin o x y)) (as_g p i ∙ e) (λ q a b. as_g q (omega arith) ∙ m q a b)
  join s o x y f g h own as_g as_h (nowhere m) (at_place p l i e d) = at_place p (omega arith) (omega (arith, size-bin o x y)) (as_h p l i ∙ e) (λ q a b. below q a b (within_operator s o x y q (omega (arith, size-bin o x y))))
    where
      below : (q : ℕ) → s ≤ q → q < p → Within s o x y q → f q ≡ false
      below q a b (in_first c) = as_g q c ∙ m q a c
      below q a b (in_second c z) = as_h q c z ∙ d q c b
      below q a b (at_operator c) = absurd (omega (arith, size-bin o x y))
  join s o x y f g h own as_g as_h (nowhere m) (nowhere d) = nowhere (λ q a b. all q a (within_operator s o x y q b))
    where
      all : (q : ℕ) → s ≤ q → Within s o x y q → f q ≡ false
      all q a (in_first c) = as_g q c ∙ m q a c
      all q a (in_second c z) = as_h q c z ∙ d q c z
      all q a (at_operator c) = subst (λ i. f i ≡ false) (sym c) own

  module _ {s : ℕ} {o : Binary} {x y : Term} (k : Standing n plan s (bin o x y)) (sign : 64 ≤ binary_word o) where
    not_second : eqb (get_or plan (place_of s (bin o x y)) 0) second ≡ false
    not_second = rw (standing_sign few k) (ne_eqb (binary_word o) second (λ q. omega arith))

    swept_both : (seen seen' : List Bool) (at : Maybe ℕ) (v w : Bool) → get_or seen (place_of s (bin o x y)) false ≡ v → hand_on n plan first second (place_of s (bin o x y)) seen ≡ seen' → Handed s o x y seen seen' v w
        → ((q : ℕ) → q < s + length (words x) → test s (bin o x y) v q ≡ test s x v q)
        → ((q : ℕ) → s + length (words x) ≤ q → q < s + length (words x) + length (words y) → test s (bin o x y) v q ≡ test (s + length (words x)) y w q)
        → ((l : List Bool) (at : Maybe ℕ) → length l ≡ length seen → Swept (s + length (words x)) y l at) → ((l : List Bool) (at : Maybe ℕ) → length l ≡ length seen → Swept s x l at)
        → Swept s (bin o x y) seen at
    swept_both seen seen' at v w is_v hands h in_x in_y sweep-y sweep-x =
        let b = sweep-y seen' at h.same_length in
        let c = sweep-x b.seen' (or_at b.place at) (b.same_length ∙ h.same_length) in
        record {
          seen' = c.seen';
          place = lower c.place b.place;
          goes = ap (λ j. pass n plan first second j seen at) last ∙ (pass-over (place_of s (bin o x y)) seen seen' at hands not_second ∙ (ap (λ j. pass n plan first second j seen' at) inner ∙ (b.goes ∙ (c.goes ∙ ap (pass n plan first second s c.seen') (lower_at c.place b.place at)))));
          low = λ j l. c.low j l ∙ (b.low j (omega arith) ∙ h.low j l);
          same_length = c.same_length ∙ (b.same_length ∙ h.same_length);
          found = rw is_v
              (join s o x y (test s (bin o x y) v) (test s x v) (test (s + length (words x)) y w) (rw not_second refl) in_x in_y
              (rw (b.low (place_of s x) (omega (arith, words_some x)), h.to-first) at c.found) (rw h.to-second at b.found));
        }
      where
        last : s + length (words (bin o x y)) ≡ suc (place_of s (bin o x y))
        last = omega (arith, words_some (bin o x y))

        inner : place_of s (bin o x y) ≡ s + length (words x) + length (words y)
        inner = omega (arith, size-bin o x y)

  -- a sum
  handed-sum : {s : ℕ} {x y : Term} (seen : List Bool) (v : Bool) → s + length (words (bin Choice x y)) ≤ length seen
      → Handed s Choice x y seen (set (set seen (place_of (s + length (words x)) y) v) (place_of s x) v) v v
  handed-sum {s} {x} {y} seen v room =
      record {
        low = λ k h. get_or-set_other (set seen py v) px k v false (λ e. omega (arith, words_some x)) ∙ get_or-set_other seen py k v false (λ e. omega (arith, words_some x, words_some y));
        same_length = simp length-set;
        to-first = get_or-set_same (set seen py v) px v false (omega (arith, length-set seen py v, size-bin Choice x y, words_some x));
        to-second = get_or-set_other (set seen py v) px py v false (λ e. omega (arith, words_some x, words_some y)) ∙ get_or-set_same seen py v false (omega (arith, size-bin Choice x y, words_some y));
      }
    where
      px : ℕ
      px = place_of s x

      py : ℕ
      py = place_of (s + length (words x)) y

  -- a product: what its second factor is handed is another value
  handed-product : {s : ℕ} {x y : Term} (seen : List Bool) (v w : Bool) → s + length (words (bin Sequence x y)) ≤ length seen
      → Handed s Sequence x y seen (set (set seen (place_of s x) v) (place_of (s + length (words x)) y) w) v w
  handed-product {s} {x} {y} seen v w room =
      record {
        low = λ k h. get_or-set_other (set seen px v) py k w false (λ e. omega (arith, words_some x, words_some y)) ∙ get_or-set_other seen px k v false (λ e. omega (arith, words_some x));
        same_length = simp length-set;
        to-first = get_or-set_other (set seen px v) py px w false (λ e. omega (arith, words_some x, words_some y)) ∙ get_or-set_same seen px v false (omega (arith, size-bin Sequence x y, words_some x));
        to-second = get_or-set_same (set seen px v) py w false (omega (arith, length-set seen px v, size-bin Sequence x y, words_some y));
      }
    where
      px : ℕ
      px = place_of s x

      py : ℕ
      py = place_of (s + length (words x)) y

  operand_place : (s : ℕ) (o : Binary) (x y : Term) → place_of s (bin o x y) - 1 ≡ place_of (s + length (words x)) y
  operand_place s o x y = omega (arith, size-bin o x y, words_some y)

  hand_sum : (i : ℕ) (seen : List Bool) → get_or plan i 0 ≡ binary_word Choice
      → hand_on n plan first second i seen ≡ set (set seen (i - 1) (get_or seen i false)) (first_operand n plan i) (get_or seen i false)
  unfolding hand_on binary_word
  hand_sum i seen e = rw e refl

  hand_product : (i : ℕ) (seen : List Bool) → get_or plan i 0 ≡ binary_word Sequence
      → hand_on n plan first second i seen
      ≡ set (set seen (first_operand n plan i) (get_or seen i false)) (i - 1) (get_or seen i false || eqb (get_or plan (first_operand n plan i) 0) first)
  unfolding hand_on binary_word
  hand_product i seen e = rw e refl

  -- the first operand has its own actions before its words
  as_first : (s : ℕ) (o : Binary) (x y : Term) (v : Bool) (q : ℕ) → q < s + length (words x) → test s (bin o x y) v q ≡ test s x v q
  as_first s o x y v q h = ap (λ l. eqb (get_or plan q 0) second && (not (among? first l) && not v)) (before_in_first s o x y q h)

  swept_sum : {s : ℕ} {x y : Term} → Standing n plan s (bin Choice x y) → (seen : List Bool) (at : Maybe ℕ) → length plan ≤ length seen
      → ((l : List Bool) (at : Maybe ℕ) → length l ≡ length seen → Swept (s + length (words x)) y l at) → ((l : List Bool) (at : Maybe ℕ) → length l ≡ length seen → Swept s x l at)
      → Swept s (bin Choice x y) seen at
  swept_sum {s} {x} {y} k seen at room sweep-y sweep-x =
      swept_both k signs.0 seen _ at v v refl hands (handed-sum seen v (omega (arith, standing_inside few k))) (as_first s Choice x y v) as_second sweep-y sweep-x
    where
      v : Bool
      v = get_or seen (place_of s (bin Choice x y)) false

      hands : hand_on n plan first second (place_of s (bin Choice x y)) seen ≡ set (set seen (place_of (s + length (words x)) y) v) (place_of s x) v
      hands = hand_sum (place_of s (bin Choice x y)) seen (standing_sign few k) ∙ rw (standing_operand few k, operand_place s Choice x y) refl

      as_second : (q : ℕ) → s + length (words x) ≤ q → q < s + length (words x) + length (words y) → test s (bin Choice x y) v q ≡ test (s + length (words x)) y v q
      as_second q l h = ap (λ l. eqb (get_or plan q 0) second && (not (among? first l) && not v)) (before_in_second s Choice x y q l h)

  nothing : (b : Bool) → false ≡ b && false
  nothing true = refl
  nothing false = refl

  -- what a product's second factor is handed tells of its first factor too
  told : (a : ℕ) (v : Bool) (l : List ℕ) (c : Bool) → eqb a first ≡ c → not (eqb a first || among? first l) && not v ≡ not (among? first l) && not (v || c)
  told a true l true e = rw e (nothing (not (among? first l)))
  told a false l true e = rw e (nothing (not (among? first l)))
  told a true l false e = rw e refl
  told a false l false e = rw e refl

  swept_product : {s a : ℕ} {y : Term} → Standing n plan s (bin Sequence (act a) y) → (seen : List Bool) (at : Maybe ℕ) → length plan ≤ length seen
      → ((l : List Bool) (at : Maybe ℕ) → length l ≡ length seen → Swept (s + length (words (act a))) y l at) → ((l : List Bool) (at : Maybe ℕ) → length l ≡ length seen → Swept s (act a) l at)
      → Swept s (bin Sequence (act a) y) seen at
  unfolding words among?
  swept_product {s} {a} {y} k seen at room sweep-y sweep-x =
      swept_both k signs.1 seen _ at v w refl hands (handed-product seen v w (omega (arith, standing_inside few k))) (as_first s Sequence (act a) y v) as_second sweep-y sweep-x
    where
      i : ℕ
      i = place_of s (bin Sequence (act a) y)

      v : Bool
      v = get_or seen i false

      w : Bool
      w = v || eqb a first

      one : s + 1 - 1 ≡ s
      one = omega arith

      factor : get_or plan (first_operand n plan i) 0 ≡ a
      factor = rw (standing_operand few k, one) (standing_action few (standing_first few k))

      hands : hand_on n plan first second i seen ≡ set (set seen (place_of s (act a)) v) (place_of (s + 1) y) w
      hands = hand_product i seen (standing_sign few k) ∙ rw (factor, standing_operand few k, operand_place s Sequence (act a) y) refl

      as_second : (q : ℕ) → s + 1 ≤ q → q < s + 1 + length (words y) → test s (bin Sequence (act a) y) v q ≡ test (s + 1) y w q
      as_second q l h =
          ap (λ l. eqb (get_or plan q 0) second && (not (among? first l) && not v)) (before_in_second s Sequence (act a) y q l h)
          ∙ ap (λ b. eqb (get_or plan q 0) second && b) (told a v (actions_before (s + 1) y q) (eqb a first) refl)

  -- every part of a basic plan
  mutual
    swept : {u : Term} → Basic u → {s : ℕ} → Standing n plan s u → (seen : List Bool) (at : Maybe ℕ) → length plan ≤ length seen → Swept s u seen at
    swept dead_stop k seen at room = swept_action (omega arith) k seen at
    swept (sum_plan b) k seen at room = swept_summands b k seen at room

    swept_summands : {u : Term} → SumPlan u → {s : ℕ} → Standing n plan s u → (seen : List Bool) (at : Maybe ℕ) → length plan ≤ length seen → Swept s u seen at
    swept_summands (action l) k seen at room = swept_action (omega (arith, k.over)) k seen at
    swept_summands (prefix l b) k seen at room =
        swept_product k seen at room (λ q i e. swept b (standing_second few k) q i (omega arith)) (λ q i e. swept_action (omega (arith, k.over.0)) (standing_first few k) q i)
    swept_summands (sum b c) k seen at room =
        swept_sum k seen at room (λ q i e. swept_summands c (standing_second few k) q i (omega arith)) (λ q i e. swept_summands b (standing_first few k) q i (omega arith))

  -- the whole plan
  module _ (u : Term) (b : Basic u) (e : term_of n plan ≡ some u) (fits : length plan ≤ most_words) where
    blank : ◌≡◌ {A = Bool} (get_or (replicate most_words false) (place_of 0 u) false) false
    blank = get_or-replicate {A = Bool} most_words (place_of 0 u) false false (omega (arith, plan_size n few plan u b e, words_some u))

    sweep : Swept 0 u (replicate most_words false) None
    sweep = swept b (standing_whole n plan u e) (replicate most_words false) None (omega (arith, length-replicate {A = Bool} most_words false))

    as_overtakes : (q : ℕ) → test 0 u false q ≡ overtakes? plan u first second q
    unfolding overtakes?
    as_overtakes q = ap (λ c. eqb (get_or plan q 0) second && c) (all (not (among? first (actions_before 0 u q))))
      where
        all : (c : Bool) → c && true ≡ c
        all true = refl
        all false = refl

    place_found : sweep.place ≡ overtaking n plan first second
    unfolding overtaking
    place_found =
        rw e
        (one_found (overtakes? plan u first second)
        (found_as as_overtakes (rw (← plan_size n few plan u b e) (rw blank at sweep.found))) (least_found (overtakes? plan u first second) 0 (length plan)))

    -- the place is that of a word of the plan
    pub overtaking_found : Found (overtakes? plan u first second) 0 (length plan) (overtaking n plan first second)
    unfolding overtaking
    overtaking_found = rw e (least_found (overtakes? plan u first second) 0 (length plan))

    pub passed_finds : passed n plan first second ≡ or_at (overtaking n plan first second) None
    unfolding passed pass
    passed_finds =
        ap (λ j. pass n plan first second j (replicate most_words false) None) all
        ∙ (sweep.goes ∙ ap (λ o. or_at o None) place_found)
      where
        all : length plan ≡ 0 + length (words u)
        all = omega (arith, plan_size n few plan u b e)

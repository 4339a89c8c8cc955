-- A law tried at a plan's last word fits exactly where it rewrites the subplan there, and its right side, written out, is what it gives.
use Prim.Native.Nat.{ℕ, suc, zero, ◌+◌, ◌-◌, ◌≤◌, ◌<◌}
use mathlib.Core.Path.{◌≡◌, refl, sym, ◌∙◌, ap, subst}
use mathlib.Core.Bool.{Bool, true, false, cond, ◌&&◌, not}
use mathlib.Core.List.{List, [], ◌∷◌, ◌++◌, append-nil}
use mathlib.Core.Option.{Option, none, some}
use native.Mathlib.Omega.{arith}
use lib.ListN.{length, get_or, take, drop}
use lib.Seq.{get_or-drop}
use lib.Dec.{eqb}
use borrow.Author.Tests.{eqb-true, ne_eqb}
use Rattle.tables.specs.Tables.{Tables, communication, below, blocked}
use Rattle.plans.specs.Term.{Term, words, and_then}
use Rattle.laws.specs.Laws.{laws, law_at, Condition, always, same_words, a_in_set, a_not_in_set, a_below_b, a_not_below_b, Binding, unbound, number, holds, build, rewrite, highest_law}
use Rattle.matching.specs.Start.{Ready}
use Rattle.matching.specs.Left.{back, match_words, no_places, Matched}
use Rattle.plans.specs.Place.{part}
use Rattle.matching.specs.Check.{letter, check_at, word_from, set_from, holds_of}
use Rattle.matching.specs.Right.{spelled_law, Reaches}
use Rattle.rewritings.specs.Roots.{law_term}
use Rattle.matching.specs.declared.Letters.{Letters}
use Rattle.matching.specs.Tried.{Tried, fails as law_fails, fits as law_fits}
use Rattle.std.specs.Prelude.{Some, None}
use Rattle.matching.specs.declared.condition.Check.{Check}
use Rattle.matching.specs.declared.condition.Check.TheVariants.{Always, Same, InSet, NotInSet, Below, NotBelow}
use Rattle.laws.proofs.Tests.{and_left, and_right, passes, passed}
use Rattle.plans.proofs.Standing.{height}
use Rattle.matching.proofs.Stack.{last_of}
use Rattle.matching.proofs.Sides.{reaches_zeros}
use Rattle.matching.proofs.Fitting.{Rel, letters, plain, Fitted, no_fit, fits, fitted}
use Rattle.matching.proofs.Matching.{match_reaches}
use Rattle.matching.proofs.Building.{covered, built}

-- a part that is one word
first_word : (l : List ℕ) (k c : ℕ) → take k l ≡ c ∷ [] → get_or l 0 0 ≡ c
first_word l zero c e = let q : ◌≡◌ {A = ℕ} 0 1 = cc in absurd (omega arith)
first_word [] (suc k) c e = let q : ◌≡◌ {A = ℕ} 0 1 = cc in absurd (omega arith)
first_word (w ∷ l) (suc k) c e = cc

part-one : (plan : List ℕ) (f g c : ℕ) → part f g plan ≡ c ∷ [] → get_or plan f 0 ≡ c
part-one plan f g c e =
    let q : f + 0 ≡ f = omega arith in
    rw (← q) (sym (get_or-drop f plan 0 0) ∙ first_word (drop f plan) (g - f) c e)

module _ (plan : List ℕ) (L : ℕ → Bool) (b : Binding) (f g : List ℕ) (r : Rel plan L b f g) where
  action_is : (k : ℕ) → 3 ≤ k → k < 5 → L k ≡ true → word_from plan f k ≡ number (b k)
  unfolding word_from letter words
  action_is k l u h =
      let w : words (b k) ≡ number (b k) ∷ [] = ap words (r.fine k (omega arith) h l) in
      let z : eqb k 5 ≡ false = ne_eqb k 5 (λ q. omega arith) in
      part-one plan (get_or f k 0) (get_or g k 0) (number (b k)) (r.reach k (omega arith) h ∙ rw z w)

  set_is : L 5 ≡ true → set_from plan f ≡ number (b 5)
  unfolding set_from word_from letter
  set_is h = rw (part-one plan (get_or f 5 0) (get_or g 5 0) (80 + number (b 5)) (r.reach 5 (omega arith) h)) (omega arith)

-- the letters that a condition speaks of
unfoldable needs_letters : Condition → (ℕ → Bool) → Bool
needs_letters always L = true
needs_letters same_words L = L 0 && L 1
needs_letters a_in_set L = L 5 && L 3
needs_letters a_not_in_set L = L 5 && L 3
needs_letters a_below_b L = L 3 && L 4
needs_letters a_not_below_b L = L 3 && L 4

abbrev pub check_for : Condition → Check
check_for always = Always
check_for same_words = Same
check_for a_in_set = InSet
check_for a_not_in_set = NotInSet
check_for a_below_b = Below
check_for a_not_below_b = NotBelow

-- a condition on the words is that on what the letters stand for
module _ (t : Tables) (plan : List ℕ) (L : ℕ → Bool) (b : Binding) (f g : List ℕ) (r : Rel plan L b f g) where
  a_is : L 3 ≡ true → word_from plan f 3 ≡ number (b 3)
  a_is h = action_is plan L b f g r 3 (omega arith) (omega arith) h

  b_is : L 4 ≡ true → word_from plan f 4 ≡ number (b 4)
  b_is h = action_is plan L b f g r 4 (omega arith) (omega arith) h

  entry_is : L 3 && L 4 ≡ true → communication t (word_from plan f 3) (word_from plan f 4) ≡ communication t (number (b 3)) (number (b 4))
  entry_is h = rw (a_is (and_left (L 3) (L 4) h), b_is (and_right (L 3) (L 4) h))

  set_test : L 5 && L 3 ≡ true → blocked t (set_from plan f) (word_from plan f 3) ≡ blocked t (number (b 5)) (number (b 3))
  set_test h = rw (set_is plan L b f g r (and_left (L 5) (L 3) h), a_is (and_right (L 5) (L 3) h))

  below_test : L 3 && L 4 ≡ true → below t (word_from plan f 3) (word_from plan f 4) ≡ below t (number (b 3)) (number (b 4))
  below_test h = rw (a_is (and_left (L 3) (L 4) h), b_is (and_right (L 3) (L 4) h))

  holds_same : (c : Condition) → needs_letters c L ≡ true → holds_of (check_for c) t plan f g ≡ holds t c b
  unfolding needs_letters holds_of holds
  holds_same always h = refl
  holds_same same_words h = rw (r.reach 0 (omega arith) (and_left (L 0) (L 1) h), r.reach 1 (omega arith) (and_right (L 0) (L 1) h))
  holds_same a_in_set h = set_test h
  holds_same a_not_in_set h = ap not (set_test h)
  holds_same a_below_b h = below_test h
  holds_same a_not_below_b h = ap not (below_test h)

-- What holds of each of the thirty-two laws, by computation.
nothing : ℕ → Bool
nothing k = false

abbrev check_number : Check → ℕ
check_number Always = 0
check_number Same = 1
check_number InSet = 2
check_number NotInSet = 3
check_number Below = 4
check_number NotBelow = 5

abbrev number_check : ℕ → Check
number_check zero = Always
number_check (suc zero) = Same
number_check (suc (suc zero)) = InSet
number_check (suc (suc (suc zero))) = NotInSet
number_check (suc (suc (suc (suc zero)))) = Below
number_check (suc (suc (suc (suc (suc k))))) = NotBelow

back-again : (c : Check) → number_check (check_number c) ≡ c
back-again Always = refl
back-again Same = refl
back-again InSet = refl
back-again NotInSet = refl
back-again Below = refl
back-again NotBelow = refl

same_check : (c d : Check) → eqb (check_number c) (check_number d) ≡ true → c ≡ d
same_check c d e = sym (back-again c) ∙ ap number_check (eqb-true (check_number c) (check_number d) e) ∙ back-again d

-- the left side has no table entry, its letters are all that the right side and the condition speak of, and the code's condition is the law's
well : ℕ → Bool
well k =
    plain (law_at k).lhs
    && (covered (law_at k).rhs (letters (law_at k).lhs nothing)
    && (needs_letters (law_at k).when (letters (law_at k).lhs nothing) && eqb (check_number (check_at k)) (check_number (check_for (law_at k).when))))

all_well : passes (λ j. well (suc j)) highest_law ≡ true
unfolding well nothing plain covered letters needs_letters check_at law_at laws
all_well = refl

start_rel : (plan f g : List ℕ) → length f ≡ 7 → length g ≡ 7 → Rel plan nothing unbound f g
unfolding nothing
start_rel plan f g h l =
    record { from_long = h; to_long = l; reach = λ j m e. absurd (no e); fine = λ j m e. absurd (no e) }
  where
    no : false ≡ true → ⊥
    no e = let q : ◌≡◌ {A = ℕ} 0 1 = cc in omega arith

module _ (k : ℕ) (low : 1 ≤ k) (high : k ≤ highest_law) where
  all : well k ≡ true
  all = let e : suc (k - 1) ≡ k = omega arith in rw e at (passed (λ j. well (suc j)) highest_law all_well (k - 1) (omega arith))

  L : ℕ → Bool
  L = letters (law_at k).lhs nothing

  is_plain : plain (law_at k).lhs ≡ true
  unfolding well
  is_plain = and_left _ _ all

  is_covered : covered (law_at k).rhs L ≡ true
  unfolding well L
  is_covered = and_left _ _ (and_right (plain (law_at k).lhs) _ all)

  is_needed : needs_letters (law_at k).when L ≡ true
  unfolding well L
  is_needed = and_left _ _ (and_right (covered (law_at k).rhs L) _ (and_right (plain (law_at k).lhs) _ all))

  pub is_check : check_at k ≡ check_for (law_at k).when
  unfolding well L
  is_check = same_check _ _ (and_right (needs_letters (law_at k).when L) _ (and_right (covered (law_at k).rhs L) _ (and_right (plain (law_at k).lhs) _ all)))

  -- the law tried with letters from f to g: whether it holds
  data Held (t : Tables) (plan f g : List ℕ) : Option Term → Bool → Type 0 where
    not_held : Held t plan f g none false
    held : (v : Term) → spelled_law t k plan f g ≡ words v → Held t plan f g (some v) true

  -- the law tried, by what matching came to
  abbrev Guarded : Tables → List ℕ → Option Term → Matched → Type 0
  Guarded t plan o m = Held t plan m.from m.to o (m.ok && holds_of (check_at k) t plan m.from m.to)

  none_held : {t : Tables} {plan f g : List ℕ} {o : Option Term} {b : Bool} → Held t plan f g o b → b ≡ false → Tried t k plan o None
  none_held not_held e = law_fails
  none_held (held v s) e = let q : ◌≡◌ {A = ℕ} 0 1 = cc in absurd (omega (arith, q))

  one_held : {t : Tables} {plan : List ℕ} {o : Option Term} {b : Bool} (l : Letters) → Reaches plan l.from l.to → Held t plan l.from l.to o b → b ≡ true
      → Tried t k plan o (Some l)
  one_held l r not_held e = let q : ◌≡◌ {A = ℕ} 0 1 = cc in absurd (omega (arith, q))
  one_held l r (held v s) e = law_fits v l r s

  after : (t : Tables) (n : ℕ) (plan : List ℕ) (s : List Term) {o : Option Binding} {m : Matched} → Fitted n plan s [] L o m
      → Guarded t plan (and_then o (λ b. cond (holds t (law_at k).when b) (some (build t b (law_at k).rhs)) none)) m
  unfolding match_words spelled_law
  after t n plan s (no_fit m e) = rw e not_held
  after t n plan s (fits b f g r) = go (holds t (law_at k).when b) (rw is_check (holds_same t plan L b f g r (law_at k).when is_needed))
    where
      go : (v : Bool) → holds_of (check_at k) t plan f g ≡ v → Guarded t plan (cond v (some (build t b (law_at k).rhs)) none) (record { ok = true; from = f; to = g })
      go true e = rw e (held _ (built t plan L b f g r _ (entry_is t plan L b f g r) (law_at k).rhs is_covered))
      go false e = rw e not_held

  -- the law tried at the last word, by what matching its left side comes to
  module _ (t : Tables) {n : ℕ} {plan starts : List ℕ} (ready : Ready n plan starts) where
    abbrev matched : Matched
    matched = match_words n plan (back (law_at k).lhs) (length plan) no_places no_places

    outcome : Guarded t plan (law_term t n k plan) matched
    unfolding law_term rewrite L
    outcome =
        let d = last_of n plan starts ready in
        let q : match_words n plan (back (law_at k).lhs ++ []) (height (d.term ∷ d.below)) no_places no_places ≡ matched =
        rw (append-nil (back (law_at k).lhs), d.whole) in
        rw d.is_sub
        (subst (Guarded t plan (rewrite t (law_at k) d.term)) q
        (after t n plan d.below (fitted n ready.few plan (law_at k).lhs is_plain d.term d.below [] unbound no_places no_places nothing d.stands (start_rel plan no_places no_places refl refl))))

    pub tried_missed : matched.ok ≡ false → Tried t k plan (law_term t n k plan) None
    tried_missed h = none_held outcome (rw h)

    module _ (l : Letters) (e : matched ≡ record { ok = true; from = l.from; to = l.to }) where
      there : Held t plan l.from l.to (law_term t n k plan) (holds_of (check_at k) t plan l.from l.to)
      there = subst (Guarded t plan (law_term t n k plan)) e outcome

      pub reached : Reaches plan l.from l.to
      reached = subst (λ (m : Matched). Reaches plan m.from m.to) e
          (match_reaches plan n (back (law_at k).lhs) (length plan) no_places no_places (omega arith) (reaches_zeros plan))

      pub tried_held : true ≡ holds_of (check_at k) t plan l.from l.to → Tried t k plan (law_term t n k plan) (Some l)
      tried_held h = one_held l reached there (sym h)

      pub tried_unheld : false ≡ holds_of (check_at k) t plan l.from l.to → Tried t k plan (law_term t n k plan) None
      tried_unheld h = none_held there (sym h)

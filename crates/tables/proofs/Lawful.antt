-- Tables are accepted exactly when they are well formed and meet the published laws of communication and of priority: part by part, and then together.
use Rattle.std.specs.Prelude.{Result, Ok, ⊤}
use Prim.Native.Nat.{ℕ, ◌≤◌, ◌<◌, ◌+◌}
use native.Mathlib.Omega.{arith}
use mathlib.Core.Path.{◌≡◌, refl, sym, ◌∙◌}
use mathlib.Core.Bool.{Bool, true, false, not, ◌&&◌, ◌||◌}
use mathlib.Core.Option.{Option, none}
use mathlib.Core.Logic.{◌↔◌}
use lib.Dec.{eqb, leb, ltb}
use lib.ListN.{length}
use borrow.Author.Tests.{eqb-true, eq-eqb, leb-true, leb-false, le-leb, ltb-true, lt-ltb}
use Rattle.refusals.specs.declared.Refusal.{Refusal}
use Rattle.refusals.specs.Refusal.{judged}
use Rattle.tables.specs.Tables.{Tables, tables_length, most_actions, row_length, set_count, communication_at, priority_at, sets_at, entry_of, marked, actions, communication, below}
use Rattle.tables.specs.Judging.{entry_right, byte_right, set_right, null_right, swap_right, group_right, least_right, order_right, communication_entries, priority_entries, set_entries, communication_refusal, order_refusal, shared_refusal, content_with, content_refusal, table_refusal}
use Rattle.tables.specs.Lawful.{InRange, ZeroRows, ZeroColumns, ZeroFirst, Communication, Priority, Lawful}
use Rattle.refusals.proofs.Judging.{accepts_iff}
use Rattle.tables.proofs.Passing.{AtEntries, AtTriples, all_met, entries_met, triples_met, and_then, counted, measured}

-- one equivalence behind another
chain : {P Q R : Type 0} → P ↔ Q → Q ↔ R → P ↔ R
chain p q = (λ h. q.0 (p.0 h), λ h. p.1 (q.1 h))

-- Entries

small : (m : ℕ) (o : Bool) (v : ℕ) → entry_right m o v ≡ true → v ≤ m
unfolding entry_right
small m true v h = let e = eqb-true v 0 h in omega arith
small m false v h = leb-true v m h

null : (m : ℕ) (o : Bool) (v : ℕ) → o ≡ true → entry_right m o v ≡ true → v ≡ 0
unfolding entry_right
null m true v e h = eqb-true v 0 h
null m false v e h = let z : ◌≡◌ {A = ℕ} 0 1 = cc in absurd (omega arith)

right : (m : ℕ) (o : Bool) (v : ℕ) → v ≤ m → (o ≡ true → v ≡ 0) → entry_right m o v ≡ true
unfolding entry_right
right m true v h e = eq-eqb v 0 (e refl)
right m false v h e = le-leb v m h

or_first : (x y : Bool) → x ≡ true → (x || y) ≡ true
or_first true y e = refl
or_first false y e = let z : ◌≡◌ {A = ℕ} 0 1 = cc in absurd (omega arith)

or_second : (x y : Bool) → y ≡ true → (x || y) ≡ true
or_second true y e = refl
or_second false y e = e

either : {P : Type 0} (x y : Bool) → (x ≡ true → P) → (y ≡ true → P) → (x || y) ≡ true → P
either true y f g h = f refl
either false y f g h = g h

-- the entries of a part of actions by actions, and those of sets
abbrev pub ActionEntries : (ℕ → ℕ → ℕ) → ℕ → ℕ → Type 0
ActionEntries entry n m = InRange entry row_length m × ZeroRows entry row_length n × ZeroColumns entry row_length n

abbrev pub SetEntries : (ℕ → ℕ → ℕ) → ℕ → Type 0
SetEntries entry n = InRange entry set_count 1 × ZeroColumns entry set_count n × ZeroFirst entry set_count

module _ (entry : ℕ → ℕ → ℕ) (n : ℕ) where
  action-entries : (m : ℕ) → AtEntries (λ a b. byte_right n m a b (entry a b)) row_length ↔ ActionEntries entry n m
  unfolding byte_right
  action-entries m = (
    λ h. (
      λ a b i j. small m (ltb n a || ltb n b) (entry a b) (h a b i j),
      λ a b i j l. null m (ltb n a || ltb n b) (entry a b) (or_first _ _ (lt-ltb _ _ l)) (h a b i j),
      λ a b i j l. null m (ltb n a || ltb n b) (entry a b) (or_second (ltb n a) _ (lt-ltb _ _ l)) (h a b i j),
    ),
    λ w a b i j.
        right m (ltb n a || ltb n b) (entry a b) (w.0 a b i j)
        (either (ltb n a) (ltb n b) (λ e. w.1 a b i j (ltb-true _ _ e)) (λ e. w.2 a b i j (ltb-true _ _ e))),
  )

  blocked-entries : AtEntries (λ h a. set_right n a (entry h a)) set_count ↔ SetEntries entry n
  blocked-entries = (
    λ p. (
      λ h a i j. small 1 (eqb a 0 || ltb n a) (entry h a) (p h a i j),
      λ h a i j l. null 1 (eqb a 0 || ltb n a) (entry h a) (or_second (eqb a 0) _ (lt-ltb _ _ l)) (p h a i j),
      λ h i. null 1 true (entry h 0) refl (p h 0 i (omega arith)),
    ),
    λ w h a i j.
        right 1 (eqb a 0 || ltb n a) (entry h a) (w.0 h a i j)
        (either (eqb a 0) (ltb n a) (λ e. rw (eqb-true a 0 e) (w.2 h i)) (λ e. w.1 h a i j (ltb-true _ _ e))),
  )

-- The laws of communication

split : {P : Type 0} (a n : ℕ) → (a ≤ n → P) → (n < a → P) → P
split {P} a n f g = go (leb a n) refl
  where
    go : (b : Bool) → leb a n ≡ b → P
    go true e = f (leb-true a n e)
    go false e = g (leb-false a n e)

zero_where : (o : Bool) (v : ℕ) → (o ≡ true → v ≡ 0) → (not o || eqb v 0) ≡ true
zero_where true v h = eq-eqb v 0 (h refl)
zero_where false v h = refl

module _ (comm : ℕ → ℕ → ℕ) (n : ℕ) (few : n ≤ most_actions) where
  obeyed : AtEntries (null_right comm) row_length → AtEntries (swap_right comm) row_length → AtTriples (group_right comm) n → Communication comm n
  unfolding null_right swap_right group_right
  obeyed nulls swaps groups = record {
    commutative = λ a b i j. eqb-true _ _ (swaps a b (small_action a i) (small_action b j));
    associative = λ a b c i j k. eqb-true _ _ (groups a b c i j k);
    null = λ a i. eqb-true _ _ (nulls 0 a (omega arith) (small_action a i));
  }
    where
      small_action : (a : ℕ) → a ≤ n → a < row_length
      small_action a i = omega (arith, few)

  module _ (rows : ZeroRows comm row_length n) (columns : ZeroColumns comm row_length n) (law : Communication comm n) where
    null_row : (b : ℕ) → b < row_length → comm 0 b ≡ 0
    null_row b j = split b n (λ r. law.null b r) (λ r. columns 0 b (omega arith) j r)

    null_column : (a : ℕ) → a < row_length → comm a 0 ≡ 0
    null_column a i = split a n (λ r. law.commutative a 0 r (omega arith) ∙ law.null a r) (λ r. rows a 0 i (omega arith) r)

    nulls_pass : AtEntries (null_right comm) row_length
    unfolding null_right
    nulls_pass a b i j =
        zero_where (eqb a 0 || eqb b 0) (comm a b)
        (either (eqb a 0) (eqb b 0) (λ e. rw (eqb-true a 0 e) (null_row b j)) (λ e. rw (eqb-true b 0 e) (null_column a i)))

    swaps_pass : AtEntries (swap_right comm) row_length
    unfolding swap_right
    swaps_pass a b i j =
        eq-eqb _ _
        (split a n
        (λ r. split b n (λ s. law.commutative a b r s) (λ s. columns a b i j s ∙ sym (rows b a j i s)))
        (λ r. rows a b i j r ∙ sym (columns b a j i r)))

    groups_pass : AtTriples (group_right comm) n
    unfolding group_right
    groups_pass a b c i j k = eq-eqb _ _ (law.associative a b c i j k)

-- The order

never : {P : Type 0} → false ≡ true → P
never e = let z : ◌≡◌ {A = ℕ} 0 1 = cc in absurd (omega arith)

-- the test of a triple, and the conditions that it makes
module _ (lt : ℕ → ℕ → Bool) (a b c : ℕ) (h : order_right lt a b c ≡ true) where
  irreflexive_at : lt a a ≡ true → ⊥
  unfolding order_right
  irreflexive_at i = never (rw i at h)

  asymmetric_at : lt a b ≡ true → lt b a ≡ true → ⊥
  unfolding order_right
  asymmetric_at i j = go (lt a a) (rw (i, j) at h)
    where
      go : (x : Bool) → (not x && false) ≡ true → ⊥
      go true e = never e
      go false e = never e

  transitive_at : lt a b ≡ true → lt b c ≡ true → lt a c ≡ true
  unfolding order_right
  transitive_at i j = go (lt a a) (lt b a) (lt a c) (rw (i, j) at h)
    where
      go : (x y z : Bool) → (not x && (not y && not (not z))) ≡ true → z ≡ true
      go true y z e = never e
      go false true z e = never e
      go false false true e = refl
      go false false false e = e

ordered :
    (x y z u v : Bool)
    → (x ≡ true → ⊥)
    → (y ≡ true → z ≡ true → ⊥)
    → (y ≡ true → u ≡ true → v ≡ true)
    → (not x && (not (y && z) && not (y && (u && not v)))) ≡ true
ordered true y z u v f g h = absurd (f refl)
ordered false true true u v f g h = absurd (g refl refl)
ordered false true false true v f g h = rw (h refl refl)
ordered false true false false v f g h = refl
ordered false false z u v f g h = refl

order_tests : (lt : ℕ → ℕ → Bool) (n : ℕ) → (((a : ℕ) → 1 ≤ a → a < 1 + n → least_right lt a ≡ true) × AtTriples (order_right lt) n) ↔ Priority lt n
unfolding least_right order_right
order_tests lt n = (
  λ h. record {
    irreflexive = λ a i l. irreflexive_at lt a a a (h.1 a a a i i i) l;
    asymmetric = λ a b i j l k. asymmetric_at lt a b a (h.1 a b a i j i) l k;
    transitive = λ a b c i j k l m. transitive_at lt a b c (h.1 a b c i j k) l m;
    minimal = λ a i l. h.0 a l (omega arith);
  },
  λ p. (
    λ a l i. p.minimal a (omega arith) l,
    λ a b c i j k.
        ordered (lt a a) (lt a b) (lt b a) (lt b c) (lt a c) (p.irreflexive a i) (p.asymmetric a b i j) (p.transitive a b c i j k),
  ),
)

-- The parts of tables, with n actions

module _ (t : Tables) (n : ℕ) where
  pub communication_entries-accepted : (communication_entries t n ≡ none) ↔ ActionEntries (communication t) n n
  communication_entries-accepted = chain (entries_met 3 _ communication_at row_length) (action-entries (communication t) n n)

  pub priority_entries-accepted : (start : ℕ) → (priority_entries t start n ≡ none) ↔ ActionEntries (entry_of t start) n 1
  priority_entries-accepted start = chain (entries_met 3 _ start row_length) (action-entries (entry_of t start) n 1)

  pub set_entries-accepted : (start : ℕ) → (set_entries t start n ≡ none) ↔ SetEntries (entry_of t start) n
  set_entries-accepted start = chain (entries_met 3 _ start set_count) (blocked-entries (entry_of t start) n)

  pub communication-accepted : n ≤ most_actions → ActionEntries (communication t) n n → (communication_refusal t n ≡ none) ↔ Communication (communication t) n
  communication-accepted few w =
      chain
      (and_then _ _ (entries_met 4 (null_right (communication t)) communication_at row_length)
      (λ _. and_then _ _ (entries_met 5 (swap_right (communication t)) communication_at row_length) (λ _. triples_met 6 (group_right (communication t)) n))) (
        λ h. obeyed (communication t) n few h.0 h.1.0 h.1.1,
        λ l. (
          nulls_pass (communication t) n few w.1 w.2 l,
          (swaps_pass (communication t) n few w.1 w.2 l, groups_pass (communication t) n few w.1 w.2 l),
        ),
      )

  pub order-accepted : (start : ℕ) → (order_refusal t start n ≡ none) ↔ Priority (marked t start) n
  order-accepted start =
      chain
      (and_then _ _ (all_met (least_right (marked t start)) _ 1 n) (λ _. triples_met 8 (order_right (marked t start)) n))
      (order_tests (marked t start) n)

-- n, communication and the sets that begin at a byte, with what is judged between the two
module _ (t : Tables) (sets : ℕ) (between : Option Refusal) where
  abbrev n : ℕ
  n = actions t

  abbrev pub Shared : Type 0
  Shared =
      ((1 ≤ n) × (n ≤ most_actions))
      × ((ActionEntries (communication t) n n × ((between ≡ none) × SetEntries (entry_of t sets) n)) × Communication (communication t) n)

  pub shared_accepted : (shared_refusal t sets between ≡ none) ↔ Shared
  shared_accepted =
      and_then _ _ (counted n)
      (λ c.
      and_then _ _
      (and_then _ _ (communication_entries-accepted t n) (λ _. and_then _ _ (λ h. h, λ h. h) (λ _. set_entries-accepted t n sets)))
      (λ e. communication-accepted t n c.1 e.0))

-- tables of the right length, with a further condition
all_parts :
    (t : Tables) (further : Option Refusal)
    → (content_with further t ≡ none)
    ↔ (Shared t sets_at (priority_entries t priority_at (actions t)) × ((further ≡ none) × Priority (below t) (actions t)))
unfolding below
all_parts t further =
    and_then _ _ (shared_accepted t sets_at (priority_entries t priority_at (actions t)))
    (λ _. and_then _ _ (λ h. h, λ h. h) (λ _. order-accepted t (actions t) priority_at))

pub content-accepted : (t : Tables) (further : Option Refusal) → length t ≡ tables_length → (content_with further t ≡ none) ↔ (Lawful t × (further ≡ none))
content-accepted t further long =
    chain (all_parts t further) (
      λ h.
          let p = (priority_entries-accepted t (actions t) priority_at).0 h.0.1.0.1.0 in (
            record {
              well_formed = record {
                long = long;
                some_actions = h.0.0.0;
                few_actions = h.0.0.1;
                communication_range = h.0.1.0.0.0;
                communication_row = h.0.1.0.0.1;
                communication_column = h.0.1.0.0.2;
                priority_range = p.0;
                priority_row = p.1;
                priority_column = p.2;
                set_range = h.0.1.0.1.1.0;
                set_column = h.0.1.0.1.1.1;
                set_null = h.0.1.0.1.1.2;
              };
              communication_laws = h.0.1.1;
              priority_laws = h.1.1;
            },
            h.1.0,
          ),
      λ h.
          let w = h.0.well_formed in (
            (
              (w.some_actions, w.few_actions),
              (
                (
                  (w.communication_range, w.communication_row, w.communication_column),
                  (
                    (priority_entries-accepted t (actions t) priority_at).1 (w.priority_range, w.priority_row, w.priority_column),
                    (w.set_range, w.set_column, w.set_null),
                  ),
                ),
                h.0.communication_laws,
              ),
            ),
            (h.1, h.0.priority_laws),
          ),
    )

-- The theorem

-- "Well-formed tables are accepted exactly when they meet the published laws of communication and of priority."
pub accepted_iff_lawful : (t : Tables) → (table_refusal t ≡ none) ↔ Lawful t
unfolding table_refusal content_refusal
accepted_iff_lawful t = (
  λ h. let m = (measured (length t) tables_length (content_with none t)).0 h in ((content-accepted t none m.0).0 m.1).0,
  λ l.
      (measured (length t) tables_length (content_with none t)).1
      (l.well_formed.long, (content-accepted t none l.well_formed.long).1 (l, refl)),
)

-- and so is a call that answers by them
pub answers_lawful : (t : Tables) (r : Result ⊤ Refusal) → r ≡ judged (table_refusal t) → (r ≡ Ok tt) ↔ Lawful t
answers_lawful t r e = accepts_iff (table_refusal t) r (Lawful t) e (accepted_iff_lawful t)

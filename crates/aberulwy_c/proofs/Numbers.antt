-- The numbers that tell answers apart: tables and a plan are refused with 1 to 18, an unfolding and a check with a refusal's number, and a replay that
-- is not accepted ends in 31 to 33.
use Rattle.std.specs.Prelude.{Ok, Err}
use Prim.Native.Nat.{ℕ, suc, ◌+◌, ◌*◌, ◌-◌, ◌≤◌}
use native.Mathlib.Omega.{arith}
use mathlib.Core.Path.{◌≡◌, refl}
use mathlib.Core.Bool.{Bool, true, false, cond, ◌&&◌, ◌||◌, and-eq-true_iff}
use mathlib.Core.List.{List, [], ◌∷◌}
use mathlib.Core.Option.{Option, none, some}
use lib.ListN.{length}
use lib.Dec.{eqb, leb, ltb}
use borrow.Author.Tests.{leb-true}
use Rattle.areas.specs.Area.{most_words}
use Rattle.refusals.specs.declared.Place.TheVariants.{Nowhere, Byte, Triple, Step}
use Rattle.refusals.specs.declared.Refusal.{Refusal}
use Rattle.refusals.specs.declared.Reason.TheVariants.{UnknownWord, TooFewOperands}
use Rattle.refusals.specs.Refusal.{refuse, or_else, number_of}
use Rattle.tables.specs.Search.{first_from, unless_met}
use Rattle.tables.specs.Tables.{Tables, tables_length, most_actions, row_length, set_count, communication_at, priority_at, sets_at, entry_of, marked, actions, communication}
use Rattle.tables.specs.Judging.{byte_right, set_right, null_right, swap_right, group_right, least_right, order_right, first_entry, first_triple, count_refusal, communication_entries, priority_entries, set_entries, communication_refusal, first_not_above, order_refusal, shared_entries, shared_refusal, content_refusal, table_refusal}
use Rattle.plans.specs.Word.{word_of, operands_of}
use Rattle.plans.specs.Judging.{no_word?, turn_of, on_turn, refusal_from, words_refusal, plan_refusal}
use Rattle.laws.specs.Laws.{highest_law, same_bytes}
use Rattle.rewritings.specs.Records.{Recorded, forward, backward, records_of, whole?}
use Rattle.unfolding.specs.Unfolding.{unfold_refusal}
use Rattle.checking.specs.Checking.{Replay, on_step, stop_if, step_of, replay, unknown_law, left_refusal, if_refused, records_refusal, rewriting_refusal, check_refusal}
use Rattle.aberulwy_c.specs.Seen.{RefusalNumber}
use Rattle.aberulwy_c.proofs.Ranges.{Range, Numbered, numbered_or, numbered-cond, numbered-unless, numbered-first}

-- Tables and plans: 1 to 18, and so whatever each number from 1 to 18 is

module _ (P : ℕ → Type 0) (low : (k : ℕ) → Range 18 k → P k) where
  entry_numbers : (k : ℕ) → Range 18 k → (right : ℕ → ℕ → Bool) (start rows : ℕ) → Numbered P (first_entry k right start rows)
  entry_numbers k h right start rows =
      numbered-first P (λ a. first_from (λ b. unless_met (right a b) (record { number = k; place = Byte (start + (row_length * a + b)) })) 0 row_length)
      (λ a.
      numbered-first P (λ b. unless_met (right a b) (record { number = k; place = Byte (start + (row_length * a + b)) }))
      (λ b. numbered-unless P (right a b) (record { number = k; place = Byte (start + (row_length * a + b)) }) (low k h)) 0 row_length)
      0 rows

  triple_numbers : (k : ℕ) → Range 18 k → (right : ℕ → ℕ → ℕ → Bool) (n : ℕ) → Numbered P (first_triple k right n)
  triple_numbers k h right n =
      numbered-first P
      (λ a. first_from (λ b. first_from (λ c. unless_met (right a b c) (record { number = k; place = Triple a b c })) 0 (suc n)) 0 (suc n))
      (λ a.
      numbered-first P (λ b. first_from (λ c. unless_met (right a b c) (record { number = k; place = Triple a b c })) 0 (suc n))
      (λ b.
      numbered-first P (λ c. unless_met (right a b c) (record { number = k; place = Triple a b c }))
      (λ c. numbered-unless P (right a b c) (record { number = k; place = Triple a b c }) (low k h)) 0 (suc n))
      0 (suc n))
      0 (suc n)

  entries_numbers : (t : Tables) (n : ℕ) → Numbered P (shared_entries t sets_at n (priority_entries t priority_at n))
  entries_numbers t n =
      numbered_or P (communication_entries t n) (or_else (priority_entries t priority_at n) (set_entries t sets_at n))
      (entry_numbers 3 (omega arith, omega arith) (λ a b. byte_right n n a b (communication t a b)) communication_at row_length)
      (numbered_or P (priority_entries t priority_at n) (set_entries t sets_at n)
      (entry_numbers 3 (omega arith, omega arith) (λ a b. byte_right n 1 a b (entry_of t priority_at a b)) priority_at row_length)
      (entry_numbers 3 (omega arith, omega arith) (λ h a. set_right n a (entry_of t sets_at h a)) sets_at set_count))

  communication_numbers : (t : Tables) (n : ℕ) → Numbered P (communication_refusal t n)
  communication_numbers t n =
      numbered_or P (first_entry 4 (null_right (communication t)) communication_at row_length)
      (or_else (first_entry 5 (swap_right (communication t)) communication_at row_length) (first_triple 6 (group_right (communication t)) n))
      (entry_numbers 4 (omega arith, omega arith) (null_right (communication t)) communication_at row_length)
      (numbered_or P (first_entry 5 (swap_right (communication t)) communication_at row_length) (first_triple 6 (group_right (communication t)) n)
      (entry_numbers 5 (omega arith, omega arith) (swap_right (communication t)) communication_at row_length)
      (triple_numbers 6 (omega arith, omega arith) (group_right (communication t)) n))

  order_numbers : (t : Tables) (n : ℕ) → Numbered P (order_refusal t priority_at n)
  order_numbers t n =
      numbered_or P (first_not_above t priority_at n) (first_triple 8 (order_right (marked t priority_at)) n)
      (numbered-first P (λ a. unless_met (least_right (marked t priority_at) a) (record { number = 7; place = Byte (priority_at + a) }))
      (λ a. numbered-unless P (least_right (marked t priority_at) a) (record { number = 7; place = Byte (priority_at + a) }) (low 7 (omega arith, omega arith)))
      1 n)
      (triple_numbers 8 (omega arith, omega arith) (order_right (marked t priority_at)) n)

  shared_numbers : (t : Tables) (n : ℕ)
      → Numbered P (or_else (count_refusal n) (or_else (shared_entries t sets_at n (priority_entries t priority_at n)) (communication_refusal t n)))
  shared_numbers t n =
      numbered_or P (count_refusal n) (or_else (shared_entries t sets_at n (priority_entries t priority_at n)) (communication_refusal t n))
      (numbered-cond P (leb 1 n && leb n most_actions) none (refuse 2 Nowhere) tt (low 2 (omega arith, omega arith)))
      (numbered_or P (shared_entries t sets_at n (priority_entries t priority_at n)) (communication_refusal t n) (entries_numbers t n) (communication_numbers t n))

  pub table_numbers : (t : Tables) → Numbered P (table_refusal t)
  unfolding table_refusal content_refusal
  table_numbers t =
      numbered-cond P (eqb (length t) tables_length) (content_refusal t) (refuse 1 Nowhere)
      (numbered_or P (shared_refusal t sets_at (priority_entries t priority_at (actions t))) (order_refusal t priority_at (actions t))
      (shared_numbers t (actions t)) (order_numbers t (actions t)))
      (low 1 (omega arith, omega arith))

  from_numbers : (n p d : ℕ) (ws : List ℕ) → Numbered P (refusal_from n p d ws)
  unfolding refusal_from turn_of
  from_numbers n p d [] = numbered-cond P (eqb d 1) none (refuse 14 Nowhere) tt (low 14 (omega arith, omega arith))
  from_numbers n p d (w ∷ ws) = go (no_word? (word_of n w)) (ltb d (operands_of w)) (λ e. from_numbers n (suc p) e ws)
    where
      go : (x y : Bool) → ((e : ℕ) → Numbered P (refusal_from n (suc p) e ws))
          → Numbered P (on_turn (cond x (Err UnknownWord) (cond y (Err TooFewOperands) (Ok (suc (d - operands_of w))))) (λ e. refusal_from n (suc p) e ws)
          (λ r. refuse (number_of r) (Byte p)))
      go true y h = low 12 (omega arith, omega arith)
      go false true h = low 13 (omega arith, omega arith)
      go false false h = h (suc (d - operands_of w))

  words_numbers : (n : ℕ) (ws : List ℕ) → Numbered P (words_refusal n ws)
  unfolding words_refusal
  words_numbers n ws =
      numbered-cond P (eqb (length ws) 0 || ltb most_words (length ws)) (refuse 11 Nowhere) (refusal_from n 0 0 ws) (low 11 (omega arith, omega arith))
      (from_numbers n 0 0 ws)

  pub plan_numbers : (t : Tables) (ws : List ℕ) → Numbered P (plan_refusal t ws)
  unfolding plan_refusal
  plan_numbers t ws = numbered_or P (table_refusal t) (words_refusal (actions t) ws) (table_numbers t) (words_numbers (actions t) ws)

-- Unfoldings and checks: numbers of refusals

low_refusal : (k : ℕ) → Range 18 k → RefusalNumber k
low_refusal k h = (h.0, λ e. omega (arith, h.1, e.0))

-- 15 besides
long_numbers : (c : ℕ) (plan : List ℕ) → Numbered RefusalNumber (cond (ltb c (length plan)) (refuse 15 Nowhere) none)
long_numbers c plan = numbered-cond RefusalNumber (ltb c (length plan)) (refuse 15 Nowhere) none (low_refusal 15 (omega arith, omega arith)) tt

pub unfold_numbers : (t : Tables) (plan : List ℕ) (c : ℕ) → Numbered RefusalNumber (unfold_refusal t plan c)
unfolding unfold_refusal
unfold_numbers t plan c =
    numbered_or RefusalNumber (plan_refusal t plan) _ (plan_numbers RefusalNumber low_refusal t plan) (long_numbers c plan)

-- 16 to 18 and 75 besides
law_numbers : (i : ℕ) (rs : List Recorded) → Numbered RefusalNumber (unknown_law i rs)
unfolding unknown_law
law_numbers i [] = tt
law_numbers i (forward m ∷ rs) =
    numbered-cond RefusalNumber (leb 1 m.law && leb m.law highest_law) (unknown_law (suc i) rs) (refuse 17 (Step i)) (law_numbers (suc i) rs)
    (low_refusal 17 (omega arith, omega arith))
law_numbers i (backward m left ∷ rs) = law_numbers (suc i) rs

if_numbers : (o r : Option Refusal) → Numbered RefusalNumber r → Numbered RefusalNumber (if_refused o r)
if_numbers none r h = tt
if_numbers (some f) r h = h

left_numbers : (n i : ℕ) (rs : List Recorded) → Numbered RefusalNumber (left_refusal n i rs)
unfolding left_refusal
left_numbers n i [] = tt
left_numbers n i (forward m ∷ rs) = left_numbers n (suc i) rs
left_numbers n i (backward m left ∷ rs) =
    numbered_or RefusalNumber (if_refused (words_refusal n left) (refuse 75 (Step i))) (left_refusal n (suc i) rs)
    (if_numbers (words_refusal n left) (refuse 75 (Step i)) (omega arith, λ e. omega (arith, e.1))) (left_numbers n (suc i) rs)

records_numbers : (n : ℕ) (rewriting : List ℕ) → Numbered RefusalNumber (records_refusal n rewriting)
unfolding records_refusal
records_numbers n rewriting =
    numbered_or RefusalNumber (cond (whole? rewriting) none (refuse 16 Nowhere)) _
    (numbered-cond RefusalNumber (whole? rewriting) none (refuse 16 Nowhere) tt (low_refusal 16 (omega arith, omega arith)))
    (numbered_or RefusalNumber (unknown_law 0 (records_of rewriting)) (left_refusal n 0 (records_of rewriting)) (law_numbers 0 (records_of rewriting))
    (left_numbers n 0 (records_of rewriting)))

pub check_numbers : (t : Tables) (start claimed rewriting : List ℕ) (c : ℕ) → Numbered RefusalNumber (check_refusal t start claimed rewriting c)
unfolding check_refusal rewriting_refusal
check_numbers t start claimed rewriting c =
    numbered_or RefusalNumber (plan_refusal t start) _ (plan_numbers RefusalNumber low_refusal t start)
    (numbered_or RefusalNumber (if_refused (words_refusal (actions t) claimed) (refuse 18 Nowhere)) _
    (if_numbers (words_refusal (actions t) claimed) (refuse 18 Nowhere) (low_refusal 18 (omega arith, omega arith)))
    (numbered_or RefusalNumber (cond (ltb c (length start)) (refuse 15 Nowhere) none) _ (long_numbers c start) (records_numbers (actions t) rewriting)))

-- Replays: 0, or 31 to 33

abbrev pub turned : ℕ → Bool
turned k = leb 31 k && leb k 33

pub turned_range : (k : ℕ) → turned k ≡ true → (31 ≤ k) × (k ≤ 33)
turned_range k h =
    let i = (and-eq-true_iff (leb 31 k) (leb k 33)).0 h in
    (leb-true 31 k i.0, leb-true k 33 i.1)

abbrev pub ends? : ℕ → Bool
ends? k = eqb k 0 || turned k

ends-if : (b : Bool) (x y : Replay) → ends? x.number ≡ true → ends? y.number ≡ true → ends? (stop_if b x (λ u. y)).number ≡ true
ends-if true x y h i = h
ends-if false x y h i = i

pub replay-ends : (t : Tables) (c : ℕ) (claimed : List ℕ) (rs : List Recorded) (k : ℕ) (w v : List ℕ) → ends? (replay t c claimed rs k w v).number ≡ true
unfolding replay
replay-ends t c claimed [] k w v = go (same_bytes w claimed)
  where
    go : (b : Bool) → ends? (cond b 0 33) ≡ true
    go true = refl
    go false = refl
replay-ends t c claimed (r ∷ rs) k w v = go (step_of t r w) (λ next. replay-ends t c claimed rs (suc k) next w)
  where
    go : (o : Option (List ℕ)) → ((next : List ℕ) → ends? (replay t c claimed rs (suc k) next w).number ≡ true)
        → ends?
        (on_step o (record { number = 31; steps = k; plan = w; before = v })
        (λ next. stop_if (ltb c (length next)) (record { number = 32; steps = k; plan = w; before = v })
        (λ u. replay t c claimed rs (suc k) next w))).number
        ≡ true
    go none h = refl
    go (some next) h =
        ends-if (ltb c (length next)) (record { number = 32; steps = k; plan = w; before = v }) (replay t c claimed rs (suc k) next w) refl (h next)

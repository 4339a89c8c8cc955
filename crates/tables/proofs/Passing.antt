-- A condition refuses nothing exactly when its test passes wherever it is made.
use Prim.Native.Nat.{ℕ, zero, suc, ◌≤◌, ◌<◌, ◌+◌, ◌*◌}
use native.Mathlib.Omega.{arith}
use native.Mathlib.Nat.{eq-or-lt_of_le}
use mathlib.Core.Path.{◌≡◌, refl, subst}
use mathlib.Core.Bool.{Bool, true, false, cond, ◌&&◌}
use mathlib.Core.Option.{Option, none, some}
use mathlib.Core.Logic.{◌↔◌, ⊎_elim}
use lib.Dec.{eqb, leb}
use borrow.Author.Tests.{eqb-true, eq-eqb, leb-true, le-leb}
use Rattle.refusals.specs.declared.Place.TheVariants.{Nowhere, Byte, Triple}
use Rattle.refusals.specs.declared.Refusal.{Refusal}
use Rattle.refusals.specs.Refusal.{refuse, or_else}
use Rattle.refusals.proofs.Judging.{none_of_both}
use Rattle.tables.specs.Tables.{most_actions, row_length}
use Rattle.tables.specs.Search.{first_of, first_from, unless_met}
use Rattle.tables.specs.Judging.{first_entry, first_triple, count_refusal}

-- Searches

-- nothing is found by a search exactly when nothing is found at any of its numbers
module _ {A : Type 0} where
  first_none : (o s : Option A) → first_of o s ≡ none → (o ≡ none) × (s ≡ none)
  first_none none s h = (refl, h)
  first_none (some x) s h = let q : ◌≡◌ {A = ℕ} 0 1 = cc in absurd (omega arith)

  none_found : (f : ℕ → Option A) (k m : ℕ) → first_from f k m ≡ none → (i : ℕ) → k ≤ i → i < k + m → f i ≡ none
  unfolding first_from
  none_found f k zero h i p q = absurd (omega arith)
  none_found f k (suc m) h i p q =
      ⊎_elim
      (λ e. subst (λ (j : ℕ). f j ≡ none) e (first_none (f k) (first_from f (suc k) m) h).0)
      (λ l. none_found f (suc k) m (first_none (f k) (first_from f (suc k) m) h).1 i l (omega arith))
      (eq-or-lt_of_le p)

  find_none : (f : ℕ → Option A) (k m : ℕ) → ((i : ℕ) → k ≤ i → i < k + m → f i ≡ none) → first_from f k m ≡ none
  unfolding first_from
  find_none f k zero h = refl
  find_none f k (suc m) h = rw (h k (omega arith) (omega arith)) (find_none f (suc k) m (λ i p q. h i (omega arith) (omega arith)))

  met : (b : Bool) (x : A) → unless_met b x ≡ none → b ≡ true
  met true x h = refl
  met false x h = let q : ◌≡◌ {A = ℕ} 0 1 = cc in absurd (omega arith)

  pub all_met : (right : ℕ → Bool) (what : ℕ → A) (k m : ℕ)
      → (first_from (λ j. unless_met (right j) (what j)) k m ≡ none) ↔ ((i : ℕ) → k ≤ i → i < k + m → right i ≡ true)
  all_met right what k m = (
    λ h i p q. met (right i) (what i) (none_found (λ j. unless_met (right j) (what j)) k m h i p q),
    λ h. find_none (λ j. unless_met (right j) (what j)) k m (λ i p q. rw (h i p q)),
  )

-- a test at each entry of so many rows
abbrev pub AtEntries : (ℕ → ℕ → Bool) → ℕ → Type 0
AtEntries right rows = (a b : ℕ) → a < rows → b < row_length → right a b ≡ true

module _ (k : ℕ) (right : ℕ → ℕ → Bool) (start rows : ℕ) where
  abbrev unmet_entry : ℕ → ℕ → Option Refusal
  unmet_entry a b = unless_met (right a b) (record { number = k; place = Byte (start + (row_length * a + b)) })

  abbrev unmet_row : ℕ → Option Refusal
  unmet_row a = first_from (unmet_entry a) 0 row_length

  pub entries_met : (first_entry k right start rows ≡ none) ↔ AtEntries right rows
  entries_met = (
    λ h a b p q.
        met (right a b) (record { number = k; place = Byte (start + (row_length * a + b)) })
        (none_found (unmet_entry a) 0 row_length (none_found unmet_row 0 rows h a (omega arith) (omega arith)) b (omega arith) (omega arith)),
    λ h. find_none unmet_row 0 rows (λ a p p'. find_none (unmet_entry a) 0 row_length (λ b q q'. rw (h a b (omega arith) (omega arith)))),
  )

-- a test at each triple of actions
abbrev pub AtTriples : (ℕ → ℕ → ℕ → Bool) → ℕ → Type 0
AtTriples right n = (a b c : ℕ) → a ≤ n → b ≤ n → c ≤ n → right a b c ≡ true

module _ (k : ℕ) (right : ℕ → ℕ → ℕ → Bool) (n : ℕ) where
  abbrev unmet_c : ℕ → ℕ → ℕ → Option Refusal
  unmet_c a b c = unless_met (right a b c) (record { number = k; place = Triple a b c })

  abbrev unmet_b : ℕ → ℕ → Option Refusal
  unmet_b a b = first_from (unmet_c a b) 0 (suc n)

  abbrev unmet_a : ℕ → Option Refusal
  unmet_a a = first_from (unmet_b a) 0 (suc n)

  pub triples_met : (first_triple k right n ≡ none) ↔ AtTriples right n
  triples_met = (
    λ h a b c p q r.
        met (right a b c) (record { number = k; place = Triple a b c })
        (none_found (unmet_c a b) 0 (suc n)
        (none_found (unmet_b a) 0 (suc n) (none_found unmet_a 0 (suc n) h a (omega arith) (omega arith)) b (omega arith) (omega arith))
        c
        (omega arith)
        (omega arith)),
    λ h.
        find_none unmet_a 0 (suc n)
        (λ a p p'.
        find_none (unmet_b a) 0 (suc n)
        (λ b q q'. find_none (unmet_c a b) 0 (suc n) (λ c r r'. rw (h a b c (omega arith) (omega arith) (omega arith))))),
  )

-- Refusals in order

-- one condition more: what is accepted by one and by those after it, which are asked where the first accepts
pub and_then : (o s : Option Refusal) {P Q : Type 0} → (o ≡ none) ↔ P → (P → (s ≡ none) ↔ Q) → (or_else o s ≡ none) ↔ (P × Q)
and_then o s p q = (
  λ h. let x = p.0 ((none_of_both o s).0 h).0 in (x, (q x).0 ((none_of_both o s).0 h).1),
  λ h. (none_of_both o s).1 (p.1 h.0, (q h.0).1 h.1),
)

pub counted : (n : ℕ) → (count_refusal n ≡ none) ↔ ((1 ≤ n) × (n ≤ most_actions))
counted n = (λ h. go (leb 1 n) (leb n most_actions) refl refl h, λ h. rw (le-leb 1 n h.0, le-leb n most_actions h.1))
  where
    go : (x y : Bool) → leb 1 n ≡ x → leb n most_actions ≡ y → cond (x && y) none (refuse 2 Nowhere) ≡ none → (1 ≤ n) × (n ≤ most_actions)
    go true true p q h = (leb-true 1 n p, leb-true n most_actions q)
    go true false p q h = let z : ◌≡◌ {A = ℕ} 0 1 = cc in absurd (omega arith)
    go false true p q h = let z : ◌≡◌ {A = ℕ} 0 1 = cc in absurd (omega arith)
    go false false p q h = let z : ◌≡◌ {A = ℕ} 0 1 = cc in absurd (omega arith)

-- a length that is not as it should be is refusal 1
pub measured : (l m : ℕ) (o : Option Refusal) → (cond (eqb l m) o (refuse 1 Nowhere) ≡ none) ↔ ((l ≡ m) × (o ≡ none))
measured l m o = (λ h. go (eqb l m) refl h, λ h. rw (eq-eqb l m h.0) h.1)
  where
    go : (b : Bool) → eqb l m ≡ b → cond b o (refuse 1 Nowhere) ≡ none → (l ≡ m) × (o ≡ none)
    go true e h = (eqb-true l m e, h)
    go false e h = let z : ◌≡◌ {A = ℕ} 0 1 = cc in absurd (omega arith)

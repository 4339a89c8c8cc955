-- The tables that document 01 accepts, in the words of the papers: well_formed entries, the laws of communication C1 to C3
-- (source 000, Table 1) and the four conditions on the priority order (source 000, 1.4), for all actions 0 to n.
use Rattle.std.specs.Prelude.{ℕ, ◌≤◌, ◌<◌, ◌≡◌, Bool, true, length}
use Rattle.tables.specs.Tables.{Tables, tables_length, most_actions, row_length, set_count, priority_at, sets_at, entry_of, actions, communication, below}

-- the entries of a part of so many rows: at most m, and "zero where a row or column of actions exceeds n"
abbrev pub InRange : (ℕ → ℕ → ℕ) → ℕ → ℕ → Type 0
InRange entry rows m = (a b : ℕ) → a < rows → b < row_length → entry a b ≤ m

abbrev pub ZeroRows : (ℕ → ℕ → ℕ) → ℕ → ℕ → Type 0
ZeroRows entry rows n = (a b : ℕ) → a < rows → b < row_length → n < a → entry a b ≡ 0

abbrev pub ZeroColumns : (ℕ → ℕ → ℕ) → ℕ → ℕ → Type 0
ZeroColumns entry rows n = (a b : ℕ) → a < rows → b < row_length → n < b → entry a b ≡ 0

-- "action 0 in no set"
abbrev pub ZeroFirst : (ℕ → ℕ → ℕ) → ℕ → Type 0
ZeroFirst entry rows = (h : ℕ) → h < rows → entry h 0 ≡ 0

-- "Well-formed": length, n, "every entry in range (communication 0 to n; others 0 or 1), zero where a row or column of actions
-- exceeds n, and action 0 in no set"
pub record WellFormed (t : Tables) : Type 0 where
  pub long : length t ≡ tables_length
  pub some_actions : 1 ≤ actions t
  pub few_actions : actions t ≤ most_actions
  pub communication_range : InRange (communication t) row_length (actions t)
  pub communication_row : ZeroRows (communication t) row_length (actions t)
  pub communication_column : ZeroColumns (communication t) row_length (actions t)
  pub priority_range : InRange (entry_of t priority_at) row_length 1
  pub priority_row : ZeroRows (entry_of t priority_at) row_length (actions t)
  pub priority_column : ZeroColumns (entry_of t priority_at) row_length (actions t)
  pub set_range : InRange (entry_of t sets_at) set_count 1
  pub set_column : ZeroColumns (entry_of t sets_at) set_count (actions t)
  pub set_null : ZeroFirst (entry_of t sets_at) set_count

-- the laws of communication, for the actions 0, dead stop, to n
pub record Communication (comm : ℕ → ℕ → ℕ) (n : ℕ) : Type 0 where
  -- C1: a|b = b|a
  pub commutative : (a b : ℕ) → a ≤ n → b ≤ n → comm a b ≡ comm b a
  -- C2: (a|b)|c = a|(b|c)
  pub associative : (a b c : ℕ) → a ≤ n → b ≤ n → c ≤ n → comm (comm a b) c ≡ comm a (comm b c)
  -- C3: δ|a = δ
  pub null : (a : ℕ) → a ≤ n → comm 0 a ≡ 0

-- the conditions 1 to 4 on the priority order, for the actions 0 to n
pub record Priority (lt : ℕ → ℕ → Bool) (n : ℕ) : Type 0 where
  -- 1: not (a < a)
  pub irreflexive : (a : ℕ) → a ≤ n → lt a a ≡ true → ⊥
  -- 2: a < b ⇒ not (b < a)
  pub asymmetric : (a b : ℕ) → a ≤ n → b ≤ n → lt a b ≡ true → lt b a ≡ true → ⊥
  -- 3: a < b & b < c ⇒ a < c
  pub transitive : (a b c : ℕ) → a ≤ n → b ≤ n → c ≤ n → lt a b ≡ true → lt b c ≡ true → lt a c ≡ true
  -- 4: δ < a (if a ≠ δ)
  pub minimal : (a : ℕ) → a ≤ n → 1 ≤ a → lt 0 a ≡ true

-- "Well-formed tables are accepted exactly when they meet the published laws of communication and of priority."
pub record Lawful (t : Tables) : Type 0 where
  pub well_formed : WellFormed t
  pub communication_laws : Communication (communication t) (actions t)
  pub priority_laws : Priority (below t) (actions t)

-- A right side as entries: what its words are as entries, their sizes, how they are put, and the last law that has one.
use Prim.Native.Nat.{ℕ, zero, suc, ◌+◌, ◌-◌, ◌≤◌, ◌<◌}
use mathlib.Core.Path.{◌≡◌, refl}
use mathlib.Core.List.{List, [], ◌∷◌, ◌++◌}
use native.Mathlib.Omega.{arith}
use native.Mathlib.Numerals.{add-one}
use lib.ListN.{length, get_or, drop, drop_of_length-le}
use lib.Seq.{drop-cons}
use borrow.Author.Tests.{lt-ltb, le-ltb}
use Rattle.graph.specs.Graph.{Graph, entry_size, as_word, as_term, ToRead, read_none, read_more}
use Rattle.graph.proofs.Reading.{holds-inside}
use Rattle.redexes.specs.Slots.{entry_for, entries_for, entries_size, SizesReach}
use Rattle.laws.specs.Laws.{highest_law, first_choice}

-- What a word of a right side is as an entry.
module _ (c : ℕ) (slots : List ℕ) where
  pub entry-word : (w : ℕ) → w < 96 → entry_for c slots w ≡ w
  unfolding entry_for
  entry-word w h = rw (lt-ltb w 96 h)

  pub entry-letter : (w : ℕ) → 96 ≤ w → w < 102 → entry_for c slots w ≡ get_or slots (w - 96) 0
  unfolding entry_for
  entry-letter w h l = rw (le-ltb w 96 h, lt-ltb w 102 l)

  pub entry_table : (w : ℕ) → 102 ≤ w → entry_for c slots w ≡ c
  unfolding entry_for
  entry_table w h = rw (le-ltb w 96 (omega arith), le-ltb w 102 h)

  pub entries-append : (a b : List ℕ) → entries_for c slots (a ++ b) ≡ entries_for c slots a ++ entries_for c slots b
  unfolding entries_for
  entries-append [] b = refl
  entries-append (w ∷ a) b = rw (entries-append a b)

-- The sizes of entries from place i on: one more, and none.
module _ (sizes l : List ℕ) (i : ℕ) where
  pub size-more : i < length l → entries_size sizes (drop i l) ≡ entry_size sizes (get_or l i 0) + entries_size sizes (drop (i + 1) l)
  unfolding entries_size
  size-more h = rw (add-one i, drop-cons l i 0 h)

  pub size_none : length l ≤ i → entries_size sizes (drop i l) ≡ 0
  unfolding entries_size
  size_none h = rw (drop_of_length-le l h)

-- The nodes among entries that are written as words are in the graph.
read-inside : {n : ℕ} {g : Graph} {vs ws : List ℕ} → n ≤ 31 → ToRead n g vs ws → (i : ℕ) → i < length vs → 256 ≤ get_or vs i 0 → get_or vs i 0 < length g.own
read-inside few read_none i h k = absurd (omega arith)
read-inside few (read_more (as_word v) r) zero h k = absurd (omega arith)
read-inside few (read_more (as_term j v) r) zero h k = holds-inside v few k
read-inside few (read_more v r) (suc i) h k = read-inside few r i (omega arith) k

pub side-reach : {n : ℕ} {g : Graph} {vs ws : List ℕ} (sizes : List ℕ) → n ≤ 31 → length g.own ≤ length sizes → ToRead n g vs ws → SizesReach vs sizes
side-reach sizes few l r i h k = omega (arith, l, read-inside few r i h k)

-- A law that is none of laws 5 to 31 is the last.
abbrev pub Unlike : ℕ → ℕ → Type 0
Unlike law zero = Unit {0}
Unlike law (suc k) = Unlike law k × (law ≡ 5 + k → ⊥)

unlike_above : (law k : ℕ) → 5 ≤ law → Unlike law k → 5 + k ≤ law
unlike_above law zero h u = h
unlike_above law (suc k) h u = step (unlike_above law k h u.0) u.1
  where
    step : 5 + k ≤ law → (law ≡ 5 + k → ⊥) → 5 + suc k ≤ law
    step a b = omega arith

pub last_law : (law : ℕ) → first_choice ≤ law → law ≤ highest_law → Unlike law 27 → law ≡ 32
last_law law h l u = omega (arith, unlike_above law 27 h u)

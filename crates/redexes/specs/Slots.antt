-- Nobody need believe this file: what it says is carried by the theorem `redex_chosen`. The laws at the root of a term that a graph holds: what a
-- law's letters stand for, in slots, and its right side as entries.
use Rattle.std.specs.Prelude.{ℕ, ◌+◌, ◌-◌, ◌≤◌, ◌<◌, ◌≡◌, cond, List, [], ◌∷◌, length, get_or, ltb, Option as Maybe, Some, None}
use Rattle.std.proofs.Math.Option.{Option, none, some}
use Rattle.areas.specs.Area.{overwrite}
use Rattle.tables.specs.Tables.{Tables, communication}
use Rattle.plans.specs.Term.{Term, words}
use Rattle.laws.specs.Laws.{law_at, highest_law, first_choice, choices}
use Rattle.graph.specs.Graph.{Graph, Root, ToRead, entry_size}
use Rattle.laws.specs.Postfix.{forth}
use Rattle.rewritings.specs.Roots.{first_law}
use Rattle.redexes.specs.declared.Redex.{Redex}
use Rattle.redexes.specs.declared.Placed.{Placed}

-- a node's entry is one of the graph
abbrev pub Entry : Graph → ℕ → Type 0
Entry g v = 256 ≤ v → v < length g.own

-- some term that an operator's word w and its operands' entries a and b stand for
pub record RootTerm (n : ℕ) (g : Graph) (w a b : ℕ) : Type 0 where
  pub term : Term
  pub root : Root n g w a b term

-- the letters of a redex in six slots
abbrev pub slots_of : Redex → List ℕ
slots_of r = r.x ∷ (r.y ∷ (r.z ∷ (r.a ∷ (r.b ∷ (r.set ∷ [])))))

-- one word of a right side as an entry: itself, a letter's entry, or the table entry c
unfoldable pub entry_for : ℕ → List ℕ → ℕ → ℕ
entry_for c slots w = cond (ltb w 96) w (cond (ltb w 102) (get_or slots (w - 96) 0) c)

unfoldable pub entries_for : ℕ → List ℕ → List ℕ → List ℕ
entries_for c slots [] = []
entries_for c slots (w ∷ ws) = entry_for c slots w ∷ entries_for c slots ws

-- the right side of law k as entries
unfoldable pub side_entries : Tables → ℕ → List ℕ → List ℕ
side_entries t k slots = entries_for (communication t (get_or slots 3 0) (get_or slots 4 0)) slots (forth (law_at k).rhs)

-- how many words entries are written as
unfoldable pub entries_size : List ℕ → List ℕ → ℕ
entries_size sizes [] = 0
entries_size sizes (v ∷ vs) = entry_size sizes v + entries_size sizes vs

-- A law is chosen at the root, or none where none fits; its right side, as entries, is written as the term that it gives.
pub data ChosenAt (t : Tables) (n : ℕ) (g : Graph) : Option (ℕ × Term) → Maybe Redex → Type 0 where
  none_at : ChosenAt t n g none None
  chosen_at : (r : Redex) (v : Term) → first_choice ≤ r.law → r.law ≤ highest_law → ToRead n g (side_entries t r.law (slots_of r)) (words v)
      → ChosenAt t n g (some (r.law, v)) (Some r)

pub record ChosenRoot (t : Tables) (n : ℕ) (g : Graph) (w a b : ℕ) (r : Maybe Redex) : Type 0 where
  pub chosen_root : (u : Term) → Root n g w a b u → ChosenAt t n g (first_law t first_choice choices u) r

-- the sizes of all nodes among entries are there
abbrev pub SizesReach : List ℕ → List ℕ → Type 0
SizesReach entries sizes = (i : ℕ) → i < length entries → 256 ≤ get_or entries i 0 → get_or entries i 0 < length sizes

-- what is asked before entries are put before place `rest`: their sizes are there, and there is room for them if they are at most `most` words
pub record PutReady (sizes entries : List ℕ) (rest most : ℕ) : Type 0 where
  pub reach : SizesReach entries sizes
  pub room : entries_size sizes entries ≤ most → length entries ≤ rest

-- entries are put before place `rest` of an area, from `front` on, unless they are more than `most` words
pub data PutBefore (sizes entries todo : List ℕ) (rest most : ℕ) : List ℕ → Maybe Placed → Type 0 where
  put_at : (front size : ℕ) → front + length entries ≡ rest → size ≡ entries_size sizes entries → size ≤ most
      → PutBefore sizes entries todo rest most (overwrite todo front entries) (Some (record { front = front; size = size }))
  too_long : most < entries_size sizes entries → PutBefore sizes entries todo rest most todo None

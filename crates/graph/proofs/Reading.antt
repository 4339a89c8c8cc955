-- Entries and the words that they are written as: how many there are, how they are put together, and how their sizes are told.
use Prim.Native.Nat.{ℕ, suc, ◌≤◌, ◌<◌}
use native.Mathlib.Omega.{arith}
use mathlib.Core.Path.{◌≡◌, refl}
use mathlib.Core.List.{List, [], ◌∷◌, ◌++◌, append_assoc, append-nil}
use lib.ListN.{length, get_or, length-append}
use borrow.Author.Tests.{lt-ltb, le-ltb}
use Rattle.plans.specs.Term.{Term, act, words}
use Rattle.plans.specs.Stack.{spell}
use Rattle.plans.proofs.Accepted.{words_some}
use Rattle.graph.specs.Graph.{Graph, Holds, leaf, one, two, Held, held_none, held_more, Written, as_word, as_term, ToRead, read_none, read_more, ToWrite, write_none, write_more, onto, entry_size}

-- Entries that stand for terms, and the words of those ----------------------------------------------------------------------------------------

module _ {n : ℕ} {g : Graph} where
  -- a node is one of the graph's
  pub holds-inside : {v : ℕ} {u : Term} → Holds n g v u → n ≤ 31 → 256 ≤ v → v < length g.own
  holds-inside (leaf h) few i = absurd (omega arith)
  holds-inside (one i' j e k h) few i = j
  holds-inside (two i' j e h l) few i = j

  pub written-holds : {v : ℕ} {u : Term} → Holds n g v u → n ≤ 31 → Written n g v (words u)
  unfolding words
  written-holds {v} (leaf h) few = as_word {v = v} (omega arith)
  written-holds (one {o} i j e k h) few = as_term i (one {o = o} i j e k h)
  written-holds (two {o} i j e h l) few = as_term i (two {o = o} i j e h l)

  pub written-node : {v : ℕ} {w : List ℕ} → 256 ≤ v → Written n g v w → (u : Term) × Holds n g v u × (w ≡ words u)
  written-node i (as_word h) = absurd (omega arith)
  written-node i (as_term {u} i' h) = (u, h, refl)

  pub written-action : {v : ℕ} {w : List ℕ} → v ≤ n → Written n g v w → n ≤ 31 → w ≡ words (act v)
  unfolding words
  written-action h (as_word l) few = refl
  written-action h (as_term i l) few = absurd (omega arith)

  -- Each entry has a word at least --------------------------------------------------------------------------------------------------------------

  pub written-long : {v : ℕ} {w : List ℕ} → Written n g v w → 1 ≤ length w
  written-long (as_word h) = omega arith
  written-long (as_term {u} i h) = words_some u

  pub to_read-long : {vs ws : List ℕ} → ToRead n g vs ws → length vs ≤ length ws
  to_read-long read_none = omega arith
  to_read-long (read_more {w} {ws} h r) = omega (arith, length-append w ws, written-long h, to_read-long r)

  pub to_write_long : {vs ws : List ℕ} → ToWrite n g vs ws → length vs ≤ length ws
  to_write_long write_none = omega arith
  to_write_long (write_more {w} {ws} h r) = omega (arith, length-append ws w, written-long h, to_write_long r)

  pub held-long : {vs : List ℕ} {us : List Term} → Held n g vs us → (length vs ≤ length (spell us)) × (length vs ≡ length us)
  unfolding spell
  held-long held_none = (omega arith, refl)
  held-long (held_more {u} {us} h r) =
      (omega (arith, length-append (spell us) (words u), words_some u, (held-long r).0), omega (arith, (held-long r).1))

  -- Entries put together ------------------------------------------------------------------------------------------------------------------------

  pub to_read-words : (ws : List ℕ) → ((k : ℕ) → k < length ws → get_or ws k 0 < 256) → ToRead n g ws ws
  to_read-words [] f = read_none
  to_read-words (w ∷ ws) f = read_more (as_word (f 0 (omega arith))) (to_read-words ws (λ k h. f (suc k) (omega arith)))

  pub to_read-append : {vs ws vs' ws' : List ℕ} → ToRead n g vs ws → ToRead n g vs' ws' → ToRead n g (vs ++ vs') (ws ++ ws')
  to_read-append read_none r' = r'
  to_read-append (read_more h r) r' = rw append_assoc (read_more h (to_read-append r r'))

  pub held-to_write : {vs : List ℕ} {us : List Term} → n ≤ 31 → Held n g vs us → ToWrite n g vs (spell us)
  unfolding spell
  held-to_write few held_none = write_none
  held-to_write few (held_more h r) = write_more (written-holds h few) (held-to_write few r)

  pub onto-to_write : {vs ws es left : List ℕ} → ToWrite n g vs ws → ToRead n g es left → ToWrite n g (onto es vs) (ws ++ left)
  unfolding onto
  onto-to_write {ws} t read_none = rw (append-nil ws) t
  onto-to_write t (read_more h r) = rw (← append_assoc) (onto-to_write (write_more h t) r)

-- Sizes ---------------------------------------------------------------------------------------------------------------------------------------

module _ {n : ℕ} {g : Graph} (sizes : List ℕ) (right : (v : ℕ) (u : Term) → 256 ≤ v → Holds n g v u → get_or sizes v 0 ≡ length (words u)) where
  pub sized-written : {v : ℕ} {w : List ℕ} → Written n g v w → entry_size sizes v ≡ length w
  unfolding entry_size
  sized-written (as_word {v} h) = rw (lt-ltb v 256 h)
  sized-written (as_term {v} {u} i h) = rw (le-ltb v 256 i) (right v u i h)

  pub sized-holds : {v : ℕ} {u : Term} → Holds n g v u → n ≤ 31 → entry_size sizes v ≡ length (words u)
  sized-holds h few = sized-written (written-holds h few)

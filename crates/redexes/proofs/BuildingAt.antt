-- A right side as entries is written as the term that it builds.
use Prim.Native.Nat.{ℕ, ◌+◌, ◌-◌, ◌≤◌, ◌<◌}
use mathlib.Core.Path.{◌≡◌, ap}
use mathlib.Core.Bool.{Bool, true, ◌&&◌}
use mathlib.Core.List.{List, [], ◌∷◌, ◌++◌, append_assoc, append-nil}
use native.Mathlib.Omega.{arith}
use lib.ListN.{length, get_or}
use lib.Dec.{ltb, leb}
use borrow.Author.Tests.{ltb-true, leb-true}
use Rattle.tables.specs.Tables.{Tables, communication}
use Rattle.plans.specs.Word.{binary_word, unary_word}
use Rattle.plans.specs.Term.{Term, act, words}
use Rattle.plans.proofs.Words.{binary_range}
use Rattle.graph.specs.Graph.{Graph, Holds, leaf, one, two, Written, as_word, as_term, ToRead, read_none, read_more}
use Rattle.laws.specs.Laws.{Pattern, any, any_action, δ, entry, node, θ, ∂, Binding, number, build}
use Rattle.laws.specs.Postfix.{forth}
use Rattle.redexes.specs.Slots.{entries_for}
use Rattle.laws.proofs.Tests.{and_left, and_right}
use Rattle.redexes.proofs.Entries.{entry-word, entry-letter, entry_table, entries-append}

-- Six slots: x, y, z have entries that stand for terms, a and b are actions, and the last is ∂'s word, which tells its set.
pub record Bound (n : ℕ) (g : Graph) (slots : List ℕ) (s : Binding) : Type 0 where
  pub long : length slots ≡ 6
  pub term : (k : ℕ) → k < 3 → Holds n g (get_or slots k 0) (s k)
  pub action : (k : ℕ) → 3 ≤ k → k < 5 → (s k ≡ act (get_or slots k 0)) × (get_or slots k 0 ≤ n)
  pub set : (get_or slots 5 0 ≡ 80 + number (s 5)) × (number (s 5) ≤ 7)

-- An entry of a term is written as its words.
holds-written : {n : ℕ} {g : Graph} {v : ℕ} {u : Term} → n ≤ 31 → Holds n g v u → Written n g v (words u)
unfolding words
holds-written few (leaf {a} h) = as_word {v = a} (omega arith)
holds-written few (one {o} i j e k h) = as_term i (one {o = o} i j e k h)
holds-written few (two {o} i j e h l) = as_term i (two {o = o} i j e h l)

read-append : {n : ℕ} {g : Graph} {vs vs' ws ws' : List ℕ} → ToRead n g vs ws → ToRead n g vs' ws' → ToRead n g (vs ++ vs') (ws ++ ws')
read-append read_none r = r
read-append {ws'} (read_more {w} {ws} h t) r = rw (append_assoc w ws ws') (read_more h (read-append t r))

read_one : {n : ℕ} {g : Graph} {v : ℕ} {w : List ℕ} → Written n g v w → ToRead n g (v ∷ []) w
read_one {w} h = rw (append-nil w) at (read_more h read_none)

-- The letters of a right side are those that the slots have: plans for 0 to 2, actions for 3 and 4.
unfoldable pub lettered : Pattern → Bool
lettered (any k) = ltb k 3
lettered (any_action k) = leb 3 k && ltb k 5
lettered δ = true
lettered entry = true
lettered (node o p q) = lettered p && lettered q
lettered (θ p) = lettered p
lettered (∂ p) = lettered p

-- A right side as entries is written as the term that it builds.
module _ (t : Tables) (n : ℕ) (few : n ≤ 31) (g : Graph) (slots : List ℕ) (s : Binding) (b : Bound n g slots s) where
  abbrev table : ℕ
  table = communication t (get_or slots 3 0) (get_or slots 4 0)

  abbrev Reads : List ℕ → List ℕ → Type 0
  Reads ws said = ToRead n g (entries_for table slots ws) said

  join : (a c : List ℕ) {x y : List ℕ} → Reads a x → Reads c y → Reads (a ++ c) (x ++ y)
  join a c p q = rw (entries-append table slots a c) (read-append p q)

  sign : (w : ℕ) → w < 96 → Reads (w ∷ []) (w ∷ [])
  unfolding entries_for
  sign w h = rw (entry-word table slots w h) (read_one (as_word {v = w} (omega arith)))

  letter : (k : ℕ) → k < 6 → {said : List ℕ} → Written n g (get_or slots k 0) said → Reads ((96 + k) ∷ []) said
  unfolding entries_for
  letter k h w =
      let q : 96 + k - 96 ≡ k = omega arith in
      rw (entry-letter table slots (96 + k) (omega arith) (omega arith), q) (read_one w)

  action_is : (k : ℕ) → 3 ≤ k → k < 5 → number (s k) ≡ get_or slots k 0
  action_is k l h = ap number (b.action k l h).0

  action : (k : ℕ) → 3 ≤ k → k < 5 → Written n g (get_or slots k 0) (words (s k))
  unfolding words
  action k l h = rw (b.action k l h).0 (as_word {v = get_or slots k 0} (omega (arith, (b.action k l h).1)))

  module _ (small : table < 256) where
    pub built_at : (p : Pattern) → lettered p ≡ true → Reads (forth p) (words (build t s p))
    unfolding lettered forth build words unary_word entries_for
    built_at (any k) h = let l : k < 3 = ltb-true k 3 h in letter k (omega arith) (holds-written few (b.term k l))
    built_at (any_action k) h =
        let l : 3 ≤ k = leb-true 3 k (and_left (leb 3 k) (ltb k 5) h) in
        let m : k < 5 = ltb-true k 5 (and_right (leb 3 k) (ltb k 5) h) in
        letter k (omega arith) (action k l m)
    built_at δ h = sign 0 (omega arith)
    built_at entry h =
        rw (entry_table table slots 102 (omega arith), action_is 3 (omega arith) (omega arith), action_is 4 (omega arith) (omega arith)) (read_one (as_word {v = table} small))
    built_at (node o p q) h =
        join (forth p) (forth q ++ (binary_word o ∷ [])) (built_at p (and_left (lettered p) (lettered q) h))
        (join (forth q) (binary_word o ∷ []) (built_at q (and_right (lettered p) (lettered q) h)) (sign (binary_word o) (omega (arith, binary_range o))))
    built_at (θ p) h = join (forth p) (70 ∷ []) (built_at p h) (sign 70 (omega arith))
    built_at (∂ p) h = join (forth p) (101 ∷ []) (built_at p h) (letter 5 (omega arith) (rw b.set.0 (as_word {v = 80 + number (s 5)} (omega (arith, b.set.1)))))

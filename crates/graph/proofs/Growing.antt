-- A node added at the end of a graph: what the entries stood for they stand for still, and the new node stands for the term of its root.
use Prim.Native.Nat.{ℕ, ◌+◌, ◌≤◌, ◌<◌}
use native.Mathlib.Omega.{arith}
use mathlib.Core.Path.{◌≡◌, refl}
use mathlib.Core.Bool.{Bool, true, false}
use mathlib.Core.List.{List, [], ◌∷◌, ◌++◌}
use mathlib.Core.Logic.{◌⊎◌, inl, inr}
use lib.ListN.{length, length-append, get_or-append}
use lib.Seq.{get_or_at}
use lib.Dec.{ltb}
use borrow.Author.Tests.{ltb-true, ltb-false}
use Rattle.plans.specs.Term.{Term}
use Rattle.graph.specs.Graph.{Graph, graph, Holds, leaf, one, two, Root, root_one, root_two, Held, held_none, held_more, Written, as_word, as_term, ToRead, read_none, read_more, ToWrite, write_none, write_more}

-- the graph with a node of word w and operands a and b at the end
abbrev pub grown : List ℕ → List ℕ → List ℕ → ℕ → ℕ → ℕ → Graph
grown own first second w a b = graph (own ++ (w ∷ [])) (first ++ (a ∷ [])) (second ++ (b ∷ []))

pub snoc_length : (l : List ℕ) (x : ℕ) → length (l ++ (x ∷ [])) ≡ length l + 1
snoc_length l x = length-append l (x ∷ [])

at_entry : {n : ℕ} {g : Graph} {v v' : ℕ} {u : Term} → v' ≡ v → Holds n g v u → Holds n g v' u
at_entry e h = rw e h

module _ {n : ℕ} (own first second : List ℕ) (w a b : ℕ) (f : length first ≡ length own) (s : length second ≡ length own) where
  pub holds-grown : {v : ℕ} {u : Term} → Holds n (graph own first second) v u → Holds n (grown own first second w a b) v u
  holds-grown (leaf h) = leaf h
  holds-grown (one {v} {o} i j e k h) =
      one {o = o} i (omega (arith, snoc_length own w)) (rw (get_or-append own (w ∷ []) 0 v j) e) k
      (at_entry (get_or-append first (a ∷ []) 0 v (omega arith)) (holds-grown h))
  holds-grown (two {v} {o} i j e h l) =
      two {o = o} i (omega (arith, snoc_length own w)) (rw (get_or-append own (w ∷ []) 0 v j) e)
      (at_entry (get_or-append first (a ∷ []) 0 v (omega arith)) (holds-grown h))
      (at_entry (get_or-append second (b ∷ []) 0 v (omega arith)) (holds-grown l))

  pub root-grown : {w' a' b' : ℕ} {u : Term} → Root n (graph own first second) w' a' b' u → Root n (grown own first second w a b) w' a' b' u
  root-grown (root_one e k h) = root_one e k (holds-grown h)
  root-grown (root_two e h l) = root_two e (holds-grown h) (holds-grown l)

  pub held_grown : {vs : List ℕ} {us : List Term} → Held n (graph own first second) vs us → Held n (grown own first second w a b) vs us
  held_grown held_none = held_none
  held_grown (held_more h r) = held_more (holds-grown h) (held_grown r)

  pub written-grown : {v : ℕ} {ws : List ℕ} → Written n (graph own first second) v ws → Written n (grown own first second w a b) v ws
  written-grown (as_word h) = as_word h
  written-grown (as_term i h) = as_term i (holds-grown h)

  pub to_read-grown : {vs ws : List ℕ} → ToRead n (graph own first second) vs ws → ToRead n (grown own first second w a b) vs ws
  to_read-grown read_none = read_none
  to_read-grown (read_more h r) = read_more (written-grown h) (to_read-grown r)

  pub to_write_grown : {vs ws : List ℕ} → ToWrite n (graph own first second) vs ws → ToWrite n (grown own first second w a b) vs ws
  to_write_grown write_none = write_none
  to_write_grown (write_more h r) = write_more (written-grown h) (to_write_grown r)

  -- the new node
  pub holds_new : {u : Term} → 256 ≤ length own → Root n (graph own first second) w a b u → Holds n (grown own first second w a b) (length own) u
  holds_new i (root_one {o} e k h) =
      one {o = o} i (omega (arith, snoc_length own w)) (rw (get_or_at own w [] 0 (length own) refl) e) k (at_entry (get_or_at first a [] 0 (length own) f) (holds-grown h))
  holds_new i (root_two {o} e h l) =
      two {o = o} i (omega (arith, snoc_length own w)) (rw (get_or_at own w [] 0 (length own) refl) e)
      (at_entry (get_or_at first a [] 0 (length own) f) (holds-grown h))
      (at_entry (get_or_at second b [] 0 (length own) s) (holds-grown l))

-- a node of the graph is the new one or an old one
below_more : (v k : ℕ) → v < k + 1 → (v ≡ k) ⊎ (v < k)
below_more v k h = inner (ltb v k) refl
  where
    inner : (t : Bool) → ltb v k ≡ t → (v ≡ k) ⊎ (v < k)
    inner true e = inr (ltb-true v k e)
    inner false e = inl (omega (arith, ltb-false v k e))

pub grown_split : {n v : ℕ} {u : Term} (own first second : List ℕ) (w a b : ℕ) → 256 ≤ v → n ≤ 31 → Holds n (grown own first second w a b) v u
    → (v ≡ length own) ⊎ (v < length own)
grown_split own first second w a b i few (leaf h) = absurd (omega arith)
grown_split {v} own first second w a b i few (one i' j e k h) = below_more v (length own) (omega (arith, snoc_length own w))
grown_split {v} own first second w a b i few (two i' j e h l) = below_more v (length own) (omega (arith, snoc_length own w))

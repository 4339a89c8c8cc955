-- Nobody need believe this: contracts of functions cite it. Terms as a graph: a node has a word and the entries of its operands, so that a part of a
-- term can be used again without being written out.
-- An entry below 256 is a word; from 256 on it is a node.
use Rattle.std.specs.Prelude.{ℕ, ◌+◌, ◌≤◌, ◌<◌, ◌≡◌, cond, List, [], ◌∷◌, ◌++◌, length, get_or, ltb}
use Rattle.plans.specs.declared.Binary.{Binary}
use Rattle.plans.specs.declared.Unary.{Unary}
use Rattle.plans.specs.Word.{binary_word, unary_word}
use Rattle.plans.specs.Term.{Term, act, un, bin, words, SetNumber}
use Rattle.plans.specs.Stack.{stacked}
use Rattle.areas.specs.Area.{overwrite}

-- the greatest length of the arrays of nodes
abbrev pub most_nodes : ℕ
most_nodes = 32768

-- the nodes in use: the word of each, the entry of its first operand, and that of the second where it has two
pub record Graph : Type 0 where
  pub own : List ℕ
  pub first : List ℕ
  pub second : List ℕ

abbrev pub graph : List ℕ → List ℕ → List ℕ → Graph
graph own first second = record { own = own; first = first; second = second }

-- the term that an entry stands for, under n actions
pub data Holds (n : ℕ) (g : Graph) : ℕ → Term → Type 0 where
  leaf : {a : ℕ} → a ≤ n → Holds n g a (act a)
  one : {v : ℕ} {o : Unary} {x : Term} → 256 ≤ v → v < length g.own → get_or g.own v 0 ≡ unary_word o → SetNumber o
      → Holds n g (get_or g.first v 0) x → Holds n g v (un o x)
  two : {v : ℕ} {o : Binary} {x y : Term} → 256 ≤ v → v < length g.own → get_or g.own v 0 ≡ binary_word o
      → Holds n g (get_or g.first v 0) x → Holds n g (get_or g.second v 0) y → Holds n g v (bin o x y)

-- the term that an operator's word and the entries of its operands stand for (the second counts for an operator of two alone)
pub data Root (n : ℕ) (g : Graph) (w a b : ℕ) : Term → Type 0 where
  root_one : {o : Unary} {x : Term} → w ≡ unary_word o → SetNumber o → Holds n g a x → Root n g w a b (un o x)
  root_two : {o : Binary} {x y : Term} → w ≡ binary_word o → Holds n g a x → Holds n g b y → Root n g w a b (bin o x y)

-- entries and the terms that they stand for
pub data Held (n : ℕ) (g : Graph) : List ℕ → List Term → Type 0 where
  held_none : Held n g [] []
  held_more : {v : ℕ} {u : Term} {vs : List ℕ} {us : List Term} → Holds n g v u → Held n g vs us → Held n g (v ∷ vs) (u ∷ us)

-- the words that an entry is written as
pub data Written (n : ℕ) (g : Graph) : ℕ → List ℕ → Type 0 where
  as_word : {v : ℕ} → v < 256 → Written n g v (v ∷ [])
  as_term : {v : ℕ} {u : Term} → 256 ≤ v → Holds n g v u → Written n g v (words u)

-- entries, the first first, and the words that they are written as
pub data ToRead (n : ℕ) (g : Graph) : List ℕ → List ℕ → Type 0 where
  read_none : ToRead n g [] []
  read_more : {v : ℕ} {vs w ws : List ℕ} → Written n g v w → ToRead n g vs ws → ToRead n g (v ∷ vs) (w ++ ws)

-- entries, the last first, and the words that they are written as
pub data ToWrite (n : ℕ) (g : Graph) : List ℕ → List ℕ → Type 0 where
  write_none : ToWrite n g [] []
  write_more : {v : ℕ} {vs w ws : List ℕ} → Written n g v w → ToWrite n g vs ws → ToWrite n g (v ∷ vs) (ws ++ w)

-- entries put one after another on others, the last first
unfoldable pub onto : List ℕ → List ℕ → List ℕ
onto [] s = s
onto (v ∷ vs) s = onto vs (v ∷ s)

-- how many words an entry is written as, by the sizes of the nodes
unfoldable pub entry_size : List ℕ → ℕ → ℕ
entry_size sizes v = cond (ltb v 256) 1 (get_or sizes v 0)

-- the arrays of a graph have one length, at most 32,768
pub record Nodes (g : Graph) : Type 0 where
  pub first_long : length g.first ≡ length g.own
  pub second_long : length g.second ≡ length g.own
  pub most : length g.own ≤ most_nodes

-- the first `height` entries of a stack can be written before place `end` of an area
pub record Writable (g : Graph) (stack : List ℕ) (height : ℕ) (dst : List ℕ) (end : ℕ) : Type 0 where
  pub n : ℕ
  pub said : List ℕ
  pub few : n ≤ 31
  pub nodes : Nodes g
  pub entries : ToWrite n g (stacked stack height) said
  pub before_end : length said ≤ end
  pub end_in : end ≤ length dst
  pub enough : end ≤ length stack

-- they were written there, the first word at place `from`
pub record WroteBack (g : Graph) (stack : List ℕ) (height : ℕ) (dst dst' : List ℕ) (end from : ℕ) : Type 0 where
  pub wrote : (n : ℕ) (said : List ℕ) → n ≤ 31 → ToWrite n g (stacked stack height) said → (dst' ≡ overwrite dst from said) × (from + length said ≡ end)

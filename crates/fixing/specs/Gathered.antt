-- Nobody need believe this: contracts of functions cite it. The summands gathered from the words read so far, as the code holds them. (Request 107.)
use Rattle.std.specs.Prelude.{ℕ, suc, zero, ◌+◌, ◌-◌, ◌≤◌, ◌<◌, ◌≡◌, List, [], ◌∷◌, length, get_or, set, take, drop}
use Rattle.areas.specs.Area.{most_words}
use Rattle.forms.specs.Sorting.{sort, once, total}
use Rattle.forms.specs.Gathering.{gather, form_by_sorting}
use Rattle.chains.specs.Chain.{Path, size_of, end_of, chain, by_chain, linked}

-- what stands at n entries from lo on
unfoldable pub span : (ℕ → List ℕ) → List ℕ → ℕ → ℕ → List (List ℕ)
span key entries lo zero = []
span key entries lo (suc n) = key (get_or entries lo 0) ∷ span key entries (suc lo) n

-- the parts that wait for an operator, the last first: each begins at its entry of `starts` and ends before the next one, the last before entry c
unfoldable pub parts : (ℕ → List ℕ) → List ℕ → List ℕ → ℕ → ℕ → List (List (List ℕ))
unfolding span
parts key entries starts zero c = []
parts key entries starts (suc d) c = span key entries (get_or starts d 0) (c - get_or starts d 0) ∷ parts key entries starts d (get_or starts d 0)

-- no part is empty
abbrev pub Climbs : List ℕ → ℕ → ℕ → Type 0
Climbs starts zero c = Unit {0}
Climbs starts (suc d) c = (get_or starts d 0 < c) × Climbs starts d (get_or starts d 0)

-- a summand stands from place p to its end, before place i
pub record Summand (links sizes ends : List ℕ) (i p : ℕ) : Type 0 where
  pub begins : p ≤ end_of ends p
  pub before_i : end_of ends p < i
  pub path : Path links p (end_of ends p) (size_of sizes p) p

-- with the words before place i read, c summands stand on the stack, in d parts
pub record Gathered (ws : List ℕ) (i : ℕ) (links sizes ends entries starts : List ℕ) (c d : ℕ) : Type 0 where
  pub links_long : length links ≡ most_words
  pub sizes_long : length sizes ≡ most_words
  pub ends_long : length ends ≡ most_words
  pub entries_long : length entries ≡ most_words
  pub starts_long : length starts ≡ most_words
  pub few : c ≤ i
  pub climbs : Climbs starts d c
  pub summand : (j : ℕ) → j < c → Summand links sizes ends i (get_or entries j 0)
  pub rising : (j k : ℕ) → j < k → k < c → end_of ends (get_or entries j 0) < get_or entries k 0
  pub bounded : total (λ p. suc (size_of sizes p)) (take c entries) ≤ i + i
  pub left : gather (drop i ws) (parts (chain ws links sizes) entries starts d c) ≡ gather ws []

-- the summands of a part, sorted and each once
abbrev pub kept : List ℕ → List ℕ → List ℕ → List ℕ → List ℕ
kept ws links sizes part = once (by_chain ws links sizes) (sort (by_chain ws links sizes) part)

-- a part closed: its summands linked, the last to place `at`; its first entry is the first of them; how many words they have, with a sign for each
pub record Closed (ws links sizes ends part : List ℕ) (at : ℕ) (links' part' : List ℕ) (size : ℕ) : Type 0 where
  pub tied : links' ≡ linked links ends (kept ws links sizes part) at
  pub first : get_or part' 0 0 ≡ get_or (kept ws links sizes part) 0 0
  pub added : size ≡ total (λ p. suc (size_of sizes p)) (kept ws links sizes part)

-- a closed part put behind action a: its summands begin at place f, and the product ends at place i
pub record Behind (a f size i : ℕ) (links sizes ends links' sizes' ends' : List ℕ) : Type 0 where
  pub linked_on : links' ≡ set links (end_of ends a) f
  pub grown : sizes' ≡ set sizes a (get_or sizes a 0 + size)
  pub ended : ends' ≡ set ends a i

-- a plan whose form is gathered: it is no longer than a plan may be, and its form is not empty
pub record Gatherable (ws : List ℕ) : Type 0 where
  pub few : length ws ≤ most_words
  pub some_words : 1 ≤ length (form_by_sorting ws)

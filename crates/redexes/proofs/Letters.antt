-- A law whose letters stand for what its slots hold is chosen.
use Rattle.std.specs.Prelude.{Some, None, IfSome, Option as Maybe}
use Prim.Native.Nat.{ℕ, suc, zero, ◌+◌, ◌-◌, ◌≤◌, ◌<◌}
use mathlib.Core.Path.{◌≡◌, refl}
use mathlib.Core.Bool.{true}
use mathlib.Core.List.{List, [], ◌∷◌}
use mathlib.Core.Option.{Option, none, some}
use native.Mathlib.Omega.{arith}
use lib.ListN.{get_or}
use Rattle.tables.specs.Tables.{Tables, actions, communication}
use Rattle.tables.specs.Lawful.{Lawful}
use Rattle.plans.specs.Term.{Term, act}
use Rattle.graph.specs.Graph.{Graph, Holds}
use Rattle.laws.specs.Laws.{laws, law_at, Binding, build, highest_law, first_choice, choices}
use Rattle.redexes.specs.Slots.{side_entries, ChosenAt, none_at, chosen_at}
use Rattle.redexes.specs.declared.Redex.{Redex}
use Rattle.laws.proofs.Tests.{passes, passed}
use Rattle.redexes.proofs.BuildingAt.{Bound, lettered, built_at}

-- What the letters stand for: x, y and z terms, a and b actions, and the last the set of ∂.
abbrev pub letters : Term → Term → Term → ℕ → ℕ → ℕ → Binding
letters x y z a b h zero = x
letters x y z a b h (suc zero) = y
letters x y z a b h (suc (suc zero)) = z
letters x y z a b h (suc (suc (suc zero))) = act a
letters x y z a b h (suc (suc (suc (suc zero)))) = act b
letters x y z a b h (suc (suc (suc (suc (suc k))))) = act h

-- What a redex tells of the lowest law that fits a term: there is none, or it is law k, and the redex holds what the letters stand for.
pub data Told (t : Tables) (n : ℕ) (g : Graph) : Maybe Redex → Option (ℕ × Term) → Type 0 where
  told_none : Told t n g None none
  told : (k : ℕ) → first_choice ≤ k → k ≤ highest_law → {i j l a b h : ℕ} {x y z : Term} → Holds n g i x → Holds n g j y → Holds n g l z → a ≤ n → b ≤ n → h ≤ 7
      → Told t n g (Some (record { law = k; x = i; y = j; z = l; a = a; b = b; set = 80 + h })) (some (k, build t (letters x y z a b h) (law_at k).rhs))

-- the slots of a law
module _ {n : ℕ} {g : Graph} {i j l a b h : ℕ} {x y z : Term} (p : Holds n g i x) (q : Holds n g j y) (r : Holds n g l z) (d : a ≤ n) (e : b ≤ n) (f : h ≤ 7) where
  abbrev held : List ℕ
  held = i ∷ (j ∷ (l ∷ (a ∷ (b ∷ ((80 + h) ∷ [])))))

  bound : Bound n g held (letters x y z a b h)
  bound = record { long = refl; term = term; action = action; set = (refl, f) }
    where
      term : (k : ℕ) → k < 3 → Holds n g (get_or held k 0) (letters x y z a b h k)
      term zero m = p
      term (suc zero) m = q
      term (suc (suc zero)) m = r
      term (suc (suc (suc k))) m = absurd (omega arith)

      action : (k : ℕ) → 3 ≤ k → k < 5 → (letters x y z a b h k ≡ act (get_or held k 0)) × (get_or held k 0 ≤ n)
      action zero m o = absurd (omega arith)
      action (suc zero) m o = absurd (omega arith)
      action (suc (suc zero)) m o = absurd (omega arith)
      action (suc (suc (suc zero))) m o = (refl, d)
      action (suc (suc (suc (suc zero)))) m o = (refl, e)
      action (suc (suc (suc (suc (suc k))))) m o = absurd (omega arith)

-- the slots have the letters of the right sides of laws 5 to 32, by computation
all_lettered : passes (λ j. lettered (law_at (first_choice + j)).rhs) choices ≡ true
unfolding lettered law_at laws
all_lettered = refl

is_lettered : (k : ℕ) → first_choice ≤ k → k ≤ highest_law → lettered (law_at k).rhs ≡ true
is_lettered k low high =
    let e : first_choice + (k - first_choice) ≡ k = omega arith in
    rw e at (passed (λ j. lettered (law_at (first_choice + j)).rhs) choices all_lettered (k - first_choice) (omega arith))

-- what is told is what is chosen, and in slots
module _ (t : Tables) {n : ℕ} (few : n ≤ 31) where
  -- the table entry of two actions is a word
  entry_small : (n ≡ actions t) × Lawful t → (a b : ℕ) → a ≤ n → b ≤ n → communication t a b < 256
  entry_small c a b d e = omega (arith, c.0, c.1.well_formed.communication_range a b (omega arith) (omega arith))

  pub told_chosen : (n ≡ actions t) × Lawful t → {g : Graph} {r : Maybe Redex} {o : Option (ℕ × Term)} → Told t n g r o → ChosenAt t n g o r
  unfolding side_entries
  told_chosen c told_none = none_at
  told_chosen c {g} (told k low high {a} {b} p q r d e f) =
      chosen_at _ _ low high (built_at t n few g _ _ (bound p q r d e f) (entry_small c a b d e) (law_at k).rhs (is_lettered k low high))

  pub told_actions : {g : Graph} {r : Maybe Redex} {o : Option (ℕ × Term)} → Told t n g r o → IfSome r (λ d. (d.a ≤ 31) × (d.b ≤ 31))
  told_actions told_none = tt
  told_actions (told k low high p q r d e f) = (omega arith, omega arith)

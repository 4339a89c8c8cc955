-- What the laws need of tables: few of the facts for which tables are accepted.
use Prim.Native.Nat.{ℕ, suc, zero, ◌≤◌}
use native.Mathlib.Omega.{arith}
use mathlib.Core.Path.{◌≡◌, refl, ◌∙◌}
use mathlib.Core.Bool.{Bool, true, false}
use Rattle.tables.specs.Tables.{Tables, actions, communication, below}
use Rattle.tables.specs.Lawful.{Lawful}

pub record Proper (t : Tables) : Type 0 where
  pub few : actions t ≤ 31
  pub dead_left : (b : ℕ) → b ≤ actions t → communication t 0 b ≡ 0
  pub dead_right : (a : ℕ) → a ≤ actions t → communication t a 0 ≡ 0
  pub range : (a b : ℕ) → a ≤ actions t → b ≤ actions t → communication t a b ≤ actions t
  pub least : (a : ℕ) → a ≤ actions t → below t a 0 ≡ false
  pub irreflexive : (a : ℕ) → a ≤ actions t → below t a a ≡ false

not_so : (b : Bool) → (b ≡ true → ⊥) → b ≡ false
not_so true f = absurd (f refl)
not_so false f = refl

pub lawful_proper : (t : Tables) → Lawful t → Proper t
lawful_proper t ok = record {
  few = few;
  dead_left = ok.communication_laws.null;
  dead_right = λ a h. ok.communication_laws.commutative a 0 h (omega arith) ∙ ok.communication_laws.null a h;
  range = λ a b h i. ok.well_formed.communication_range a b (omega arith) (omega arith);
  least = least;
  irreflexive = λ a h. not_so (below t a a) (ok.priority_laws.irreflexive a h);
}
  where
    few : actions t ≤ 31
    few = ok.well_formed.few_actions

    -- 0 is below every other action, and < is asymmetric
    least : (a : ℕ) → a ≤ actions t → below t a 0 ≡ false
    least zero h = not_so (below t 0 0) (ok.priority_laws.irreflexive 0 h)
    least (suc a) h = not_so (below t (suc a) 0) (ok.priority_laws.asymmetric 0 (suc a) (omega arith) h (ok.priority_laws.minimal (suc a) h (omega arith)))

-- Blocks of a file: how long each is, and the search through them.
use Rattle.std.specs.Prelude.{Result, ⊤}
use Prim.Native.Nat.{ℕ, zero, suc, ◌+◌, ◌-◌, ◌*◌, ◌≤◌, ◌<◌}
use mathlib.Core.Path.{◌≡◌, refl, sym, ◌∙◌}
use mathlib.Core.Bool.{true}
use mathlib.Core.List.{List}
use mathlib.Core.Logic.{⊎_elim}
use mathlib.Core.Option.{Option, none, some}
use native.Mathlib.Omega.{arith}
use native.Mathlib.Nat.{eq-or-lt_of_le}
use native.Mathlib.Numerals.{add-one}
use lib.ListN.{length, take, drop, length-drop}
use lib.Seq.{length-take-le}
use Rattle.refusals.specs.declared.Refusal.{Refusal}
use Rattle.refusals.specs.Refusal.{judged}
use Rattle.tables.specs.Search.{first_of, first_from}
use Rattle.blocks.specs.Block.{block_refusal}
use Rattle.stations.specs.File.{blocks, block, length_right, form_refusal}

-- nothing found at any of m numbers from k on
none_first : (a b : Option Refusal) → first_of a b ≡ none → (a ≡ none) × (b ≡ none)
none_first none b e = (refl, e)
none_first (some r) b e = let q : ◌≡◌ {A = ℕ} 0 1 = cc in absurd (omega arith)

pub nowhere : (g : ℕ → Option Refusal) (k m i : ℕ) → k ≤ i → i < k + m → first_from g k m ≡ none → g i ≡ none
unfolding first_from
nowhere g k zero i a b e = absurd (omega arith)
nowhere g k (suc m) i a b e =
    let h = none_first (g k) (first_from g (suc k) m) e in
    ⊎_elim (λ (q : k ≡ i). rw (← q) h.0) (λ (q : k < i). nowhere g (suc k) m i (omega arith) (omega arith) h.1) (eq-or-lt_of_le a)

-- and the other way round
pub found_nowhere : (g : ℕ → Option Refusal) (k m : ℕ) → ((i : ℕ) → k ≤ i → i < k + m → g i ≡ none) → first_from g k m ≡ none
unfolding first_from
found_nowhere g k zero e = refl
found_nowhere g k (suc m) e = rw (e k (omega arith) (omega arith), found_nowhere g (suc k) m (λ i a b. e i (omega arith) (omega arith)))

pub block-long : (f : List ℕ) (i : ℕ) → i < blocks f → length (block f i) ≡ 512
unfolding blocks block
block-long f i h = length-take-le 512 (drop (512 * i) f) (omega (arith, length-drop (512 * i) f))

-- a part of the file that is a block
pub block-part : (f : List ℕ) (i : ℕ) → take (512 * i + 512 - 512 * i) (drop (512 * i) f) ≡ block f i
unfolding block
block-part f i =
    let e : 512 * i + 512 - 512 * i ≡ 512 = omega arith in
    rw e

-- what is found at block i, and from block i on
abbrev pub at : List ℕ → ℕ → Option Refusal
at f i = block_refusal (blocks f) i (block f i)

pub judged_at : (f : List ℕ) (i : ℕ) {n : ℕ} {b : List ℕ} {r : Result ⊤ Refusal} → n ≡ blocks f → b ≡ block f i
    → r ≡ judged (block_refusal n i b) → r ≡ judged (at f i)
judged_at f i p q e = e ∙ rw (p, q)

pub found : List ℕ → ℕ → Option Refusal
found f i = first_from (at f) i (blocks f - i)

module _ (f : List ℕ) where
  pub found_start : length_right f ≡ true → found f 0 ≡ form_refusal f
  unfolding found form_refusal
  found_start h =
      let e : blocks f - 0 ≡ blocks f = omega arith in
      rw (e, h)

  module _ (i : ℕ) where
    found_next : i < blocks f → found f i ≡ first_of (at f i) (found f (i + 1))
    unfolding found first_from
    found_next h =
        let e : blocks f - i ≡ suc (blocks f - (i + 1)) = omega arith in
        rw (e, add-one i)

    pub found_turn : i < blocks f → at f i ≡ none → found f (i + 1) ≡ found f i
    found_turn h q = sym (found_next h ∙ rw q)

    pub found_stop : {r : Refusal} → i < blocks f → at f i ≡ some r → found f i ≡ some r
    found_stop h q = found_next h ∙ rw q

    pub found_end : blocks f ≤ i → found f i ≡ none
    unfolding found first_from
    found_end h =
        let e : blocks f - i ≡ 0 = omega arith in
        rw e

-- What blocks hold, copied into an area block by block.
use Prim.Native.Nat.{ℕ, suc, ◌+◌, ◌-◌, ◌≤◌, ◌<◌}
use mathlib.Core.Path.{◌≡◌, refl, sym, ◌∙◌, ap}
use mathlib.Core.List.{List, [], ◌++◌}
use native.Mathlib.Omega.{arith}
use native.Mathlib.Numerals.{add-one}
use lib.ListN.{length, length-append}
use Rattle.areas.specs.Area.{overwrite}
use Rattle.areas.proofs.Area.{overwrite-two, overwrite_none}
use Rattle.blocks.specs.Block.{used}
use Rattle.stations.specs.File.{block, held, joined}

-- what the blocks from i to e hold
abbrev pub left : List ℕ → ℕ → ℕ → List ℕ
left f e i = held f i (e - i)

left-next : (f : List ℕ) (e i : ℕ) → i < e → left f e i ≡ used (block f i) ++ left f e (i + 1)
unfolding joined
left-next f e i h =
    let q : e - i ≡ suc (e - (i + 1)) = omega arith in
    rw (q, add-one i)

left_none : (f : List ℕ) (e i : ℕ) → e ≤ i → left f e i ≡ []
unfolding joined
left_none f e i h =
    let q : e - i ≡ 0 = omega arith in
    rw q

-- the area a with all of it: k bytes are copied, and the blocks from i to e are left
pub record Gathers (f : List ℕ) (e : ℕ) (w : List ℕ) (a₀ a : List ℕ) (k i : ℕ) : Type 0 where
  pub long : length a ≡ length a₀
  pub size : k + length (left f e i) ≡ length w
  pub area : overwrite a k (left f e i) ≡ overwrite a₀ 0 w

pub gather-start : (f : List ℕ) (e i : ℕ) (a : List ℕ) → Gathers f e (left f e i) a a 0 i
gather-start f e i a = record { long = refl; size = omega arith; area = refl }

-- one block more
module _ {f : List ℕ} {e : ℕ} {w a₀ a : List ℕ} {k i : ℕ} (g : Gathers f e w a₀ a k i) where
  pub room : i < e → length w ≤ length a₀ → k + length (used (block f i)) ≤ length a
  room h l =
      let q = ap length (left-next f e i h) ∙ length-append (used (block f i)) (left f e (i + 1)) in
      omega (arith, g.long, g.size)

  pub gather-turn : {a' : List ℕ} {k' : ℕ} → i < e → length w ≤ length a₀ → length a' ≡ length a
      → a' ≡ overwrite a k (used (block f i)) → k' ≡ k + length (used (block f i)) → Gathers f e w a₀ a' k' (i + 1)
  gather-turn {a'} {k'} h l m p q =
      let n = left-next f e i h in
      let s = ap length n ∙ length-append (used (block f i)) (left f e (i + 1)) in
      record {
        long = m ∙ g.long;
        size = omega (arith, g.size);
        area =
            rw (p, q)
            (overwrite-two a k (used (block f i)) (left f e (i + 1)) (omega (arith, g.long, g.size))
            ∙ rw (← n) g.area);
      }

  pub gather-end : e ≤ i → (a ≡ overwrite a₀ 0 w) × (k ≡ length w)
  gather-end h =
      let n = left_none f e i h in
      (sym (overwrite_none a k) ∙ rw n at g.area, omega (arith, ap length n, g.size))

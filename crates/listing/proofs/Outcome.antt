-- What listing a file answers and leaves, from the text that was made of it.
use Rattle.std.specs.Prelude.{Some, None, Option as Maybe}
use Prim.Native.Nat.{ℕ, ◌≤◌, ◌<◌, ◌+◌}
use native.Mathlib.Omega.{arith}
use mathlib.Core.Path.{◌≡◌, refl, sym, ◌∙◌, ap}
use mathlib.Core.Bool.{Bool, true, false}
use mathlib.Core.List.{List}
use lib.ListN.{length, take}
use lib.Seq.{length-take-le}
use lib.Dec.{leb}
use borrow.Author.Tests.{le-leb, lt-leb, leb-true}
use Rattle.areas.specs.Area.{padded}
use Rattle.listing.specs.Listing.{listing}
use Rattle.listing.specs.Writing.{ListOutcome, if_fits, list_outcome, most}

-- r bytes of d are the listing of the file f
module _ (f out d : List ℕ) (r : ℕ) (text : take r d ≡ listing f) (low : r ≤ most) (long : length d ≡ 93000) where
  size : r ≡ length (listing f)
  size = sym (length-take-le r d (omega arith)) ∙ ap length text

  pub bounded : length (listing f) ≤ most
  bounded = omega (arith, size)

  pub too_short : length out < r → ◌≡◌ {A = ListOutcome} (record { answer = None; out = out }) (list_outcome f out)
  unfolding list_outcome
  too_short h = sym (ap (λ (b : Bool). if_fits b (listing f) out) (lt-leb (length (listing f)) (length out) (omega (arith, size))))

  pub put : {out' : List ℕ} → r ≤ length out → out' ≡ padded (take r d) (length out)
      → ◌≡◌ {A = ListOutcome} (record { answer = Some r; out = out' }) (list_outcome f out)
  unfolding list_outcome
  put {out'} h e =
      let i : out' ≡ padded (listing f) (length out) = e ∙ ap (λ (m : List ℕ). padded m (length out)) text in
      ap (λ (m : ℕ). record { answer = Some m; out = out' }) size
      ∙ ap (λ (m : List ℕ). record { answer = Some (length (listing f)); out = m }) i
      ∙ sym (ap (λ (b : Bool). if_fits b (listing f) out) (le-leb (length (listing f)) (length out) (omega (arith, size))))

-- a listing that is said to be whole lies within its area
pub listed_within : (f out : List ℕ) {k : ℕ} (x : Maybe ℕ) (out' : List ℕ) → x ≡ Some k → record { answer = x; out = out' } ≡ list_outcome f out → k ≤ length out
unfolding list_outcome
listed_within f out {k} x out' q e = go (leb (length (listing f)) (length out)) refl (sym q ∙ ap (λ (o : ListOutcome). o.answer) e)
  where
    go : (b : Bool) → leb (length (listing f)) (length out) ≡ b → Some k ≡ (if_fits b (listing f) out).answer → k ≤ length out
    go true h i = let j : k ≡ length (listing f) = cc in omega (arith, leb-true (length (listing f)) (length out) h)
    go false h i = let z : ◌≡◌ {A = ℕ} 0 1 = cc in absurd (omega arith)

-- an area that holds any listing is never too short
pub never_short : (f out : List ℕ) → length (listing f) ≤ most → most ≤ length out → (list_outcome f out).answer ≡ Some (length (listing f))
unfolding list_outcome
never_short f out h k = ap (λ (b : Bool). (if_fits b (listing f) out).answer) (le-leb (length (listing f)) (length out) (omega arith))

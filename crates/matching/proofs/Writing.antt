-- A right side's words written over an area, one after the other.
use Prim.Native.Nat.{ℕ, ◌+◌, ◌≤◌, ◌<◌}
use mathlib.Core.Path.{◌≡◌, sym, ◌∙◌}
use mathlib.Core.List.{List, [], ◌++◌}
use native.Mathlib.Omega.{arith}
use lib.ListN.{length, get_or, take, length-append}
use Rattle.areas.specs.Area.{overwrite}
use Rattle.areas.proofs.Area.{overwrite_none, overwrite-two}
use Rattle.matching.specs.Right.{spelled_one, spelled}
use Rattle.matching.proofs.Building.{spelled-more, spelled-room}

-- the words ws, written out from place k of the area d on, give the area d' and end before place e
pub record Written (c : ℕ) (plan f g d : List ℕ) (k : ℕ) (ws d' : List ℕ) (e : ℕ) : Type 0 where
  pub over : d' ≡ overwrite d k (spelled c plan f g ws)
  pub reached : e ≡ k + length (spelled c plan f g ws)

pub written_none : (c : ℕ) (plan f g d : List ℕ) (k : ℕ) → Written c plan f g d k [] d k
unfolding spelled
written_none c plan f g d k = record { over = sym (overwrite_none d k); reached = omega arith }

module _ {c k e : ℕ} {plan f g d d' : List ℕ} (ws : List ℕ) (i : ℕ) (h : i < length ws) (long : length d' ≡ length d) (w : Written c plan f g d k (take i ws) d' e)
    (room : k + length (spelled c plan f g ws) ≤ length d) where
  -- one word more has room
  pub written-room : e + length (spelled_one c plan f g (get_or ws i 0)) ≤ length d'
  written-room = omega (arith, w.reached, spelled-room c plan f g ws i h)

  pub written-more : {d'' : List ℕ} {e' : ℕ} → d'' ≡ overwrite d' e (spelled_one c plan f g (get_or ws i 0)) → e' ≡ e + length (spelled_one c plan f g (get_or ws i 0))
      → Written c plan f g d k (take (i + 1) ws) d'' e'
  written-more p q =
      let v = spelled c plan f g (take i ws) in
      let one = spelled_one c plan f g (get_or ws i 0) in
      let m : spelled c plan f g (take (i + 1) ws) ≡ v ++ one = spelled-more c plan f g ws i h in
      record {
        over = p ∙ rw (w.over, w.reached, m) (overwrite-two d k v one (omega (arith, spelled-room c plan f g ws i h)));
        reached = rw m (omega (arith, w.reached, length-append v one));
      }

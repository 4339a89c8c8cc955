-- The bytes of an unfolding's steps: three to a step, read again as the same steps.
use Prim.Native.Nat.{ℕ, ◌+◌, ◌*◌, ◌/◌, ◌%◌}
use native.Mathlib.Omega.{arith}
use native.Mathlib.Nat.{div-add-mod'}
use mathlib.Core.Path.{◌≡◌, refl, sym, ◌∙◌, ap}
use mathlib.Core.List.{List, [], ◌∷◌, ◌++◌, append_assoc, append-nil}
use lib.ListN.{length}
use Rattle.rewritings.specs.Moves.{Move, record_of, bytes_of, moves_of}

-- a number from its two bytes
pub place-again : (p : ℕ) → p % 256 + 256 * (p / 256) ≡ p
place-again p = omega (arith, div-add-mod' p 256)

pub moves_bytes : (ms : List Move) → moves_of (bytes_of ms) ≡ ms
unfolding bytes_of record_of moves_of
moves_bytes [] = refl
moves_bytes (m ∷ ms) = rw (place-again m.place, moves_bytes ms)

pub bytes_long : (ms : List Move) → length (bytes_of ms) ≡ 3 * length ms
unfolding bytes_of record_of
bytes_long [] = refl
bytes_long (m ∷ ms) = omega (arith, bytes_long ms)

pub bytes_append : (ms ns : List Move) → bytes_of (ms ++ ns) ≡ bytes_of ms ++ bytes_of ns
unfolding bytes_of
bytes_append [] ns = refl
bytes_append (m ∷ ms) ns = ap (λ (r : List ℕ). record_of m.law m.place ++ r) (bytes_append ms ns) ∙ sym (append_assoc (record_of m.law m.place) (bytes_of ms) (bytes_of ns))

-- one step more is one record more
pub bytes_last : (ms : List Move) (m : Move) → bytes_of (ms ++ (m ∷ [])) ≡ bytes_of ms ++ record_of m.law m.place
unfolding bytes_of
bytes_last ms m = bytes_append ms (m ∷ []) ∙ ap (λ (r : List ℕ). bytes_of ms ++ r) (append-nil (record_of m.law m.place))

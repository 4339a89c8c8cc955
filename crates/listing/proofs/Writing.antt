-- Pieces of text written one after another.
use Rattle.listing.specs.Text.{decimal, labelled, line_end}
use Prim.Native.Nat.{ℕ, ◌+◌, ◌≤◌, ◌<◌}
use native.Mathlib.Omega.{arith}
use mathlib.Core.Path.{◌≡◌, refl, sym, ◌∙◌, ap}
use mathlib.Core.List.{List, [], ◌++◌, append_assoc, append-nil}
use lib.ListN.{length, take, length-append}
use Rattle.areas.specs.Area.{overwrite}
use Rattle.areas.proofs.Area.{take-overwrite}
use Rattle.listing.specs.Writing.{Wrote}

-- words written over an area are text written there
pub wrote-over : {d d' v : List ℕ} {k r : ℕ} → k + length v ≤ length d → d' ≡ overwrite d k v → r ≡ k + length v → Wrote d k v d' r
wrote-over {d} {d'} {v} {k} h e q = record { so_far = rw (q, e) (take-overwrite d k v (omega arith)); after = q }

-- The whole text is to stand at a place of d₀; written so far are the bytes before `next` in d, and the rest is left to write.
pub record Left (d₀ : List ℕ) (at : ℕ) (whole d : List ℕ) (next : ℕ) (rest : List ℕ) : Type 0 where
  pub so_far : take next d ++ rest ≡ take at d₀ ++ whole
  pub place : next + length rest ≡ at + length whole

pub left_all : (d : List ℕ) (at : ℕ) (whole : List ℕ) → Left d at whole d at whole
left_all d at whole = record { so_far = refl; place = refl }

pub left_less : {d₀ d d' whole v rest : List ℕ} {at next next' : ℕ} → Left d₀ at whole d next (v ++ rest) → Wrote d next v d' next' → Left d₀ at whole d' next' rest
left_less {d₀} {d} {d'} {whole} {v} {rest} {at} {next} {next'} l w =
    record {
      so_far = rw (w.so_far, append_assoc (take next d) v rest) l.so_far;
      place = omega (arith, l.place, w.after, length-append v rest);
    }

pub left_none : {d₀ d whole : List ℕ} {at next : ℕ} → Left d₀ at whole d next [] → Wrote d₀ at whole d next
left_none {d₀} {d} {whole} {at} {next} l = record { so_far = sym (append-nil (take next d)) ∙ l.so_far; after = omega (arith, l.place) }

-- the last piece
pub left-last : {d₀ d d' whole v : List ℕ} {at next next' : ℕ} → Left d₀ at whole d next v → Wrote d next v d' next' → Wrote d₀ at whole d' next'
left-last {d₀} {d} {d'} {whole} {v} {at} {next} {next'} l w = record { so_far = w.so_far ∙ l.so_far; after = omega (arith, l.place, w.after) }

-- the room for a piece, and for all that is left
pub left_room : {d₀ d whole : List ℕ} {at next m : ℕ} (v rest : List ℕ) → Left d₀ at whole d next (v ++ rest) → at + length whole ≤ m → next + length v ≤ m
left_room v rest l h = omega (arith, l.place, length-append v rest)

pub left_behind : {d₀ d whole rest : List ℕ} {at next m : ℕ} → Left d₀ at whole d next rest → at + length whole ≤ m → next + length rest ≤ m
left_behind l h = omega (arith, l.place)

pub left_end : {d₀ d whole : List ℕ} {at next m : ℕ} → Left d₀ at whole d next line_end → at + length whole ≤ m → next < m
left_end l h = omega (arith, l.place)

-- where no more than m bytes of text were written
pub wrote-within : {d d' v : List ℕ} {at r : ℕ} (m : ℕ) → Wrote d at v d' r → length v ≤ m → r ≤ at + m
wrote-within m w h = omega (arith, w.after)

-- a label, and behind it the digits of a number
pub wrote-labelled : {d d' d'' digits : List ℕ} {at next last : ℕ} (label : List ℕ) (n : ℕ) → at + length (labelled label n) ≤ length d → length d' ≡ length d
    → (d' ≡ overwrite d at label) × (next ≡ at + length label) → digits ≡ decimal n → (d'' ≡ overwrite d' next digits) × (last ≡ next + length digits)
    → Wrote d at (labelled label n) d'' last
unfolding labelled
wrote-labelled {d} {d'} {d''} {digits} {at} {next} {last} label n h k e q f =
    let m = length-append label (decimal n) in
    let i = ap length q in
    rw (← q) (left-last (left_less (left_all d at (label ++ digits)) (wrote-over (omega (arith, m)) e.0 e.1)) (wrote-over (omega (arith, m, i, e.1)) f.0 f.1))

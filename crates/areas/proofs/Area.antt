-- Laws of words written over an area and of zeros behind them.
use Prim.Native.Nat.{ℕ, ◌+◌, ◌-◌, ◌≤◌, ◌<◌}
use mathlib.Core.Path.{◌≡◌, refl, sym, ◌∙◌, ap}
use mathlib.Core.Bool.{Bool, true, false}
use mathlib.Core.List.{List, [], ◌∷◌, ◌++◌, append_assoc, append-nil}
use native.Mathlib.Omega.{arith}
use native.Mathlib.Numerals.{add-one}
use lib.ListN.{length, get_or, set, take, drop, replicate, length-append, length-drop, drop_of_length-le, take-append-drop, get_or-replicate, length-replicate, get_or-append, get_or-eq_default}
use lib.Seq.{paste, paste-suc, set_split, take-length, length-take-le, take_at, drop_at, drop-drop, drop-append_seam, get_or-append-add}
use lib.Dec.{ltb}
use borrow.Rule.Slice.PartMut.{put_mid}
use borrow.Author.Tests.{ltb-true, ltb-false}
use Rattle.areas.specs.Area.{overwrite, padded}

-- a copy of every element is the area written over
pub paste_all : (d s : List ℕ) (k i : ℕ) → i ≤ length s → length s ≤ i → paste d k s i ≡ overwrite d k s
unfolding overwrite
paste_all d s k i h l =
    let e : i ≡ length s = omega arith in
    rw (e, take-length s) (append_assoc (take k d) s (drop (k + length s) d))

-- one more element copied
pub paste_more : (d s : List ℕ) (k i : ℕ) → k + i < length d → i < length s → set (paste d k s i) (k + i) (get_or s i 0) ≡ paste d k s (i + 1)
paste_more d s k i h l = rw (add-one i) (paste-suc d k s i 0 h l)

-- a part that words were copied to is the area written over
pub copied : (d v : List ℕ) (k : ℕ) → put_mid k (k + length v - k) d v ≡ overwrite d k v
unfolding overwrite
copied d v k =
    let e : k + length v - k ≡ length v = omega arith in
    rw (e, drop-drop (length v) k d)

-- one word written
pub overwrite-one : (d : List ℕ) (k v : ℕ) → k < length d → set d k v ≡ overwrite d k (v ∷ [])
unfolding overwrite
overwrite-one d k v h = rw (set_split d k v h, add-one k)

pub overwrite_none : (d : List ℕ) (k : ℕ) → overwrite d k [] ≡ d
unfolding overwrite
overwrite_none d k =
    let e : k + 0 ≡ k = omega arith in
    rw e (take-append-drop k d)

-- the length stays
pub overwrite-length : (d : List ℕ) (k : ℕ) (v : List ℕ) → k + length v ≤ length d → length (overwrite d k v) ≡ length d
unfolding overwrite
overwrite-length d k v h =
    let rest = drop (k + length v) d in
    rw (length-append (take k d) (v ++ rest), length-append v rest, length-take-le k d (omega arith), length-drop (k + length v) d) (omega arith)

-- what stands before the words written, the words, and what stands behind them
pub take-overwrite : (d : List ℕ) (k : ℕ) (v : List ℕ) → k ≤ length d → take (k + length v) (overwrite d k v) ≡ take k d ++ v
unfolding overwrite
take-overwrite d k v h =
    rw (← append_assoc (take k d) v (drop (k + length v) d))
    (take_at (take k d ++ v) (drop (k + length v) d) (k + length v) (rw (length-append (take k d) v, length-take-le k d h)))

pub drop-overwrite : (d : List ℕ) (k : ℕ) (v : List ℕ) → k ≤ length d → drop k (overwrite d k v) ≡ v ++ drop (k + length v) d
unfolding overwrite
drop-overwrite d k v h = drop_at (take k d) (v ++ drop (k + length v) d) k (length-take-le k d h)

-- words written up to the end of an area
pub end-written : (d : List ℕ) (k : ℕ) (v : List ℕ) → k + length v ≡ length d → drop k (overwrite d k v) ≡ v
end-written d k v h =
    drop-overwrite d k v (omega arith) ∙ ap (λ (z : List ℕ). v ++ z) (drop_of_length-le d {i = k + length v} (omega arith)) ∙ append-nil v

-- words written one after another
pub overwrite-two : (d : List ℕ) (k : ℕ) (v w : List ℕ) → k + (length v + length w) ≤ length d
    → overwrite (overwrite d k v) (k + length v) w ≡ overwrite d k (v ++ w)
unfolding overwrite
overwrite-two d k v w h =
    let a : take (k + length v) (overwrite d k v) ≡ take k d ++ v = take-overwrite d k v (omega arith) in
    let e : k + length v + length w ≡ k + (length v + length w) = omega arith in
    let b : drop (k + length v + length w) (overwrite d k v) ≡ drop (length v + length w) (v ++ drop (k + length v) d) =
    ap (λ (z : ℕ). drop z (overwrite d k v)) e
    ∙ sym (drop-drop (length v + length w) k (overwrite d k v))
    ∙ ap (λ (z : List ℕ). drop (length v + length w) z) (drop-overwrite d k v (omega arith)) in
    let e' : k + length v + length w ≡ k + length (v ++ w) = omega (arith, length-append v w) in
    let c : drop (length v + length w) (v ++ drop (k + length v) d) ≡ drop (k + length (v ++ w)) d =
    sym (drop-drop (length w) (length v) (v ++ drop (k + length v) d))
    ∙ ap (λ (z : List ℕ). drop (length w) z) (drop-append_seam v (drop (k + length v) d))
    ∙ drop-drop (length w) (k + length v) d
    ∙ ap (λ (z : ℕ). drop z d) e' in
    rw (a, b, c) (simp append_assoc)

-- a part that was filled with zeros to the end leaves zeros behind
pub cleared : (d z : List ℕ) (k : ℕ) → k ≤ length d → z ≡ replicate (length (take (length d - k) (drop k d))) 0
    → put_mid k (length d - k) d z ≡ padded (take k d) (length d)
unfolding padded
cleared d z k h e =
    let m : length (take (length d - k) (drop k d)) ≡ length d - length (take k d) =
    omega (arith, length-take-le (length d - k) (drop k d), length-drop k d, length-take-le k d h) in
    let n : length d ≤ k + (length d - k) = omega arith in
    rw (e, m, drop-drop (length d - k) k d, drop_of_length-le d {i = k + (length d - k)} n, append-nil)

-- words copied to the front of an area, and the rest of it cleared
pub padded-whole : (d d' w : List ℕ) → length w ≤ length d → length d' ≡ length d → d' ≡ overwrite d 0 w
    → padded (take (length w) d') (length d') ≡ padded w (length d)
padded-whole d d' w h l e =
    let z : 0 + length w ≡ length w = omega arith in
    let t : take (length w) d' ≡ w = rw e (rw z at (take-overwrite d 0 w (omega arith))) in
    rw (t, l)

zeros_at : (m i : ℕ) → ◌≡◌ {A = ℕ} (get_or (replicate m 0) i 0) 0
zeros_at m i = go (ltb i m) refl
  where
    go : (b : Bool) → ltb i m ≡ b → ◌≡◌ {A = ℕ} (get_or (replicate m 0) i 0) 0
    go true e = get_or-replicate {A = ℕ} m i 0 0 (ltb-true i m e)
    go false e =
        let a = ltb-false i m e in
        get_or-eq_default {A = ℕ} (replicate m 0) 0 {n = i} (omega (arith, length-replicate {A = ℕ} m 0))

-- a list with zeros behind it has the list's bytes, and zero elsewhere
pub padded_at : (l : List ℕ) (n j : ℕ) → get_or (padded l n) j 0 ≡ get_or l j 0
unfolding padded
padded_at l n j = go (ltb j (length l)) refl
  where
    go : (b : Bool) → ltb j (length l) ≡ b → get_or (l ++ replicate (n - length l) 0) j 0 ≡ get_or l j 0
    go true e = get_or-append l (replicate (n - length l) 0) 0 j (ltb-true j (length l) e)
    go false e =
        let a = ltb-false j (length l) e in
        let q : j ≡ length l + (j - length l) = omega arith in
        ap (λ (i : ℕ). get_or (l ++ replicate (n - length l) 0) i 0) q
        ∙ get_or-append-add l (replicate (n - length l) 0) (j - length l) 0
        ∙ zeros_at (n - length l) (j - length l)
        ∙ sym (get_or-eq_default l 0 {n = j} a)

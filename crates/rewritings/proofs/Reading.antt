-- A record as the code reads it at a position, and the records from there on by what was read.
use Prim.Native.Nat.{ℕ, ◌+◌, ◌-◌, ◌*◌, ◌≤◌, ◌<◌}
use native.Mathlib.Omega.{arith}
use mathlib.Core.Path.{◌≡◌, refl, ap}
use mathlib.Core.Bool.{Bool, true, false, cond}
use mathlib.Core.List.{List, [], ◌∷◌}
use lib.ListN.{length, get_or, take, drop, length-drop, drop_of_length-le}
use lib.Seq.{drop-drop}
use lib.Dec.{leb}
use borrow.Author.Tests.{le-leb, lt-leb}
use Rattle.std.specs.Prelude.{Some, None}
use Rattle.laws.specs.Laws.{highest_law}
use Rattle.rewritings.specs.declared.Record.TheVariants.{Step, Back}
use Rattle.rewritings.specs.Moves.{Move}
use Rattle.rewritings.specs.Records.{Recorded, forward, backward, backward?, First, nothing, cut_short, one_step, first_carried, first_backward, first_with, first_record, Cut, go_on, cut_from, records_of, whole?}
use Rattle.rewritings.specs.Reading.{read_first, record_at}
use Rattle.rewritings.proofs.Cutting.{low_backward, first-within, cut_by}

-- a step backwards, by the bytes behind its place: its length and the words behind that
module _ (m : Move) (p : ℕ) where
  pub back-short : (r : List ℕ) → length r < 2 → None ≡ read_first p (first_backward m r)
  unfolding first_backward
  back-short [] h = refl
  back-short (a ∷ []) h = refl
  back-short (a ∷ (b ∷ r)) h = absurd (omega arith)

  opened-back : (r : List ℕ) (size : ℕ) → 2 ≤ length r → size ≡ get_or r 0 0 + get_or r 1 0 * 256 → first_backward m r ≡ first_carried m size (drop 2 r)
  unfolding first_backward
  opened-back [] size h e = absurd (omega arith)
  opened-back (a ∷ []) size h e = absurd (omega arith)
  opened-back (a ∷ (b ∷ r)) size h e = let z : a + 256 * b ≡ size = omega arith in rw z

  module _ (r : List ℕ) (size : ℕ) (length-there : 2 ≤ length r) (is : size ≡ get_or r 0 0 + get_or r 1 0 * 256) where
    pub back_cut : length r - 2 < size → None ≡ read_first p (first_backward m r)
    unfolding first_carried
    back_cut h = rw (opened-back r size length-there is, lt-leb size (length (drop 2 r)) (rw (length-drop 2 r) h))

    pub back-there : size ≤ length r - 2 → Some (Back m.law m.place (p + 5) (p + 5 + size)) ≡ read_first p (first_backward m r)
    unfolding first_carried
    back-there h =
        let e : p + 5 + size ≡ p + (5 + size) = omega arith in
        rw (opened-back r size length-there is, le-leb size (length (drop 2 r)) (rw (length-drop 2 r) h), e)

-- a record by its first byte
short-end : (l : List ℕ) (p : ℕ) → length l < 3 → None ≡ read_first p (first_record l)
unfolding first_record
short-end [] p h = refl
short-end (k ∷ []) p h = refl
short-end (k ∷ (l ∷ [])) p h = refl
short-end (k ∷ (l ∷ (x ∷ r))) p h = absurd (omega arith)

opened-first : (r : List ℕ) (place : ℕ) → 3 ≤ length r → place ≡ get_or r 1 0 + get_or r 2 0 * 256
    → first_record r ≡ first_with (get_or r 0 0) place (drop 3 r)
unfolding first_record
opened-first [] place h e = absurd (omega arith)
opened-first (k ∷ []) place h e = absurd (omega arith)
opened-first (k ∷ (l ∷ [])) place h e = absurd (omega arith)
opened-first (k ∷ (l ∷ (x ∷ r))) place h e = let z : l + 256 * x ≡ place = omega arith in rw z

module _ (ws : List ℕ) (p : ℕ) where
  pub record_short : length ws < p + 3 → None ≡ record_at ws p
  unfolding record_at
  record_short h = short-end (drop p ws) p (rw (length-drop p ws) (omega arith))

  -- the bytes from a position on, as they are lent
  module _ (r : List ℕ) (place : ℕ) (lent : r ≡ drop p ws) (there : 3 ≤ length r) (is : place ≡ get_or r 1 0 + get_or r 2 0 * 256) where
    opened : record_at ws p ≡ read_first p (first_with (get_or r 0 0) place (drop (p + 3) ws))
    unfolding record_at
    opened = rw (← lent, opened-first r place there is, lent, drop-drop 3 p ws)

    pub record_low : get_or r 0 0 ≤ 128 → Some (Step (get_or r 0 0) place (p + 3)) ≡ record_at ws p
    unfolding first_with
    record_low h = rw (opened, low_backward (get_or r 0 0) (omega (arith, h)))

    pub record_high : 128 + highest_law < get_or r 0 0 → Some (Step (get_or r 0 0) place (p + 3)) ≡ record_at ws p
    unfolding first_with backward?
    record_high h = rw (opened, le-leb 129 (get_or r 0 0) (omega arith), lt-leb (get_or r 0 0) (128 + highest_law) h)

    pub record_back : 128 < get_or r 0 0 → get_or r 0 0 ≤ 128 + highest_law
        → read_first p (first_backward (record { law = get_or r 0 0 - 128; place = place }) (drop (p + 3) ws)) ≡ record_at ws p
    unfolding first_with backward?
    record_back low high = rw (opened, le-leb 129 (get_or r 0 0) (omega (arith, low)), le-leb (get_or r 0 0) (128 + highest_law) high)

-- The records from a position on, by what the code reads there.
module _ (ws : List ℕ) (p : ℕ) where
  -- a step read is the next record, and those behind it are the records from the position after it on
  pub record StepRead (k q next : ℕ) : Type 0 where
    pub after : p < next
    pub within : next ≤ length ws
    pub records : records_of (drop p ws) ≡ forward (record { law = k; place = q }) ∷ records_of (drop next ws)
    pub ends : whole? (drop p ws) ≡ whole? (drop next ws)

  -- so is a step backwards, whose left side stands between two positions
  pub record BackRead (k q from next : ℕ) : Type 0 where
    pub after : p < from
    pub words-there : from ≤ next
    pub within : next ≤ length ws
    pub known : (1 ≤ k) × (k ≤ highest_law)
    pub records : records_of (drop p ws) ≡ backward (record { law = k; place = q }) (take (next - from) (drop from ws)) ∷ records_of (drop next ws)
    pub ends : whole? (drop p ws) ≡ whole? (drop next ws)

  cut_here : (f : First) → first_record (drop p ws) ≡ f → cut_from 0 (drop p ws) ≡ go_on f (λ size. cut_from 0 (drop size (drop p ws)))
  cut_here f e = cut_by (drop p ws) f e

  -- at the end no record is left
  pub records-end : None ≡ record_at ws p → records_of (drop p ws) ≡ []
  unfolding record_at records_of
  records-end e = go (first_record (drop p ws)) refl e
    where
      go : (f : First) → first_record (drop p ws) ≡ f → None ≡ read_first p f → (cut_from 0 (drop p ws)).records ≡ []
      go nothing q e = ap (λ (c : Cut). c.records) (cut_here nothing q)
      go cut_short q e = ap (λ (c : Cut). c.records) (cut_here cut_short q)
      go (one_step (forward m) size) q e = let z : ◌≡◌ {A = ℕ} 0 1 = cc in absurd (omega arith)
      go (one_step (backward m left) size) q e = let z : ◌≡◌ {A = ℕ} 0 1 = cc in absurd (omega arith)

  -- and a record is cut short there exactly if bytes are left
  first_bytes : (l : List ℕ) → 1 ≤ length l → first_record l ≡ nothing → ⊥
  unfolding first_record first_with first_backward first_carried
  first_bytes [] h e = omega arith
  first_bytes (k ∷ []) h e = let z : ◌≡◌ {A = ℕ} 0 1 = cc in omega arith
  first_bytes (k ∷ (l ∷ [])) h e = let z : ◌≡◌ {A = ℕ} 0 1 = cc in omega arith
  first_bytes (k ∷ (l ∷ (x ∷ r))) h e = go (backward? k) r e
    where
      carried : (d : Bool) (f : First) (z : ℕ) (m : Recorded) → cond d (one_step m z) cut_short ≡ nothing → ⊥
      carried true f z m e = let z : ◌≡◌ {A = ℕ} 0 1 = cc in omega arith
      carried false f z m e = let z : ◌≡◌ {A = ℕ} 0 1 = cc in omega arith

      go : (d : Bool) (r : List ℕ) → cond d (first_backward (record { law = k - 128; place = l + 256 * x }) r) (one_step (forward (record { law = k; place = l + 256 * x })) 3) ≡ nothing → ⊥
      go true [] e = let z : ◌≡◌ {A = ℕ} 0 1 = cc in omega arith
      go true (b ∷ []) e = let z : ◌≡◌ {A = ℕ} 0 1 = cc in omega arith
      go true (b ∷ (c ∷ r)) e = carried (leb (b + 256 * c) (length r)) nothing _ _ e
      go false r e = let z : ◌≡◌ {A = ℕ} 0 1 = cc in omega arith

  pub end_short : None ≡ record_at ws p → p < length ws → whole? (drop p ws) ≡ false
  unfolding record_at whole?
  end_short e h = go (first_record (drop p ws)) refl e
    where
      go : (f : First) → first_record (drop p ws) ≡ f → None ≡ read_first p f → (cut_from 0 (drop p ws)).whole ≡ false
      go nothing q e = absurd (first_bytes (drop p ws) (rw (length-drop p ws) (omega arith)) q)
      go cut_short q e = ap (λ (c : Cut). c.whole) (cut_here cut_short q)
      go (one_step (forward m) size) q e = let z : ◌≡◌ {A = ℕ} 0 1 = cc in absurd (omega arith)
      go (one_step (backward m left) size) q e = let z : ◌≡◌ {A = ℕ} 0 1 = cc in absurd (omega arith)

  pub end_whole : length ws ≤ p → whole? (drop p ws) ≡ true
  unfolding whole? cut_from
  end_whole h = rw (drop_of_length-le ws h)

  pub records-step : (k q next : ℕ) → Some (Step k q next) ≡ record_at ws p → StepRead k q next
  unfolding record_at records_of whole?
  records-step k q next e = go (first_record (drop p ws)) refl e
    where
      go : (f : First) → first_record (drop p ws) ≡ f → Some (Step k q next) ≡ read_first p f → StepRead k q next
      go nothing z e = let z : ◌≡◌ {A = ℕ} 0 1 = cc in absurd (omega arith)
      go cut_short z e = let z : ◌≡◌ {A = ℕ} 0 1 = cc in absurd (omega arith)
      go (one_step (backward m left) size) z e = let z : ◌≡◌ {A = ℕ} 0 1 = cc in absurd (omega arith)
      go (one_step (forward m) size) z e =
          let i = first-within (drop p ws) (forward m) size z in
          let j : next ≡ p + size = cc in
          let a : k ≡ m.law = cc in
          let b : q ≡ m.place = cc in
          let here = cut_here (one_step (forward m) size) z in
          record {
            after = omega (arith, i.some_bytes);
            within = omega (arith, i.all_there, length-drop p ws);
            records = rw (a, b, j, ← drop-drop size p ws) (ap (λ (c : Cut). c.records) here);
            ends = rw (j, ← drop-drop size p ws) (ap (λ (c : Cut). c.whole) here);
          }

  pub records-back : (k q from next : ℕ) → Some (Back k q from next) ≡ record_at ws p → BackRead k q from next
  unfolding record_at records_of whole?
  records-back k q from next e = go (first_record (drop p ws)) refl e
    where
      go : (f : First) → first_record (drop p ws) ≡ f → Some (Back k q from next) ≡ read_first p f → BackRead k q from next
      go nothing z e = let z : ◌≡◌ {A = ℕ} 0 1 = cc in absurd (omega arith)
      go cut_short z e = let z : ◌≡◌ {A = ℕ} 0 1 = cc in absurd (omega arith)
      go (one_step (forward m) size) z e = let z : ◌≡◌ {A = ℕ} 0 1 = cc in absurd (omega arith)
      go (one_step (backward m left) size) z e =
          let i = first-within (drop p ws) (backward m left) size z in
          let j : next ≡ p + size = cc in
          let f : from ≡ p + 5 = cc in
          let a : k ≡ m.law = cc in
          let b : q ≡ m.place = cc in
          let d : p + size - (p + 5) ≡ size - 5 = omega arith in
          let left_is : left ≡ take (p + size - (p + 5)) (drop (p + 5) ws) = rw (d, ← drop-drop 5 p ws) i.carries.1 in
          let here = cut_here (one_step (backward m left) size) z in
          record {
            after = omega arith;
            words-there = omega (arith, i.carries.0);
            within = omega (arith, i.all_there, length-drop p ws);
            known = rw a i.known;
            records = rw (a, b, j, f, ← left_is, ← drop-drop size p ws) (ap (λ (c : Cut). c.records) here);
            ends = rw (j, ← drop-drop size p ws) (ap (λ (c : Cut). c.whole) here);
          }

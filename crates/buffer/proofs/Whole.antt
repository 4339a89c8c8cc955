-- Laws of a plan held as a gap buffer: its parts, the gap moved by a word, and a step made at the gap.
use Prim.Native.Nat.{ℕ, suc, ◌+◌, ◌-◌, ◌≤◌, ◌<◌}
use native.Mathlib.Omega.{arith}
use native.Mathlib.Numerals.{add-one}
use mathlib.Core.Path.{◌≡◌, refl, sym, ◌∙◌}
use mathlib.Core.List.{List, [], ◌∷◌, ◌++◌, append_assoc}
use lib.ListN.{length, get_or, set, take, drop, length-append, length-drop, length-set}
use lib.Seq.{length-take-le, take_at, drop-cons, take-add, take_all, take-suc-set, get_or-set_same, get_or-set_other}
use borrow.Author.Count.{below_more}
use Rattle.areas.specs.Area.{overwrite, most_words}
use Rattle.areas.proofs.Area.{drop-overwrite, overwrite-length}
use Rattle.plans.specs.Start.{start_of}
use Rattle.areas.specs.declared.StepState.{StepState}
use Rattle.areas.specs.Reached.{even?}
use Rattle.areas.specs.Storing.{stepped, before, Kept}
use Rattle.areas.proofs.Storing as storing
use Rattle.buffer.specs.Buffer.{whole, Held}
use Rattle.buffer.specs.Moves.{Gap}
use Rattle.plans.proofs.Start.{start-prefix, start-take}

pub held_gap : {n : ℕ} {left starts right : List ℕ} {read rest : ℕ} → Held n left starts right read rest → Gap left right read rest
held_gap h = record { left_long = h.left_long; right_long = h.right_long; rest_in = h.rest_in; apart = h.apart }

-- nothing is read of a plan just loaded
pub held-loaded : (n : ℕ) (left starts right : List ℕ) (rest : ℕ) → length left ≡ most_words → length starts ≡ most_words → length right ≡ most_words → rest ≤ most_words
    → Held n left starts right 0 rest
held-loaded n left starts right rest a b c d =
    record {
      left_long = a;
      starts_long = b;
      right_long = c;
      rest_in = d;
      apart = omega arith;
      starts_right = λ k h. absurd (omega arith);
    }

-- fewer words read, and any rest behind them
pub held-fewer : (n : ℕ) (left starts right right' : List ℕ) (read rest read' rest' : ℕ) → Held n left starts right read rest
    → length right' ≡ most_words → read' ≤ read → read' ≤ rest' → rest' ≤ most_words → Held n left starts right' read' rest'
held-fewer n left starts right right' read rest read' rest' h long fewer apart within =
    record {
      left_long = h.left_long;
      starts_long = h.starts_long;
      right_long = long;
      rest_in = within;
      apart = apart;
      starts_right = λ k l. h.starts_right k (omega arith) ∙ sym (same k l);
    }
  where
    same : (k : ℕ) → k < read' → start_of n (take read' left) k ≡ start_of n (take read left) k
    same k l =
        start-take n left read' k (omega arith) l ∙ sym (start-take n left read k (omega arith) (omega arith))

-- the words read from a place on are back in the rest
pub held_back : (n : ℕ) (left starts right right' : List ℕ) (read rest to : ℕ) → Held n left starts right read rest → length right' ≡ length right → to ≤ read
    → Held n left starts right' to (rest - (read - to))
held_back n left starts right right' read rest to h long fewer =
    held-fewer n left starts right right' read rest to (rest - (read - to)) h (long ∙ h.right_long) fewer (omega (arith, h.apart, fewer)) (omega (arith, h.rest_in))

-- the parts of the plan
module _ (left right : List ℕ) (read rest : ℕ) (g : Gap left right read rest) where
  pub read-long : length (take read left) ≡ read
  read-long = length-take-le read left (omega arith)

  pub whole_length : length (whole left right read rest) ≡ read + (most_words - rest)
  unfolding whole
  whole_length = rw (length-append (take read left) (drop rest right), read-long, length-drop rest right, g.right_long) refl

  pub take_whole : take read (whole left right read rest) ≡ take read left
  unfolding whole
  take_whole = take_at (take read left) (drop rest right) read read-long

  -- its two parts as slices of the arrays
  pub whole_parts : take read left ++ take (length right - rest) (drop rest right) ≡ whole left right read rest
  unfolding whole
  whole_parts = rw (take_all (length right - rest) (drop rest right) (rw (length-drop rest right) (omega arith))) refl

-- the gap moved by a word
pub forward-whole : (left right : List ℕ) (read rest : ℕ) → Gap left right read rest → rest < most_words
    → whole (set left read (get_or right rest 0)) right (read + 1) (rest + 1) ≡ whole left right read rest
unfolding whole
forward-whole left right read rest g more =
    let w = get_or right rest 0 in
    rw (add-one read, add-one rest, take-suc-set left read w (omega arith), drop-cons right rest 0 (omega arith))
    (append_assoc (take read left) (w ∷ []) (drop (suc rest) right))

pub held_forward : (n : ℕ) (left starts right : List ℕ) (read rest w at : ℕ) → Held n left starts right read rest → rest < most_words
    → at ≡ start_of n (take read left ++ (w ∷ [])) read → Held n (set left read w) (set starts read at) right (read + 1) (rest + 1)
held_forward n left starts right read rest w at h more e =
    record {
      left_long = length-set left read w ∙ h.left_long;
      starts_long = length-set starts read at ∙ h.starts_long;
      right_long = h.right_long;
      rest_in = omega arith;
      apart = omega arith;
      starts_right = λ k l. rw (add-one read, take-suc-set left read w (omega arith)) (below_more _ _ earlier here k l);
    }
  where
    here : get_or (set starts read at) read 0 ≡ start_of n (take read left ++ (w ∷ [])) read
    here = get_or-set_same starts read at 0 (omega arith) ∙ e

    earlier : (k : ℕ) → k < read → get_or (set starts read at) k 0 ≡ start_of n (take read left ++ (w ∷ [])) k
    earlier k l =
        get_or-set_other starts read k at 0 (λ q. omega arith)
        ∙ h.starts_right k l
        ∙ sym (start-prefix n (take read left) (w ∷ []) k (omega (arith, read-long left right read rest (held_gap h))))

-- a step at the gap: the words `side` were written in front of the rest, and take the place of the words read from `start` on
module _ (left right side : List ℕ) (read rest start : ℕ) (g : Gap left right read rest) (within : start ≤ read) (room : start + length side ≤ rest) where
  pub step-whole : whole left (overwrite right (rest - length side) side) start (rest - length side) ≡ take start left ++ (side ++ drop rest right)
  unfolding whole
  step-whole =
      let e : rest - length side + length side ≡ rest = omega arith in
      rw (drop-overwrite right (rest - length side) side (omega arith), e) refl

  pub held-step : (n : ℕ) (starts : List ℕ) → Held n left starts right read rest
      → Held n left starts (overwrite right (rest - length side) side) start (rest - length side)
  held-step n starts h =
      held-fewer n left starts right (overwrite right (rest - length side) side) read rest start (rest - length side) h
      (overwrite-length right (rest - length side) side (omega arith) ∙ g.right_long) within (omega arith) (omega arith)

  -- the words that the step took away
  abbrev gone : List ℕ
  gone = take (read - start) (drop start left)

  gone_long : length gone ≡ read - start
  gone_long = length-take-le (read - start) (drop start left) (omega (arith, length-drop start left))

  gone_back : take start left ++ (gone ++ drop rest right) ≡ whole left right read rest
  unfolding whole
  gone_back =
      let c : start + (read - start) ≡ read = omega arith in
      rw (← append_assoc (take start left) gone (drop rest right), ← take-add start (read - start) left, c) refl

  -- where they are kept, they can be put back
  module _ (s : StepState) (old : List ℕ) (kept : take (read - start) old ≡ gone) where
    pub before-step : before (stepped s start (read - start) (length side)) (take start left ++ (side ++ drop rest right)) old ≡ whole left right read rest
    before-step =
        storing.before-step (take start left) gone side (drop rest right) old s start (read - start) (length side) (length-take-le start left (omega arith)) gone_long refl kept
        ∙ gone_back

    pub kept_step : (c : ℕ) → length (whole left right read rest) ≤ c → length (take start left ++ (side ++ drop rest right)) ≤ c → s.even ≡ even? s.steps
        → Kept c (take start left ++ (side ++ drop rest right)) old (stepped s start (read - start) (length side))
    kept_step c fits =
        storing.kept_step (take start left) gone side (drop rest right) old s start (read - start) (length side) (length-take-le start left (omega arith)) gone_long refl kept c
        (rw gone_back fits)

-- words read that are moved back: written in front of the rest, they are the first of it again
pub back_whole : (left right right' : List ℕ) (read rest to : ℕ) → Gap left right read rest → to ≤ read
    → right' ≡ overwrite right (rest - (read - to)) (take (read - to) (drop to left)) → whole left right' to (rest - (read - to)) ≡ whole left right read rest
back_whole left right right' read rest to g within e =
    let v = take (read - to) (drop to left) in
    let long : length v ≡ read - to = gone_long left right [] read rest to g within (omega (arith, g.apart, within)) in
    let z = step-whole left right v read rest to g within (omega (arith, long, g.apart, within)) ∙ gone_back left right v read rest to g within (omega (arith, long, g.apart, within)) in
    rw e (rw long at z)

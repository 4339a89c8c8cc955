-- A step made at the last word read: the plan under work is then the next plan, and the plan before it can be put together again.
use Prim.Native.Nat.{ℕ, ◌+◌, ◌-◌, ◌≤◌, ◌<◌}
use native.Mathlib.Omega.{arith}
use mathlib.Core.Path.{◌≡◌, refl}
use mathlib.Core.List.{List, ◌++◌}
use mathlib.Core.Option.{none}
use Rattle.std.specs.Prelude.{Some}
use lib.ListN.{length, take, drop, length-append, length-drop}
use lib.Seq.{length-take-le, take-take}
use Rattle.tables.specs.Tables.{Tables, actions}
use Rattle.plans.specs.Judging.{words_refusal}
use Rattle.plans.specs.Start.{start_of}
use Rattle.plans.proofs.Start.{start-below}
use Rattle.areas.specs.Reached.{even?}
use Rattle.buffer.specs.declared.State.{State}
use Rattle.buffer.specs.Buffer.{whole}
use Rattle.buffer.specs.Moves.{Gap}
use Rattle.buffer.proofs.Whole.{held_gap, whole_length, step-whole, held-step, before-step, kept_step}
use Rattle.steps.specs.Working.{plan_in, Working, Next, start_here, next_with, Put, put_in}
use Rattle.rewritings.proofs.Prefixes.{put_last}
use Rattle.areas.specs.Area.{most_words}

-- the plan by its words read and its words behind
pub plan_split : (left right : List ℕ) (s : State) → plan_in left right s ≡ take s.read left ++ drop s.rest right
unfolding whole
plan_split left right s = refl

module _ (t : Tables) (left starts right : List ℕ) (s : State) (work : Working t left starts right s) where
  pub gap : Gap left right s.read s.rest
  gap = held_gap work.held

  pub read-long : length (take s.read left) ≡ s.read
  read-long = length-take-le s.read left (omega (arith, gap.left_long, gap.apart, gap.rest_in))

  pub plan-long : length (plan_in left right s) ≡ s.read + (most_words - s.rest)
  plan-long = whole_length left right s.read s.rest gap

  -- where the subplan at the last word read starts
  pub start_is : 1 ≤ s.read → start_here starts s ≡ start_of (actions t) (take s.read left) (s.read - 1)
  start_is h = work.held.starts_right (s.read - 1) (omega arith)

  pub start-before : 1 ≤ s.read → start_here starts s < s.read
  start-before h = omega (arith, start_is h, start-below (actions t) (take s.read left) (s.read - 1))

  -- the plan with a right side put in at the last word read
  pub next_is : (v : List ℕ) → 1 ≤ s.read
      → take (start_here starts s) left ++ (v ++ drop s.rest right) ≡ put_last (actions t) (take s.read left) (drop s.rest right) v
  next_is v h =
      let l : take (start_here starts s) (take s.read left) ≡ take (start_here starts s) left = take-take (start_here starts s) s.read left (omega (arith, start-before h)) in
      rw (read-long, ← start_is h, l)

  -- how many words it has
  pub next_long : (v : List ℕ) → 1 ≤ s.read
      → length (take (start_here starts s) left ++ (v ++ drop s.rest right)) ≡ start_here starts s + (length v + (most_words - s.rest))
  next_long v h =
      let st = start_here starts s in
      rw (
        length-append (take st left) (v ++ drop s.rest right),
        length-append v (drop s.rest right),
        length-take-le st left (omega (arith, start-before h, gap.left_long, gap.apart, gap.rest_in)),
        length-drop s.rest right,
        gap.right_long,
      )

-- words put in: the plan under work is then the next plan, and the plan before it can be put together again
module _ (t : Tables) (c : ℕ) (side left starts right old right' old' : List ℕ) (s : State) (most : c ≤ most_words) (work : Working t left starts right s)
    (fits_c : length (plan_in left right s) ≤ c) (parity : s.made.even ≡ even? s.made.steps) (read_Some : 1 ≤ s.read)
    (accepted-next : length (next_with side left starts right s) ≤ most_words → words_refusal (actions t) (next_with side left starts right s) ≡ none) where
  pub made-next : (s' : State) → Put c side left starts right old right' old' s (Some s')
      → Next t c left right left starts right' old' s s' (next_with side left starts right s)
  made-next s' (put_in short-next written kept-words) =
      let st = start_here starts s in
      let w = next_with side left starts right s in
      let h = gap t left starts right s work in
      let le : st ≤ s.read = omega (arith, start-before t left starts right s work read_Some) in
      let room : st + length side ≤ s.rest = omega (arith, next_long t left starts right s work side read_Some, h.rest_in, most) in
      let e : plan_in left right' s' ≡ w = rw written (step-whole left right side s.read s.rest st h le room) in
      record {
        working =
            record {
              held = rw written (held-step left right side s.read s.rest st h le room (actions t) starts work.held);
              accepted = rw e (accepted-next (omega arith));
            };
        kept = kept_step left right side s.read s.rest st h le room s.made old' kept-words c fits_c short-next parity;
        next_plan = e;
        next_before = before-step left right side s.read s.rest st h le room s.made old' kept-words;
        next_steps = refl;
      }

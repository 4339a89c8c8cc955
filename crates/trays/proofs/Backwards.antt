-- Steps from right to left, by computation: each of the thirty-two laws, laws that forget a part of their left side, records cut short, what is
-- refused of records, whole checks, and a rewriting turned round.
use Rattle.std.specs.Prelude.{Result, Ok, Err}
use Prim.Native.Nat.{ℕ, suc}
use mathlib.Core.Path.{◌≡◌, refl, ◌∙◌}
use mathlib.Core.Bool.{Bool, true, false, ◌&&◌}
use mathlib.Core.List.{List, [], ◌∷◌, ◌++◌, map}
use mathlib.Core.Option.{Option, none, some}
use lib.ListN.{length, replicate}
use Rattle.refusals.specs.declared.Place.TheVariants.{Nowhere, Step}
use Rattle.refusals.specs.declared.Refusal.{Refusal}
use Rattle.refusals.specs.Refusal.{refuse, or_else}
use Rattle.areas.specs.Area.{padded}
use Rattle.areas.specs.Reached.{capacity, even?, area_a, area_b}
use Rattle.tables.specs.Tables.{actions, communication, below, blocked}
use Rattle.plans.specs.Judging.{words_refusal, plan_refusal}
use Rattle.plans.specs.Place.{replace}
use Rattle.laws.specs.Laws.{law_at, rewrite, same_bytes}
use Rattle.laws.specs.Step.{step, step_back}
use Rattle.rewritings.specs.Moves.{Move}
use Rattle.rewritings.specs.Records.{Recorded, forward, backward, backward?, first_carried, first_backward, first_with, first_record, Cut, cut_from, records_of, bytes_of_all}
use Rattle.checking.specs.declared.Checked.{Checked}
use Rattle.checking.specs.declared.Checked.TheVariants.{Accepted, TurnedBack}
use Rattle.checking.specs.Checking.{step_of, left_refusal, records_refusal, rewriting_refusal, check_refusal, replay, replay_of, CheckOutcome, unless_refused, check_outcome}
use Rattle.demands.specs.Reversed.{moved, turned, turned_round, reversed}
use Rattle.trays.specs.Trays.{trial, communicate, put_below, block}
use Rattle.trays.proofs.Ground.{trial-accepted}

-- an example of a law: a left side in words, and the right side that the law makes of it
record Sides : Type 0 where
  left : List ℕ
  right : List ℕ

infix 10 ◌from◌
abbrev ◌from◌ : List ℕ → List ℕ → Sides
l from r = record { left = l; right = r }

abbrev gives : Option (List ℕ) → List ℕ → Bool
gives none w = false
gives (some v) w = same_bytes v w

-- law k backwards in 4·y, at y, which is the right side: the left side comes to stand there
unfoldable comes_back : ℕ → Sides → Bool
comes_back k s = gives (step_back trial k (length s.right) s.left (4 ∷ (s.right ++ (65 ∷ [])))) (4 ∷ (s.left ++ (65 ∷ [])))

unfoldable all_come_back : ℕ → List Sides → Bool
all_come_back k [] = true
all_come_back k (s ∷ ss) = comes_back k s && all_come_back (suc k) ss

-- laws 1 to 32
unfoldable sides : List Sides
sides =
    ((1 ∷ 2 ∷ 64 ∷ []) from (2 ∷ 1 ∷ 64 ∷ []))  -- 1
    ∷ ((1 ∷ 2 ∷ 3 ∷ 64 ∷ 64 ∷ []) from (1 ∷ 2 ∷ 64 ∷ 3 ∷ 64 ∷ []))  -- 2
    ∷ ((1 ∷ 2 ∷ 64 ∷ 3 ∷ 64 ∷ []) from (1 ∷ 2 ∷ 3 ∷ 64 ∷ 64 ∷ []))  -- 3
    ∷ ((1 ∷ 1 ∷ 64 ∷ []) from (1 ∷ []))  -- 4
    ∷ ((1 ∷ 2 ∷ 64 ∷ 3 ∷ 65 ∷ []) from (1 ∷ 3 ∷ 65 ∷ 2 ∷ 3 ∷ 65 ∷ 64 ∷ []))  -- 5
    ∷ ((1 ∷ 2 ∷ 65 ∷ 3 ∷ 65 ∷ []) from (1 ∷ 2 ∷ 3 ∷ 65 ∷ 65 ∷ []))  -- 6
    ∷ ((1 ∷ 0 ∷ 64 ∷ []) from (1 ∷ []))  -- 7
    ∷ ((0 ∷ 1 ∷ 64 ∷ []) from (1 ∷ []))  -- 8
    ∷ ((0 ∷ 1 ∷ 65 ∷ []) from (0 ∷ []))  -- 9
    ∷ ((1 ∷ 2 ∷ 68 ∷ []) from (3 ∷ []))  -- 10
    ∷ ((1 ∷ 2 ∷ 66 ∷ []) from (1 ∷ 2 ∷ 67 ∷ 2 ∷ 1 ∷ 67 ∷ 64 ∷ 1 ∷ 2 ∷ 68 ∷ 64 ∷ []))  -- 11
    ∷ ((1 ∷ 2 ∷ 67 ∷ []) from (1 ∷ 2 ∷ 65 ∷ []))  -- 12
    ∷ ((1 ∷ 2 ∷ 65 ∷ 3 ∷ 67 ∷ []) from (1 ∷ 2 ∷ 3 ∷ 66 ∷ 65 ∷ []))  -- 13
    ∷ ((1 ∷ 2 ∷ 64 ∷ 3 ∷ 67 ∷ []) from (1 ∷ 3 ∷ 67 ∷ 2 ∷ 3 ∷ 67 ∷ 64 ∷ []))  -- 14
    ∷ ((1 ∷ 3 ∷ 65 ∷ 2 ∷ 68 ∷ []) from (1 ∷ 2 ∷ 68 ∷ 3 ∷ 65 ∷ []))  -- 15
    ∷ ((1 ∷ 2 ∷ 3 ∷ 65 ∷ 68 ∷ []) from (1 ∷ 2 ∷ 68 ∷ 3 ∷ 65 ∷ []))  -- 16
    ∷ ((1 ∷ 3 ∷ 65 ∷ 2 ∷ 4 ∷ 65 ∷ 68 ∷ []) from (1 ∷ 2 ∷ 68 ∷ 3 ∷ 4 ∷ 66 ∷ 65 ∷ []))  -- 17
    ∷ ((1 ∷ 2 ∷ 64 ∷ 3 ∷ 68 ∷ []) from (1 ∷ 3 ∷ 68 ∷ 2 ∷ 3 ∷ 68 ∷ 64 ∷ []))  -- 18
    ∷ ((1 ∷ 2 ∷ 3 ∷ 64 ∷ 68 ∷ []) from (1 ∷ 2 ∷ 68 ∷ 1 ∷ 3 ∷ 68 ∷ 64 ∷ []))  -- 19
    ∷ ((3 ∷ 80 ∷ []) from (3 ∷ []))  -- 20
    ∷ ((1 ∷ 80 ∷ []) from (0 ∷ []))  -- 21
    ∷ ((1 ∷ 2 ∷ 64 ∷ 80 ∷ []) from (1 ∷ 80 ∷ 2 ∷ 80 ∷ 64 ∷ []))  -- 22
    ∷ ((1 ∷ 2 ∷ 65 ∷ 80 ∷ []) from (1 ∷ 80 ∷ 2 ∷ 80 ∷ 65 ∷ []))  -- 23
    ∷ ((2 ∷ 4 ∷ 69 ∷ []) from (2 ∷ []))  -- 24
    ∷ ((1 ∷ 4 ∷ 69 ∷ []) from (0 ∷ []))  -- 25
    ∷ ((1 ∷ 2 ∷ 3 ∷ 65 ∷ 69 ∷ []) from (1 ∷ 2 ∷ 69 ∷ []))  -- 26
    ∷ ((1 ∷ 2 ∷ 3 ∷ 64 ∷ 69 ∷ []) from (1 ∷ 2 ∷ 69 ∷ 3 ∷ 69 ∷ []))  -- 27
    ∷ ((1 ∷ 2 ∷ 65 ∷ 3 ∷ 69 ∷ []) from (1 ∷ 3 ∷ 69 ∷ 2 ∷ 65 ∷ []))  -- 28
    ∷ ((1 ∷ 2 ∷ 64 ∷ 3 ∷ 69 ∷ []) from (1 ∷ 3 ∷ 69 ∷ 2 ∷ 3 ∷ 69 ∷ 64 ∷ []))  -- 29
    ∷ ((1 ∷ 70 ∷ []) from (1 ∷ []))  -- 30
    ∷ ((1 ∷ 2 ∷ 65 ∷ 70 ∷ []) from (1 ∷ 70 ∷ 2 ∷ 70 ∷ 65 ∷ []))  -- 31
    ∷ ((1 ∷ 2 ∷ 64 ∷ 70 ∷ []) from (1 ∷ 70 ∷ 2 ∷ 69 ∷ 2 ∷ 70 ∷ 1 ∷ 69 ∷ 64 ∷ []))  -- 32
    ∷ []

each-law : all_come_back 1 sides ≡ true
unfolding trial communicate put_below block sides all_come_back comes_back step_back law_at rewrite step actions replace communication below blocked
each-law = refl

-- laws 9, 25 and 26 forget a part of their left side: the one that is carried decides
forgotten : (comes_back 9 ((0 ∷ 3 ∷ 65 ∷ []) from (0 ∷ [])) ≡ true) × (comes_back 9 ((0 ∷ 1 ∷ 2 ∷ 64 ∷ 65 ∷ []) from (0 ∷ [])) ≡ true)
    × (comes_back 25 ((1 ∷ 4 ∷ 69 ∷ []) from (0 ∷ [])) ≡ true) × (comes_back 25 ((0 ∷ 2 ∷ 69 ∷ []) from (0 ∷ [])) ≡ true)
    × (comes_back 26 ((1 ∷ 2 ∷ 3 ∷ 65 ∷ 69 ∷ []) from (1 ∷ 2 ∷ 69 ∷ [])) ≡ true) × (comes_back 26 ((1 ∷ 2 ∷ 0 ∷ 70 ∷ 65 ∷ 69 ∷ []) from (1 ∷ 2 ∷ 69 ∷ [])) ≡ true)
unfolding trial communicate put_below block comes_back step_back law_at rewrite step actions replace communication below blocked
forgotten = (refl, refl, refl, refl, refl, refl)

-- "exactly the subplan": not another one, not a part of it, not one that it begins with; the condition of law 25; and a place past the end
abbrev NotBack : ℕ → ℕ → List ℕ → List ℕ → Type 0
NotBack k p left plan = step_back trial k p left plan ≡ none

not_fitting : NotBack 1 2 (1 ∷ 3 ∷ 64 ∷ []) (2 ∷ 1 ∷ 64 ∷ []) × NotBack 12 0 (1 ∷ 2 ∷ 67 ∷ []) (1 ∷ [])
    × NotBack 7 3 (1 ∷ 0 ∷ 64 ∷ []) (4 ∷ 1 ∷ 2 ∷ 65 ∷ 65 ∷ []) × NotBack 9 1 (0 ∷ 3 ∷ 65 ∷ []) (0 ∷ 1 ∷ 65 ∷ [])
    × NotBack 25 0 (2 ∷ 4 ∷ 69 ∷ []) (0 ∷ []) × NotBack 7 1 (1 ∷ 0 ∷ 64 ∷ []) (1 ∷ [])
unfolding trial communicate put_below block step_back law_at rewrite step actions replace below
not_fitting = (refl, refl, refl, refl, refl, refl)

-- law k at place p
infix 10 ◌at◌
abbrev ◌at◌ : ℕ → ℕ → Move
k at p = record { law = k; place = p }

-- the records up to one that is cut short, and those of a rewriting that is whole
abbrev Shortened : List Recorded → Cut
Shortened rs = record { records = rs; whole = false }

abbrev Whole : List Recorded → Cut
Whole rs = record { records = rs; whole = true }

-- law 32 backwards, cut in its place, in its length and in its words, and whole
cut_160 : (cut_from 0 (160 ∷ []) ≡ Shortened []) × (cut_from 0 (160 ∷ 0 ∷ []) ≡ Shortened []) × (cut_from 0 (160 ∷ 0 ∷ 0 ∷ []) ≡ Shortened [])
    × (cut_from 0 (160 ∷ 0 ∷ 0 ∷ 3 ∷ []) ≡ Shortened []) × (cut_from 0 (160 ∷ 0 ∷ 0 ∷ 3 ∷ 0 ∷ 1 ∷ 2 ∷ []) ≡ Shortened [])
    × (cut_from 0 (160 ∷ 5 ∷ 1 ∷ 3 ∷ 0 ∷ 1 ∷ 2 ∷ 64 ∷ 33 ∷ 0 ∷ 0 ∷ []) ≡ Whole (backward (32 at 261) (1 ∷ 2 ∷ 64 ∷ []) ∷ forward (33 at 0) ∷ []))
unfolding cut_from first_record first_with first_backward first_carried backward?
cut_160 = (refl, refl, refl, refl, refl, refl)

-- "any unknown first byte counts as a record of three": 128 and 161 carry nothing
three_bytes : cut_from 0 (128 ∷ 0 ∷ 0 ∷ 161 ∷ 1 ∷ 0 ∷ 5 ∷ 2 ∷ 0 ∷ 0 ∷ []) ≡ Shortened (forward (128 at 0) ∷ forward (161 at 1) ∷ forward (5 at 2) ∷ [])
unfolding cut_from first_record first_with first_backward first_carried backward?
three_bytes = refl

-- 16 before 17, 17 before 75, and the step's index counts records
in_order : (records_refusal 4 (129 ∷ 0 ∷ 0 ∷ []) ≡ refuse 16 Nowhere) × (records_refusal 4 (33 ∷ 0 ∷ 0 ∷ 160 ∷ 0 ∷ 0 ∷ 0 ∷ 0 ∷ 160 ∷ 0 ∷ []) ≡ refuse 16 Nowhere)
    × (records_refusal 4 (160 ∷ 0 ∷ 0 ∷ 0 ∷ 0 ∷ 161 ∷ 0 ∷ 0 ∷ []) ≡ refuse 17 (Step 1))
    × (records_refusal 4 (128 ∷ 0 ∷ 0 ∷ 33 ∷ 0 ∷ 0 ∷ []) ≡ refuse 17 (Step 0))
    × (records_refusal 4 (129 ∷ 0 ∷ 0 ∷ 3 ∷ 0 ∷ 1 ∷ 2 ∷ 64 ∷ 1 ∷ 0 ∷ 0 ∷ 129 ∷ 0 ∷ 0 ∷ 2 ∷ 0 ∷ 1 ∷ 64 ∷ []) ≡ refuse 75 (Step 2))
    × (records_refusal 4 (129 ∷ 0 ∷ 0 ∷ 3 ∷ 0 ∷ 1 ∷ 2 ∷ 64 ∷ []) ≡ none)
unfolding cut_from first_record first_with first_backward first_carried backward? records_refusal words_refusal
in_order = (refl, refl, refl, refl, refl, refl)

-- 75: a left side that is empty, that has no word of a plan, too few operands, or two plans left over
no_plan : (records_refusal 4 (160 ∷ 0 ∷ 0 ∷ 0 ∷ 0 ∷ []) ≡ refuse 75 (Step 0)) × (records_refusal 4 (160 ∷ 0 ∷ 0 ∷ 3 ∷ 0 ∷ 1 ∷ 5 ∷ 64 ∷ []) ≡ refuse 75 (Step 0))
    × (records_refusal 4 (160 ∷ 0 ∷ 0 ∷ 2 ∷ 0 ∷ 1 ∷ 64 ∷ []) ≡ refuse 75 (Step 0)) × (records_refusal 4 (160 ∷ 0 ∷ 0 ∷ 2 ∷ 0 ∷ 1 ∷ 2 ∷ []) ≡ refuse 75 (Step 0))
unfolding cut_from first_record first_with first_backward first_carried backward? records_refusal words_refusal
no_plan = (refl, refl, refl, refl)

-- a left side of 16,384 words is not too long, and one of 16,385 is
longest : left_refusal 4 0 (backward (30 at 0) (1 ∷ replicate 16383 70) ∷ []) ≡ none
unfolding left_refusal words_refusal
longest = refl

overlong : left_refusal 4 0 (backward (30 at 0) (1 ∷ replicate 16384 70) ∷ []) ≡ refuse 75 (Step 0)
unfolding left_refusal words_refusal
overlong = refl

-- 1‖2 by laws 11 and 10, and the way back
abbrev there-records : List ℕ
there-records = 11 ∷ 2 ∷ 0 ∷ 10 ∷ 9 ∷ 0 ∷ []

abbrev back-records : List ℕ
back-records = 138 ∷ 7 ∷ 0 ∷ 3 ∷ 0 ∷ 1 ∷ 2 ∷ 68 ∷ 139 ∷ 10 ∷ 0 ∷ 3 ∷ 0 ∷ 1 ∷ 2 ∷ 66 ∷ []

turned_so : reversed trial (1 ∷ 2 ∷ 66 ∷ []) there-records ≡ back-records
unfolding trial communicate put_below block reversed turned_round turned moved step_of step_back law_at rewrite step actions replace communication records_of bytes_of_all cut_from first_record first_with first_backward first_carried backward?
turned_so = refl

-- a check from one plan to another, claimed one, in areas of so many bytes, and what it answers and leaves
record Case : Type 0 where
  start : List ℕ
  claimed : List ℕ
  rewriting : List ℕ
  size : ℕ
  left : CheckOutcome

abbrev check : List ℕ → List ℕ → List ℕ → ℕ → Result Checked Refusal → List ℕ → List ℕ → Case
check start claimed rewriting size answer a b =
    record { start = start; claimed = claimed; rewriting = rewriting; size = size; left = record { answer = answer; a = a; b = b } }

-- areas are handed in full of other bytes
abbrev full : ℕ → List ℕ
full n = replicate n 255

-- 3 back to 1|2 by law 10
abbrev back_10 : List ℕ
back_10 = 138 ∷ 0 ∷ 0 ∷ 3 ∷ 0 ∷ 1 ∷ 2 ∷ 68 ∷ []

-- the plans between the ends of 1‖2 by laws 11 and 10
abbrev after_11 : List ℕ
after_11 = 1 ∷ 2 ∷ 67 ∷ 2 ∷ 1 ∷ 67 ∷ 64 ∷ 1 ∷ 2 ∷ 68 ∷ 64 ∷ []

abbrev after_10 : List ℕ
after_10 = 1 ∷ 2 ∷ 67 ∷ 2 ∷ 1 ∷ 67 ∷ 64 ∷ 3 ∷ 64 ∷ []

unfoldable cases : List Case
cases =
    -- accepted, and 33
    check (3 ∷ []) (1 ∷ 2 ∷ 68 ∷ []) back_10 3 (Ok (Accepted 1 3)) (3 ∷ 0 ∷ 0 ∷ []) (1 ∷ 2 ∷ 68 ∷ [])
    ∷ check (3 ∷ []) (2 ∷ 1 ∷ 68 ∷ []) back_10 3 (Ok (TurnedBack 33 1 3)) (3 ∷ 0 ∷ 0 ∷ []) (1 ∷ 2 ∷ 68 ∷ [])
    -- an accepted left side that is longer than the areas: 32 where it fits, and 31 where it does not
    ∷ check (3 ∷ []) (1 ∷ 2 ∷ 68 ∷ []) back_10 2 (Ok (TurnedBack 32 0 1)) (3 ∷ 0 ∷ []) (0 ∷ 0 ∷ [])
    ∷ check (3 ∷ []) (1 ∷ 2 ∷ 68 ∷ []) (129 ∷ 0 ∷ 0 ∷ 3 ∷ 0 ∷ 1 ∷ 2 ∷ 68 ∷ []) 2 (Ok (TurnedBack 31 0 1)) (3 ∷ 0 ∷ []) (0 ∷ 0 ∷ [])
    -- 31 past the end, and 31 behind a step that is made
    ∷ check (3 ∷ []) (1 ∷ 2 ∷ 68 ∷ []) (138 ∷ 1 ∷ 0 ∷ 3 ∷ 0 ∷ 1 ∷ 2 ∷ 68 ∷ []) 3 (Ok (TurnedBack 31 0 1)) (3 ∷ 0 ∷ 0 ∷ []) (0 ∷ 0 ∷ 0 ∷ [])
    ∷ check (3 ∷ []) (1 ∷ 2 ∷ 68 ∷ []) (back_10 ++ (1 ∷ 0 ∷ 0 ∷ [])) 3 (Ok (TurnedBack 31 1 3)) (3 ∷ 0 ∷ 0 ∷ []) (1 ∷ 2 ∷ 68 ∷ [])
    -- 75 before any step, though the first does not fit
    ∷ check (3 ∷ []) (3 ∷ []) (1 ∷ 0 ∷ 0 ∷ 160 ∷ 0 ∷ 0 ∷ 0 ∷ 0 ∷ []) 3 (Err (record { number = 75; place = Step 1 })) (full 3) (full 3)
    -- there and back, and the way back alone, in areas that hold the longest plan and in shorter ones
    ∷ check (1 ∷ 2 ∷ 66 ∷ []) (1 ∷ 2 ∷ 66 ∷ []) (there-records ++ back-records) 11 (Ok (Accepted 4 3)) (padded (1 ∷ 2 ∷ 66 ∷ []) 11) after_11
    ∷ check after_10 (1 ∷ 2 ∷ 66 ∷ []) back-records 11 (Ok (Accepted 2 3)) (padded (1 ∷ 2 ∷ 66 ∷ []) 11) after_11
    ∷ check after_10 (1 ∷ 2 ∷ 66 ∷ []) back-records 10 (Ok (TurnedBack 32 0 9)) (padded after_10 10) (padded [] 10)
    ∷ []

abbrev outcome : Case → CheckOutcome
outcome y = check_outcome trial y.start y.claimed y.rewriting (full y.size) (full y.size)

-- the same, where the tables are judged so: their judgement is computed once and not for each check
unfoldable judged_so : Option Refusal → Case → CheckOutcome
judged_so o y =
    unless_refused
    (or_else (or_else o (words_refusal (actions trial) y.start))
    (rewriting_refusal (actions trial) y.start y.claimed y.rewriting (capacity (full y.size) (full y.size))))
    (replay_of trial y.start y.claimed y.rewriting (capacity (full y.size) (full y.size))) (full y.size) (full y.size)

all_judged : (ys : List Case) → map outcome ys ≡ map (judged_so none) ys
unfolding judged_so check_outcome check_refusal plan_refusal
all_judged [] = refl
all_judged (y ∷ ys) = rw (trial-accepted, all_judged ys)

computed : map (judged_so none) cases ≡ map (λ (y : Case). y.left) cases
unfolding cases judged_so trial communicate put_below block rewriting_refusal replay_of replay step_of step_back words_refusal cut_from first_record first_with first_backward first_carried backward? law_at rewrite step actions replace communication capacity padded area_a area_b even?
computed = refl

-- the whole checks
cases_right : map outcome cases ≡ map (λ (y : Case). y.left) cases
cases_right = all_judged cases ∙ computed

-- The twelve trial trays as one table, computed by the definitions: the whole outcome of the unfolding, acceptance included, that of the check of
-- its own rewriting, trees and basic.
use Rattle.std.specs.Prelude.{Result, Ok}
use Prim.Native.Nat.{ℕ}
use mathlib.Core.Path.{◌≡◌, refl, ◌∙◌, ap}
use mathlib.Core.Bool.{Bool, true, false, cond}
use mathlib.Core.List.{List, [], ◌∷◌, map}
use mathlib.Core.Option.{Option, none, some}
use lib.ListN.{length, replicate}
use lib.Dec.{eqb, ltb}
use Rattle.refusals.specs.declared.Place.TheVariants.{Nowhere}
use Rattle.refusals.specs.declared.Refusal.{Refusal}
use Rattle.refusals.specs.Refusal.{refuse, or_else}
use Rattle.areas.specs.Area.{padded}
use Rattle.areas.specs.Reached.{capacity, even?, area_a, area_b, reached_part}
use Rattle.tables.specs.Tables.{actions, communication, below, blocked}
use Rattle.tables.specs.Search.{first_from}
use Rattle.plans.specs.Word.{binary_word, unary_word, word_of, sign_of, operands_of}
use Rattle.plans.specs.Judging.{words_refusal, refusal_from, turn_of, plan_refusal}
use Rattle.plans.specs.Basic.{basic_words?, basic?, sum_plan?}
use Rattle.plans.specs.Term.{words, push, read, term_of}
use Rattle.plans.specs.Place.{subterm, replace}
use Rattle.trees.specs.Tree.{Tree}
use Rattle.trees.specs.Operators.{◌⊕◌, ◌⊙◌, merge_trees, left_trees, communication_trees, encapsulation_tree, unless_tree, priority_tree}
use Rattle.trees.specs.Meaning.{plan_tree}
use Rattle.trees.proofs.Decision.{alike?}
use Rattle.laws.specs.Laws.{laws, law_at, rewrite, fit, bind, holds, build, same_bytes}
use Rattle.laws.specs.Step.{step}
use Rattle.rewritings.specs.Moves.{record_of, bytes_of}
use Rattle.rewritings.specs.Records.{backward?, first_carried, first_backward, first_with, first_record, cut_from, records_of, whole?}
use Rattle.rewritings.specs.Choice.{next_step, lowest_law}
use Rattle.unfolding.specs.declared.Unfolded.{Unfolded}
use Rattle.unfolding.specs.declared.Unfolded.TheVariants.{Finished, Stopped}
use Rattle.rewritings.specs.Runs.{run, run_of}
use Rattle.unfolding.specs.Unfolding.{unfold_refusal, unfold_outcome, UnfoldOutcome}
use Rattle.unfolding.specs.Unfolding as unfolding_of
use Rattle.checking.specs.declared.Checked.TheVariants.{Accepted}
use Rattle.checking.specs.Checking.{step_of, replay, replay_of, unknown_law, left_refusal, records_refusal, rewriting_refusal, check_refusal, check_outcome, CheckOutcome}
use Rattle.checking.specs.Checking as checking_of
use Rattle.trays.specs.Trays.{trial, communicate, put_below, block}
use Rattle.trays.proofs.Ground.{trial-accepted}

-- a plan unfolded with an allowance, a list of so many bytes and areas of so many; then what is answered, the records, and the two areas without
-- the zeros behind
record Tray : Type 0 where
  plan : List ℕ
  allowance : ℕ
  list : ℕ
  area : ℕ
  end : ℕ
  steps : ℕ
  size : ℕ
  records : List ℕ
  in_a : List ℕ
  in_b : List ℕ

abbrev case_1 : List ℕ
case_1 = 1 ∷ 2 ∷ 66 ∷ []

abbrev case_1_end : List ℕ
case_1_end = 1 ∷ 2 ∷ 65 ∷ 2 ∷ 1 ∷ 65 ∷ 64 ∷ 3 ∷ 64 ∷ []

-- the plan one step before the end of case 1, and the one before that
abbrev case_1_before : List ℕ
case_1_before = 1 ∷ 2 ∷ 65 ∷ 2 ∷ 1 ∷ 65 ∷ 64 ∷ 1 ∷ 2 ∷ 68 ∷ 64 ∷ []

abbrev case_1_earlier : List ℕ
case_1_earlier = 1 ∷ 2 ∷ 65 ∷ 2 ∷ 1 ∷ 67 ∷ 64 ∷ 1 ∷ 2 ∷ 68 ∷ 64 ∷ []

abbrev case_1_records : List ℕ
case_1_records = 11 ∷ 2 ∷ 0 ∷ 12 ∷ 2 ∷ 0 ∷ 12 ∷ 5 ∷ 0 ∷ 10 ∷ 9 ∷ 0 ∷ []

abbrev case_1_three : List ℕ
case_1_three = 11 ∷ 2 ∷ 0 ∷ 12 ∷ 2 ∷ 0 ∷ 12 ∷ 5 ∷ 0 ∷ []

-- case 1 with other limits, finished
abbrev finished_1 : ℕ → ℕ → ℕ → Tray
finished_1 m l n = record { plan = case_1; allowance = m; list = l; area = n; end = 0; steps = 4; size = 9; records = case_1_records; in_a = case_1_end; in_b = case_1_before }

-- and stopped after three steps
abbrev stopped_1 : ℕ → ℕ → ℕ → Tray
stopped_1 m l k = record { plan = case_1; allowance = m; list = l; area = 20; end = k; steps = 3; size = 11; records = case_1_three; in_a = case_1_earlier; in_b = case_1_before }

-- a plan within ample limits
abbrev ample : List ℕ → ℕ → ℕ → List ℕ → List ℕ → List ℕ → Tray
ample w s z r a b = record { plan = w; allowance = 40; list = 120; area = 20; end = 0; steps = s; size = z; records = r; in_a = a; in_b = b }

-- a row: a plan that unfolds so, or two plans whose trees are alike, or not
data Row : Type 0 where
  unfolds : Tray → Row
  alike_plans unlike_plans : List ℕ → List ℕ → Row

unfoldable trays : List Row
trays =
    -- 1
    unfolds (finished_1 40 120 20)
    -- 2
    ∷ unfolds (ample (1 ∷ 2 ∷ 66 ∷ 80 ∷ []) 17 1
    (11 ∷ 2 ∷ 0 ∷ 12 ∷ 2 ∷ 0 ∷ 12 ∷ 5 ∷ 0 ∷ 10 ∷ 9 ∷ 0 ∷ 22 ∷ 9 ∷ 0 ∷ 22 ∷ 7 ∷ 0 ∷ 23 ∷ 3 ∷ 0 ∷ 21 ∷ 1 ∷ 0 ∷ 21 ∷ 2 ∷ 0 ∷ 9 ∷ 2 ∷ 0 ∷ 23 ∷ 4 ∷ 0 ∷ 21 ∷ 2 ∷ 0 ∷ 21 ∷ 3 ∷ 0 ∷ 9 ∷ 3 ∷ 0 ∷ 7 ∷ 2 ∷ 0 ∷ 20 ∷ 2 ∷ 0 ∷ 8 ∷ 2 ∷ 0 ∷ [])
    (0 ∷ 3 ∷ 64 ∷ []) (3 ∷ []))
    -- 3
    ∷ unfolds (ample (1 ∷ 4 ∷ 64 ∷ 70 ∷ []) 6 1 (32 ∷ 3 ∷ 0 ∷ 30 ∷ 1 ∷ 0 ∷ 25 ∷ 2 ∷ 0 ∷ 30 ∷ 2 ∷ 0 ∷ 24 ∷ 3 ∷ 0 ∷ 8 ∷ 2 ∷ 0 ∷ []) (4 ∷ []) (0 ∷ 4 ∷ 64 ∷ []))
    -- 4
    ∷ unfolds (ample (1 ∷ 2 ∷ 64 ∷ 70 ∷ []) 5 3 (32 ∷ 3 ∷ 0 ∷ 30 ∷ 1 ∷ 0 ∷ 24 ∷ 2 ∷ 0 ∷ 30 ∷ 2 ∷ 0 ∷ 24 ∷ 3 ∷ 0 ∷ []) (1 ∷ 2 ∷ 1 ∷ 69 ∷ 64 ∷ []) (1 ∷ 2 ∷ 64 ∷ []))
    -- 5
    ∷ unfolds (ample (1 ∷ 2 ∷ 4 ∷ 65 ∷ 69 ∷ []) 2 1 (26 ∷ 4 ∷ 0 ∷ 24 ∷ 2 ∷ 0 ∷ []) (1 ∷ []) (1 ∷ 2 ∷ 69 ∷ []))
    -- 6
    ∷ unfolds (ample (0 ∷ []) 0 1 [] (0 ∷ []) [])
    ∷ unfolds (ample (1 ∷ 0 ∷ 65 ∷ []) 0 3 [] (1 ∷ 0 ∷ 65 ∷ []) [])
    -- 7, 8
    ∷ unfolds (ample (0 ∷ 1 ∷ 65 ∷ []) 1 1 (9 ∷ 2 ∷ 0 ∷ []) (0 ∷ 1 ∷ 65 ∷ []) (0 ∷ []))
    ∷ unfolds (ample (0 ∷ 0 ∷ 64 ∷ []) 1 1 (7 ∷ 2 ∷ 0 ∷ []) (0 ∷ 0 ∷ 64 ∷ []) (0 ∷ []))
    -- 9: allowance 3, and 4
    ∷ unfolds (stopped_1 3 120 34)
    ∷ unfolds (finished_1 4 120 20)
    -- 10: areas of 10, and of 11
    ∷ unfolds (record { plan = case_1; allowance = 40; list = 120; area = 10; end = 36; steps = 0; size = 3; records = []; in_a = case_1; in_b = [] })
    ∷ unfolds (finished_1 40 120 11)
    -- 11: a list of 11, and of 12
    ∷ unfolds (stopped_1 40 11 35)
    ∷ unfolds (finished_1 40 12 20)
    -- 12
    ∷ unlike_plans (1 ∷ 2 ∷ 3 ∷ 64 ∷ 65 ∷ []) (1 ∷ 2 ∷ 65 ∷ 1 ∷ 3 ∷ 65 ∷ 64 ∷ [])
    ∷ alike_plans (1 ∷ 2 ∷ 64 ∷ []) (2 ∷ 1 ∷ 64 ∷ 1 ∷ 64 ∷ [])
    ∷ []

-- what a row says is answered and left
abbrev said : Tray → Result Unfolded Refusal
said y = cond (eqb y.end 0) (Ok (Finished y.steps y.size)) (Ok (Stopped y.end y.steps y.size))

abbrev left : Tray → UnfoldOutcome
left y =
    record { answer = said y; list = padded y.records y.list; a = padded y.in_a y.area; b = padded y.in_b y.area }

abbrev reached : Tray → List ℕ
reached y = reached_part (even? y.steps) y.size (left y).a (left y).b

-- lists and areas are handed in full of other bytes
abbrev full : ℕ → List ℕ
full n = replicate n 255

-- both plans are read, and whether their trees are alike
abbrev both : Option Tree → Option Tree → Option Bool
both none y = none
both (some x) none = none
both (some x) (some y) = some (alike? x y)

-- what is said of a tray: everything that the unfolding answers and leaves, and so for the check of the records, from the given plan to the one
-- reached, in areas of the same lengths; whether the trees of these two plans are alike, and whether the plan reached is basic. Of two plans,
-- whether their trees are alike
data Told : Type 0 where
  of_tray : UnfoldOutcome → CheckOutcome → Option Bool → Bool → Told
  of_plans : Option Bool → Told

unfoldable told : Row → Told
told (unfolds y) =
    of_tray (unfold_outcome trial y.plan y.allowance (full y.list) (full y.area) (full y.area))
    (check_outcome trial y.plan (reached y) y.records (full y.area) (full y.area))
    (both (plan_tree trial y.plan) (plan_tree trial (reached y))) (basic_words? (actions trial) (reached y))
told (alike_plans v w) = of_plans (both (plan_tree trial v) (plan_tree trial w))
told (unlike_plans v w) = of_plans (both (plan_tree trial v) (plan_tree trial w))

-- what a row has: the check accepts and leaves the same areas, the trees are alike, and the plan reached is basic exactly if it finished
unfoldable expected : Row → Told
expected (unfolds y) =
    of_tray (left y) (record { answer = Ok (Accepted y.steps y.size); a = (left y).a; b = (left y).b }) (some true) (eqb y.end 0)
expected (alike_plans v w) = of_plans (some true)
expected (unlike_plans v w) = of_plans (some false)

-- the same as `told`, where the tables are judged so: their judgement is computed once and not for each row
unfoldable judged_so : Option Refusal → Row → Told
judged_so o (unfolds y) =
    of_tray
    (unfolding_of.unless_refused
    (or_else (or_else o (words_refusal (actions trial) y.plan)) (cond (ltb (capacity (full y.area) (full y.area)) (length y.plan)) (refuse 15 Nowhere) none))
    (run_of trial y.plan y.allowance (length (full y.list)) (capacity (full y.area) (full y.area))) (full y.list) (full y.area) (full y.area))
    (checking_of.unless_refused
    (or_else (or_else o (words_refusal (actions trial) y.plan))
    (rewriting_refusal (actions trial) y.plan (reached y) y.records (capacity (full y.area) (full y.area))))
    (replay_of trial y.plan (reached y) y.records (capacity (full y.area) (full y.area))) (full y.area) (full y.area))
    (both (plan_tree trial y.plan) (plan_tree trial (reached y))) (basic_words? (actions trial) (reached y))
judged_so o (alike_plans v w) = of_plans (both (plan_tree trial v) (plan_tree trial w))
judged_so o (unlike_plans v w) = of_plans (both (plan_tree trial v) (plan_tree trial w))

told_judged : (r : Row) → told r ≡ judged_so none r
unfolding told judged_so unfold_outcome unfold_refusal check_outcome check_refusal plan_refusal
told_judged (unfolds y) = ap (λ (o : Option Refusal). judged_so o (unfolds y)) trial-accepted
told_judged (alike_plans v w) = refl
told_judged (unlike_plans v w) = refl

all_judged : (rs : List Row) → map told rs ≡ map (judged_so none) rs
all_judged [] = refl
all_judged (r ∷ rs) = rw (told_judged r, all_judged rs)

computed : map (judged_so none) trays ≡ map expected trays
unfolding trays judged_so expected trial communicate put_below block run_of run next_step lowest_law first_from step record_of bytes_of backward? first_carried first_backward first_with first_record cut_from records_of whole? step_of replay replay_of unknown_law left_refusal records_refusal rewriting_refusal laws law_at rewrite fit bind holds build same_bytes words push read term_of subterm replace binary_word unary_word word_of sign_of operands_of words_refusal refusal_from turn_of basic_words? basic? sum_plan? actions communication below blocked capacity even? area_a area_b reached_part padded plan_tree alike? merge_trees left_trees communication_trees encapsulation_tree unless_tree priority_tree ◌⊕◌ ◌⊙◌
computed = refl

-- the twelve trays
trays_right : map told trays ≡ map expected trays
trays_right = all_judged trays ∙ computed

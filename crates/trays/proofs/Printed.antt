-- The station file of the first trial tray, and what is printed for it: what it holds by the theorems on writing, the rest by computation.
use Prim.Native.Nat.{ℕ, ◌≤◌}
use native.Mathlib.Omega.{arith}
use borrow.Author.Tests.{le-leb, le-ltb}
use mathlib.Core.Path.{◌≡◌, refl}
use mathlib.Core.List.{List, [], ◌∷◌}
use lib.ListN.{length}
use mathlib.Core.Option.{none}
use Rattle.tables.specs.Tables.{actions, communication, below, blocked}
use Rattle.tables.specs.Search.{first_from}
use Rattle.tables.specs.Judging.{entry_right, byte_right, null_right, swap_right, group_right, least_right, order_right, content_refusal, table_refusal}
use Rattle.plans.specs.Word.{binary_word, unary_word, sign_of, word_of, operands_of}
use Rattle.plans.specs.Term.{words, push, read, term_of}
use Rattle.plans.specs.Place.{subterm, replace}
use Rattle.plans.specs.Judging.{turn_of, refusal_from, words_refusal, plan_refusal}
use Rattle.plans.specs.Basic.{basic?, sum_plan?}
use Rattle.plans.specs.Orders.{counts_of, counts}
use Rattle.stations.specs.File.{form_refusal, held_refusal, file_refusal, tables_held, plan_held}
use Rattle.writing.specs.Writing.{station_file}
use Rattle.writing.proofs.File.{file-tables, file-plan, form_due}
use Rattle.laws.specs.Laws.{laws, law_at, rewrite, fit, bind, holds, build, same_bytes}
use Rattle.laws.specs.Step.{step}
use Rattle.rewritings.specs.Choice.{next_step, lowest_law}
use Rattle.rewritings.specs.Runs.{run, run_of}
use Rattle.unfolding.specs.Unfolding.{unfold_refusal}
use Rattle.listing.specs.Text.{ascii, digits_within, decimal, labelled}
use Rattle.trays.specs.Trays.{trial, communicate, put_below, block}
use Rattle.listing.specs.Listing.{first_line, further_words, words_line, step_line, step_lines, ending, run_listing, plan_listing, listing}

plan : List ℕ
plan = 1 ∷ 2 ∷ 66 ∷ []

-- tables and plan are accepted
accepted : plan_refusal trial plan ≡ none
unfolding trial communicate put_below block plan plan_refusal table_refusal content_refusal entry_right byte_right null_right swap_right group_right least_right order_right first_from actions communication below words_refusal refusal_from turn_of word_of sign_of operands_of
accepted = refl

-- their station file is well formed, and holds them
file : List ℕ
file = station_file trial plan

trial-long : length trial ≡ 2305
unfolding trial communicate put_below block
trial-long = refl

form : form_refusal file ≡ none
unfolding file plan
form = form_due trial plan trial-long (omega arith) (omega arith)

holds-tables : tables_held file ≡ trial
unfolding file
holds-tables = file-tables trial plan (omega (arith, trial-long))

holds-plan : plan_held file ≡ plan
unfolding file
holds-plan = file-plan trial plan

-- the lines of the run
printed : run_listing trial (run_of trial plan 5000 15000 8192) ≡ ascii "end 0 steps 4 size 9 orders 3 stuck 0\n1 2 65 2 1 65 64 3 64\n11 2\n12 2\n12 5\n10 9\n"
unfolding trial communicate put_below block plan actions communication below blocked word_of sign_of operands_of binary_word unary_word run_of run next_step lowest_law step law_at laws rewrite fit bind holds build same_bytes subterm replace term_of read push words ending first_line words_line further_words step_line step_lines counts_of counts basic? sum_plan? labelled decimal digits_within
printed = refl

-- what is printed for a file, from what it holds
held-listing : (f t p text : List ℕ) → form_refusal f ≡ none → tables_held f ≡ t → plan_held f ≡ p → plan_refusal t p ≡ none → length p ≤ 8192
    → run_listing t (run_of t p 5000 15000 8192) ≡ text → listing f ≡ text
unfolding listing file_refusal held_refusal plan_listing unfold_refusal
held-listing f t p text a b d e h r = rw (a, b, d, le-leb (length p) 8192 h, e, le-ltb 8192 (length p) h) r

-- "Case 1 prints:"
case_1 : listing file ≡ ascii "end 0 steps 4 size 9 orders 3 stuck 0\n1 2 65 2 1 65 64 3 64\n11 2\n12 2\n12 5\n10 9\n"
unfolding plan
case_1 = held-listing file trial plan _ form holds-tables holds-plan accepted (omega arith) printed

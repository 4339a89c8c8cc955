-- A station file put together by hand, and files of another length: their refusals and what they hold, by computation.
use Prim.Native.Nat.{ℕ}
use mathlib.Core.Path.{◌≡◌, refl}
use mathlib.Core.List.{List, [], ◌∷◌, ◌++◌}
use mathlib.Core.Bool.{false}
use lib.ListN.{take, drop, set, replicate}
use Rattle.refusals.specs.Refusal.{reported}
use Rattle.areas.specs.Area.{padded}
use Rattle.tables.specs.Search.{first_from}
use Rattle.blocks.specs.Block.{word, number_of, kind_of, count_of, content, used, filling, words_sum, sum_right, all_zero, count_right, use_right, block_refusal, two_bytes, unsummed, with_sum, block_of}
use Rattle.stations.specs.File.{blocks, block, length_right, joined, form_refusal, tables_held, plan_held}

-- the tables of the trial trays: n = 4, 1|2 = 2|1 = 3, 0 below all, 1 < 4, set 0 = {1, 2}
unfoldable pub trial : List ℕ
trial = set (set (set (set (set (set (set (set (set (set (replicate 2305 0) 0 4) 35 3) 66 3) 1026 1) 1027 1) 1028 1) 1029 1) 1061 1) 2050 1) 2051 1

tables-blocks : List ℕ
unfolding trial
tables-blocks =
    block_of 0 1 (take 504 trial)
    ++ block_of 1 1 (take 504 (drop 504 trial))
    ++ block_of 2 1 (take 504 (drop 1008 trial))
    ++ block_of 3 1 (take 504 (drop 1512 trial))
    ++ block_of 4 1 (drop 2016 trial)

file_of : List ℕ → List ℕ
unfolding tables-blocks
file_of plan-blocks = tables-blocks ++ plan-blocks

plan : List ℕ
plan = 1 ∷ 2 ∷ 66 ∷ []

good : List ℕ
unfolding file_of plan
good = file_of (block_of 5 2 plan)

good_form : (reported (form_refusal good) []).number ≡ 0
unfolding good file_of tables-blocks block_of with_sum unsummed two_bytes padded trial plan form_refusal blocks block length_right first_from block_refusal sum_right word words_sum number_of kind_of count_of content filling all_zero count_right use_right
good_form = refl

-- no plan, and a byte too many
short-form : length_right (file_of []) ≡ false
unfolding length_right blocks file_of tables-blocks block_of with_sum unsummed two_bytes padded trial word words_sum
short-form = refl

long-form : length_right (good ++ 0 ∷ []) ≡ false
unfolding length_right blocks good file_of tables-blocks block_of with_sum unsummed two_bytes padded trial plan word words_sum
long-form = refl

-- what the file holds
holds-tables : tables_held good ≡ trial
unfolding tables_held joined block used good file_of tables-blocks block_of with_sum unsummed two_bytes padded trial plan word words_sum count_of content
holds-tables = refl

holds_the_plan : plan_held good ≡ plan
unfolding plan_held joined blocks block used good file_of tables-blocks block_of with_sum unsummed two_bytes padded trial plan word words_sum count_of content
holds_the_plan = refl

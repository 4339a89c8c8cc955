-- What the ground layers say of the trial trays, by computation: the tables are accepted, so are the plans, which are basic, and their counts.
use Prim.Native.Nat.{ℕ, ◌+◌}
use mathlib.Core.Path.{◌≡◌, refl}
use mathlib.Core.Bool.{Bool, true, false, not}
use mathlib.Core.List.{List, [], ◌∷◌}
use mathlib.Core.Option.{Option, none, some}
use lib.Dec.{eqb}
use Rattle.refusals.specs.declared.Refusal.{Refusal}
use Rattle.tables.specs.Tables.{actions, communication, below}
use Rattle.tables.specs.Search.{first_from}
use Rattle.tables.specs.Judging.{table_refusal, content_refusal, entry_right, byte_right, null_right, swap_right, group_right, least_right, order_right}
use Rattle.plans.specs.declared.Counts.{Counts}
use Rattle.plans.specs.Word.{word_of, sign_of, operands_of}
use Rattle.plans.specs.Term.{push, read, term_of}
use Rattle.plans.specs.Judging.{words_refusal, refusal_from, turn_of}
use Rattle.plans.specs.Basic.{basic_words?, basic?, sum_plan?}
use Rattle.plans.specs.Orders.{counts, counts_of}
use Rattle.trays.specs.Trays.{trial, communicate, put_below, block}

pub trial-accepted : table_refusal trial ≡ none
unfolding table_refusal trial communicate put_below block first_from byte_right null_right swap_right group_right order_right least_right content_refusal entry_right actions communication below
trial-accepted = refl

-- a plan under the trial tables, with its orders and its stuck paths: 0 of both where it is not basic
record Row : Type 0 where
  words : List ℕ
  counts : Counts

abbrev orders◌stuck◌ : ℕ → ℕ → Counts
orders o stuck k = record { orders = o; stuck = k }

abbrev ◌▹◌ : List ℕ → Counts → Row
w ▹ c = record { words = w; counts = c }

infix 6 orders◌stuck◌
infix 5 ◌▹◌
-- the plans of the twelve trays, and the plans in which they end
unfoldable rows : List Row
rows =
    (1 ∷ 2 ∷ 66 ∷ [] ▹ orders 0 stuck 0)
    ∷ (1 ∷ 2 ∷ 65 ∷ 2 ∷ 1 ∷ 65 ∷ 64 ∷ 3 ∷ 64 ∷ [] ▹ orders 3 stuck 0)
    ∷ (1 ∷ 2 ∷ 66 ∷ 80 ∷ [] ▹ orders 0 stuck 0)
    ∷ (3 ∷ [] ▹ orders 1 stuck 0)
    ∷ (1 ∷ 4 ∷ 64 ∷ 70 ∷ [] ▹ orders 0 stuck 0)
    ∷ (4 ∷ [] ▹ orders 1 stuck 0)
    ∷ (1 ∷ 2 ∷ 64 ∷ 70 ∷ [] ▹ orders 0 stuck 0)
    ∷ (1 ∷ 2 ∷ 64 ∷ [] ▹ orders 2 stuck 0)
    ∷ (1 ∷ 2 ∷ 4 ∷ 65 ∷ 69 ∷ [] ▹ orders 0 stuck 0)
    ∷ (1 ∷ [] ▹ orders 1 stuck 0)
    ∷ (0 ∷ [] ▹ orders 0 stuck 1)
    ∷ (1 ∷ 0 ∷ 65 ∷ [] ▹ orders 0 stuck 1)
    ∷ (0 ∷ 1 ∷ 65 ∷ [] ▹ orders 0 stuck 0)
    ∷ (0 ∷ 0 ∷ 64 ∷ [] ▹ orders 0 stuck 0)
    ∷ (1 ∷ 2 ∷ 3 ∷ 64 ∷ 65 ∷ [] ▹ orders 2 stuck 0)
    ∷ (1 ∷ 2 ∷ 65 ∷ 1 ∷ 3 ∷ 65 ∷ 64 ∷ [] ▹ orders 2 stuck 0)
    ∷ (2 ∷ 1 ∷ 64 ∷ 1 ∷ 64 ∷ [] ▹ orders 3 stuck 0)
    -- and further plans: with both, with equal paths, and with a choice behind an action
    ∷ (1 ∷ 0 ∷ 65 ∷ 2 ∷ 64 ∷ [] ▹ orders 1 stuck 1)
    ∷ (1 ∷ 0 ∷ 65 ∷ 1 ∷ 0 ∷ 65 ∷ 64 ∷ [] ▹ orders 0 stuck 2)
    ∷ (1 ∷ 2 ∷ 0 ∷ 65 ∷ 3 ∷ 64 ∷ 65 ∷ [] ▹ orders 1 stuck 1)
    ∷ []

abbrev none? : Option Refusal → Bool
none? none = true
none? (some r) = false

-- what is said of a plan: whether it is accepted, its counts, and whether it is basic
record Said : Type 0 where
  accepted : Bool
  counted : Counts
  basic : Bool

unfoldable said : List Row → List Said
said [] = []
said (r ∷ rs) = record { accepted = none? (words_refusal 4 r.words); counted = counts_of 4 r.words; basic = basic_words? 4 r.words } ∷ said rs

-- what the rows say: all are accepted, with these counts, and basic exactly where there is some path
unfoldable expected : List Row → List Said
expected [] = []
expected (r ∷ rs) =
    record { accepted = true; counted = r.counts; basic = not (eqb (r.counts.orders + r.counts.stuck) 0) } ∷ expected rs

plans_right : said rows ≡ expected rows
unfolding rows said expected words_refusal refusal_from turn_of word_of sign_of operands_of basic_words? basic? sum_plan? counts_of counts term_of read push
plans_right = refl

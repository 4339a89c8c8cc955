-- Nobody need believe this: contracts of functions cite it. How one pass over a plan's words, from the last to the first, finds the least place.
use Rattle.std.specs.Prelude.{ℕ, zero, suc, ◌≤◌, ◌≡◌, Bool, false, cond, not, ◌&&◌, ◌||◌, List, length, get_or, set, replicate, eqb, Some, None, Option as Maybe}
use Rattle.std.proofs.Math.Option.{none}
use Rattle.areas.specs.Area.{most_words}
use Rattle.plans.specs.Judging.{words_refusal}
use Rattle.paths.specs.Operands.{first_operand, second_operand, Starts}

module _ (n : ℕ) (plan : List ℕ) (first second : ℕ) where
  -- for each word whether the first action stands before it on its path: an operator hands its own on to its operands, and a product whose first factor is
  -- that action tells its second factor so
  unfoldable pub hand_on : ℕ → List Bool → List Bool
  hand_on i seen =
      cond (eqb (get_or plan i 0) 64) (set (set seen (second_operand i) (get_or seen i false)) (first_operand n plan i) (get_or seen i false))
      (cond (eqb (get_or plan i 0) 65)
      (set (set seen (first_operand n plan i) (get_or seen i false)) (second_operand i)
      (get_or seen i false || eqb (get_or plan (first_operand n plan i) 0) first))
      seen)

  -- the second action at word i, and the first not before it
  abbrev pub early? : ℕ → List Bool → Bool
  early? i seen = eqb (get_or plan i 0) second && not (get_or seen i false)

  -- the first i words, the last of them first: the place found last is the least
  unfoldable pub pass : ℕ → List Bool → Maybe ℕ → Maybe ℕ
  pass zero seen at = at
  pass (suc i) seen at = pass i (hand_on i seen) (cond (early? i seen) (Some i) at)

  -- the whole plan
  unfoldable pub passed : Maybe ℕ
  passed = pass (length plan) (replicate most_words false) None

-- an accepted plan, where its words' subplans start, and room for what is known of each word
pub record Passing (n : ℕ) (plan starts : List ℕ) (seen : List Bool) : Type 0 where
  pub few : n ≤ 31
  pub accepted : words_refusal n plan ≡ none
  pub starts_right : Starts n plan starts
  pub starts_long : length starts ≡ most_words
  pub seen_long : length seen ≡ most_words

-- what one word leaves, and whether it is the second action without the first before it
pub record Looked (n : ℕ) (plan : List ℕ) (first second i : ℕ) (seen seen' : List Bool) (r : Bool) : Type 0 where
  pub same_length : length seen' ≡ length seen
  pub handed : seen' ≡ hand_on n plan first second i seen
  pub early : r ≡ early? n plan first second i seen

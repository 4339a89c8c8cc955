-- The plans that are accepted, and the basic ones among them, as terms. (01, "Plans" and "Unfolding"; the customer's words PLAN and BASIC.)
use Rattle.std.specs.Prelude.{ℕ, ◌≤◌, ◌≡◌, List, length}
use Rattle.tables.specs.Tables.{Tables, actions}
use Rattle.tables.specs.Lawful.{Lawful}
use Rattle.plans.specs.Term.{Term, words, Over}
use Rattle.plans.specs.Basic.{Basic}
use Rattle.areas.specs.Area.{most_words}

-- A plan that is accepted: lawful tables, and "1 to 16,384 bytes … in postfix order" that are the words of one term over the actions 0 to n.
pub record AcceptedPlan (t : Tables) (ws : List ℕ) : Type 0 where
  pub lawful : Lawful t
  pub term : Term
  pub spelled : words term ≡ ws
  pub over : Over (actions t) term
  pub some_words : 1 ≤ length ws
  pub few_words : length ws ≤ most_words

-- "basic goes by the words": the words are those of a basic term
pub record BasicPlan (t : Tables) (ws : List ℕ) : Type 0 where
  pub plan : AcceptedPlan t ws
  pub basic : Basic plan.term

-- words of a basic term over the actions 0 to n, however many they are: steps without limits may come to more than a plan's 16,384
pub record BasicWords (n : ℕ) (ws : List ℕ) : Type 0 where
  pub term : Term
  pub spelled : words term ≡ ws
  pub over : Over n term
  pub basic : Basic term

-- Nobody need believe this: contracts of functions cite it. Words that laws can be tried on. (01, "Plans".)
use Rattle.std.specs.Prelude.{ℕ, ◌≤◌, ◌<◌, ◌≡◌, List, [], length, get_or}
use Rattle.std.proofs.Math.Option.{some}
use Rattle.plans.specs.Term.{Term, read}
use Rattle.plans.specs.Start.{start_of}
use Rattle.areas.specs.Area.{most_words}

-- the starts of the subplans at all places of a plan
abbrev pub RightStarts : ℕ → List ℕ → List ℕ → Type 0
RightStarts n plan starts = (k : ℕ) → k < length plan → get_or starts k 0 ≡ start_of n plan k

-- words that can be read: a plan's, or the first of a plan's
pub record Readable (n : ℕ) (plan : List ℕ) : Type 0 where
  pub waiting : List Term
  pub reads : read n plan [] ≡ some waiting

-- 1 to 16,384 words that can be read, and where the subplan at each of their places starts
pub record Ready (n : ℕ) (plan starts : List ℕ) : Type 0 where
  pub few : n ≤ 31
  pub some_word : 1 ≤ length plan
  pub not_many : length plan ≤ most_words
  pub readable : Readable n plan
  pub enough : length plan ≤ length starts
  pub right : RightStarts n plan starts

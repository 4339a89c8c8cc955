-- The right side of a law, written out, has as many words as its size says, and few.
use Prim.Native.Nat.{ℕ, suc, ◌-◌, ◌*◌, ◌≤◌, ◌<◌}
use mathlib.Core.Path.{◌≡◌, refl}
use mathlib.Core.List.{List}
use mathlib.Core.Bool.{Bool, true}
use native.Mathlib.Omega.{arith}
use lib.ListN.{length, get_or, replicate, get_or-replicate}
use lib.Dec.{leb}
use borrow.Author.Tests.{leb-true}
use Rattle.tables.specs.Tables.{Tables, communication}
use Rattle.plans.specs.Word.{binary_word}
use Rattle.laws.specs.Laws.{law_at, laws, highest_law}
use Rattle.matching.specs.Check.{word_from}
use Rattle.laws.specs.Postfix.{forth}
use Rattle.matching.specs.Right.{spelled_law, law_size, Reaches}
use Rattle.laws.proofs.Tests.{passes, passed}
use Rattle.matching.proofs.Building.{spelled-size, size_bound}
use Rattle.areas.specs.Area.{most_words}

pub spelled_law-length : (t : Tables) (k : ℕ) (plan f g : List ℕ) → Reaches plan f g → length (spelled_law t k plan f g) ≡ law_size k f g
unfolding spelled_law law_size
spelled_law-length t k plan f g r = spelled-size (communication t (word_from plan f 3) (word_from plan f 4)) plan f g r (forth (law_at k).rhs)

-- no right side has more than 11 words and letters
short? : ℕ → Bool
short? k = leb (length (forth (law_at (suc k)).rhs)) 11

all_short : passes short? highest_law ≡ true
unfolding short? forth law_at laws binary_word
all_short = refl

pub side-short : (k : ℕ) → 1 ≤ k → k ≤ highest_law → length (forth (law_at k).rhs) ≤ 11
unfolding short?
side-short k l h =
    let e : suc (k - 1) ≡ k = omega arith in
    let q : length (forth (law_at (suc (k - 1))).rhs) ≤ 11 = leb-true _ 11 (passed short? highest_law all_short (k - 1) (omega arith)) in
    rw e at q

pub law_size_bound : (k : ℕ) (plan f g : List ℕ) → 1 ≤ k → k ≤ highest_law → Reaches plan f g → length plan ≤ most_words → law_size k f g ≤ 11 * most_words
unfolding law_size
law_size_bound k plan f g l h r few = omega (arith, size_bound plan f g r few (forth (law_at k).rhs), side-short k l h)

-- letters that are not matched yet reach over nothing
pub reaches_zeros : (plan : List ℕ) → Reaches plan (replicate 7 0) (replicate 7 0)
reaches_zeros plan =
    record {
      from_long = refl;
      to_long = refl;
      order = λ k h. omega arith;
      within = λ k h. omega (arith, zeros k (omega arith));
    }
  where
    zeros : (k : ℕ) → k < 7 → get_or (replicate 7 0) k 0 ≤ 0
    zeros k h = rw (get_or-replicate {A = ℕ} 7 k 0 0 h) (omega arith)

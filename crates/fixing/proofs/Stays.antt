-- What a change of the arrays leaves of a summand that it does not concern; and the next word.
use Prim.Native.Nat.{ℕ, suc, ◌%◌, ◌≤◌, ◌<◌}
use native.Mathlib.Omega.{arith}
use mathlib.Core.Path.{◌≡◌, refl, sym}
use mathlib.Core.List.{List}
use lib.ListN.{length, get_or, set, drop}
use lib.Seq.{get_or-set_same, get_or-set_other, drop-cons}
use Rattle.areas.specs.Area.{most_words}
use Rattle.forms.specs.Gathering.{take_word, gather}
use Rattle.chains.specs.Chain.{place, size_of, end_of, chain}
use Rattle.chains.proofs.Paths.{Agree, path-kept, walk_kept}
use Rattle.chains.proofs.Tied.{end_low}
use Rattle.fixing.specs.Gathered.{Summand}

-- an array by place with one number changed
module _ (l : List ℕ) (q v : ℕ) where
  pub size-on : q < most_words → length l ≡ most_words → size_of (set l q v) q ≡ v
  unfolding size_of place
  size-on h e = let m : q % most_words ≡ q = omega arith in rw m (get_or-set_same l q v 0 (omega arith))

  pub size_off : (p : ℕ) → p < most_words → (p ≡ q → ⊥) → size_of (set l q v) p ≡ size_of l p
  unfolding size_of place
  size_off p h f = let m : p % most_words ≡ p = omega arith in rw m (get_or-set_other l q p v 0 f)

  pub end_on : q < most_words → v < most_words → length l ≡ most_words → end_of (set l q v) q ≡ v
  unfolding end_of place
  end_on h i e = let m : q % most_words ≡ q = omega arith in let n : v % most_words ≡ v = omega arith in rw (m, get_or-set_same l q v 0 (omega arith)) n

  pub end_off : (p : ℕ) → p < most_words → (p ≡ q → ⊥) → end_of (set l q v) p ≡ end_of l p
  unfolding end_of place
  end_off p h f = let m : p % most_words ≡ p = omega arith in rw (m, get_or-set_other l q p v 0 f) refl

-- a summand stays where its links, its size and its end stay
module _ {links sizes ends : List ℕ} {i p : ℕ} (s : Summand links sizes ends i p) (links' sizes' : List ℕ) (e : size_of sizes' p ≡ size_of sizes p) (f : Agree p (end_of ends p) links links') where
  pub summand_stays : (ends' : List ℕ) (i' : ℕ) → end_of ends' p ≡ end_of ends p → i ≤ i' → Summand links' sizes' ends' i' p
  summand_stays ends' i' d h =
      record {
        begins = rw d s.begins;
        before_i = rw d (omega (arith, s.before_i));
        path = rw (d, e) (path-kept links links' p (end_of ends p) (omega (arith, end_low ends p)) f s.path);
      }

  pub chain_stays : (ws : List ℕ) → chain ws links' sizes' p ≡ chain ws links sizes p
  unfolding chain
  chain_stays ws = rw e (sym (walk_kept links links' p (end_of ends p) (omega (arith, end_low ends p)) f ws s.path))

pub agree_refl : (links : List ℕ) (lo t : ℕ) → Agree lo t links links
agree_refl links lo t x h k = refl

-- the next word
pub next_word : (ws : List ℕ) (i : ℕ) (ps : List (List (List ℕ))) → i < length ws → gather (drop i ws) ps ≡ gather (drop (suc i) ws) (take_word (get_or ws i 0) ps)
unfolding gather
next_word ws i ps h = rw (drop-cons ws i 0 h) refl

-- The paths of a basic plan by its words: one more than its signs of choice, and as many are stuck as it has words 0; orders and stuck are together
-- document 01's count.
use Prim.Native.Nat.{ℕ, suc, ◌+◌, ◌-◌, ◌≤◌}
use native.Mathlib.Omega.{arith}
use mathlib.Core.Path.{◌≡◌, refl, ◌∙◌, ap}
use mathlib.Core.Bool.{Bool, true, false, cond}
use mathlib.Core.List.{List, [], ◌∷◌, ◌++◌}
use mathlib.Core.Option.{Option, none, some}
use lib.Dec.{eqb}
use lib.ListN.{length}
use borrow.Author.Tests.{ne_eqb}
use Rattle.plans.specs.declared.Counts.{Counts}
use Rattle.plans.specs.declared.Binary.TheVariants.{Choice, Sequence, Merge, LeftMerge, CommunicationMerge, Unless}
use Rattle.plans.specs.Word.{binary_word}
use Rattle.plans.specs.Term.{Term, act, un, bin, words, Over, term_of}
use Rattle.plans.specs.Basic.{Basic, dead_stop, sum_plan, SumPlan, action, prefix, sum, basic?, basic_term?, basic_words?}
use Rattle.plans.specs.Orders.{no_paths, one_order, one_stuck, counts, term_counts, counts_of, path_count, term_path_count, path_count_of}
use Rattle.plans.specs.Occurrences.{occurrences}
use Rattle.plans.proofs.Reading.{term-said}
use Rattle.plans.proofs.Basic.{basic?_iff}

abbrev together : Counts → ℕ
together c = c.orders + c.stuck

-- orders and stuck are together document 01's count
both_add : (u : Term) → together (counts u) ≡ path_count u
unfolding counts path_count
both_add (act a) = either (eqb a 0)
  where
    either : (b : Bool) → together (cond b one_stuck one_order) ≡ 1
    either true = refl
    either false = refl
both_add (un o u) = refl
both_add (bin Choice u v) = omega (arith, both_add u, both_add v)
both_add (bin Sequence u v) = both_add v
both_add (bin Merge u v) = refl
both_add (bin LeftMerge u v) = refl
both_add (bin CommunicationMerge u v) = refl
both_add (bin Unless u v) = refl

pub counts-add : (n : ℕ) (ws : List ℕ) → together (counts_of n ws) ≡ path_count_of n ws
unfolding counts_of path_count_of
counts-add n ws = read_as (term_of n ws)
  where
    tested : (u : Term) (b : Bool) → together (cond b (counts u) no_paths) ≡ cond b (path_count u) 0
    tested u true = both_add u
    tested u false = refl

    read_as : (m : Option Term) → together (term_counts m) ≡ term_path_count m
    read_as none = refl
    read_as (some u) = tested u (basic? u)

-- how often the word w stands in two lists, one behind the other; at most as often as there are words; in a list of one other word not at all
module _ (w : ℕ) where
  occurrences-append : (v ws : List ℕ) → occurrences w (v ++ ws) ≡ occurrences w v + occurrences w ws
  unfolding occurrences
  occurrences-append [] ws = omega arith
  occurrences-append (c ∷ v) ws = omega (arith, occurrences-append v ws)

  pub occurrences-few : (ws : List ℕ) → occurrences w ws ≤ length ws
  unfolding occurrences
  occurrences-few [] = omega arith
  occurrences-few (v ∷ ws) = few (eqb v w) (occurrences-few ws)
    where
      few : (b : Bool) → occurrences w ws ≤ length ws → cond b 1 0 + occurrences w ws ≤ suc (length ws)
      few true h = omega arith
      few false h = omega arith

  not_there : (v : ℕ) → (v ≡ w → ⊥) → occurrences w (v ∷ []) ≡ 0
  unfolding occurrences
  not_there v h = rw (ne_eqb v w h) refl

  -- in the words of an operator's operands and its own
  in_three : (v ws : List ℕ) (o : ℕ) → occurrences w (v ++ (ws ++ (o ∷ []))) ≡ occurrences w v + (occurrences w ws + occurrences w (o ∷ []))
  in_three v ws o = omega (arith, occurrences-append v (ws ++ (o ∷ [])), occurrences-append ws (o ∷ []))

module _ (n : ℕ) (few : n ≤ 31) where
  mutual
    unfolding path_count words occurrences binary_word

    all_counted : {u : Term} → Basic u → Over n u → path_count u ≡ 1 + occurrences 64 (words u)
    all_counted dead_stop h = refl
    all_counted (sum_plan p) h = all_summed p h

    all_summed : {u : Term} → SumPlan u → Over n u → path_count u ≡ 1 + occurrences 64 (words u)
    all_summed (action {a = a} l) h = rw (not_there 64 a (λ e. omega arith)) refl
    all_summed (prefix {a = a} {u = u} l b) h = omega (arith, in_three 64 (a ∷ []) (words u) 65, not_there 64 a (λ e. omega (arith, h.0)), all_counted b h.1)
    all_summed (sum {u = u} {v = v} p q) h = omega (arith, in_three 64 (words u) (words v) 64, all_summed p h.0, all_summed q h.1)

mutual
  unfolding counts words occurrences binary_word

  stuck_counted : {u : Term} → Basic u → (counts u).stuck ≡ occurrences 0 (words u)
  stuck_counted dead_stop = refl
  stuck_counted (sum_plan p) = stuck_summed p

  stuck_summed : {u : Term} → SumPlan u → (counts u).stuck ≡ occurrences 0 (words u)
  stuck_summed (action {a = a} l) = rw (ne_eqb a 0 (λ e. omega arith)) refl
  stuck_summed (prefix {a = a} {u = u} l b) = omega (arith, in_three 0 (a ∷ []) (words u) 65, not_there 0 a (λ e. omega arith), stuck_counted b)
  stuck_summed (sum {u = u} {v = v} p q) = omega (arith, in_three 0 (words u) (words v) 64, stuck_summed p, stuck_summed q)

-- by a plan's words
module _ (n : ℕ) (few : n ≤ 31) (ws : List ℕ) where
  pub none_counted : basic_words? n ws ≡ false → no_paths ≡ counts_of n ws
  unfolding counts_of basic_words?
  none_counted = read_as (term_of n ws)
    where
      read_as : (m : Option Term) → basic_term? m ≡ false → no_paths ≡ term_counts m
      read_as none e = refl
      read_as (some u) e = rw e refl

  -- of a basic plan
  module _ (e : basic_words? n ws ≡ true) where
    by_term : (path_count_of n ws ≡ 1 + occurrences 64 ws) × ((counts_of n ws).stuck ≡ occurrences 0 ws)
    unfolding counts_of path_count_of basic_words?
    by_term = read_as (term_of n ws) refl e
      where
        read_as : (m : Option Term) → term_of n ws ≡ m → basic_term? m ≡ true → (term_path_count m ≡ 1 + occurrences 64 ws) × ((term_counts m).stuck ≡ occurrences 0 ws)
        read_as none q h = let z : ◌≡◌ {A = ℕ} 0 1 = cc in absurd (omega arith)
        read_as (some u) q h =
            let s = term-said n ws u q in
            let b = (basic?_iff u).0 h in
            rw h (all_counted n few b s.1 ∙ ap (λ l. 1 + occurrences 64 l) s.0, stuck_counted b ∙ ap (occurrences 0) s.0)

    -- it has some path
    pub some_counted : 1 ≤ together (counts_of n ws)
    some_counted = omega (arith, counts-add n ws, by_term)

    pub both_counted : (occurrences 0 ws ≤ 1 + occurrences 64 ws) × (record { orders = 1 + occurrences 64 ws - occurrences 0 ws; stuck = occurrences 0 ws } ≡ counts_of n ws)
    both_counted = (omega (arith, counts-add n ws, by_term), same_counts (counts_of n ws) (omega (arith, counts-add n ws, by_term)) (omega (arith, by_term)))
      where
        same_counts : {o s : ℕ} (c : Counts) → o ≡ c.orders → s ≡ c.stuck → record { orders = o; stuck = s } ≡ c
        same_counts c e q = rw (e, q) refl

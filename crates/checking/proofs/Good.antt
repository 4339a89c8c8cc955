-- Records that nothing refuses.
use Prim.Native.Nat.{ℕ, suc, zero, ◌-◌, ◌≤◌}
use mathlib.Core.Path.{◌≡◌, refl, sym}
use mathlib.Core.Bool.{Bool, true, false, cond, ◌&&◌}
use mathlib.Core.List.{List, [], ◌∷◌, ◌++◌}
use mathlib.Core.Option.{none}
use lib.Dec.{leb}
use borrow.Author.Tests.{leb-true, le-leb}
use Rattle.refusals.specs.declared.Place.TheVariants.{Step}
use Rattle.refusals.specs.Refusal.{refuse}
use Rattle.refusals.proofs.Judging.{none_of_both}
use Rattle.plans.specs.Judging.{words_refusal}
use Rattle.plans.proofs.Options.{never}
use Rattle.laws.specs.Laws.{highest_law}
use Rattle.rewritings.specs.Records.{Recorded, forward, backward, First, nothing, cut_short, one_step, first_record, go_on, cut_from, records_of}
use Rattle.rewritings.proofs.Cutting.{Known, first-within}
use Rattle.checking.specs.Checking.{if_refused, unknown_law, left_refusal}
use Rattle.checking.proofs.Accepting.{none_refused}

-- steps backwards have known laws
abbrev KnownAll : List Recorded → Type 0
KnownAll [] = Unit
KnownAll (r ∷ rs) = Known r × KnownAll rs

known_after : (s : ℕ) (l : List ℕ) → KnownAll (cut_from s l).records
unfolding cut_from
known_after zero [] = tt
known_after (suc s) [] = tt
known_after (suc s) (b ∷ r) = known_after s r
known_after zero (b ∷ r) = go (first_record (b ∷ r)) refl (λ s. known_after s r)
  where
    go : (f : First) → first_record (b ∷ r) ≡ f → ((s : ℕ) → KnownAll (cut_from s r).records) → KnownAll (go_on f (λ size. cut_from (size - 1) r)).records
    go nothing e f = tt
    go cut_short e f = tt
    go (one_step m size) e f = ((first-within (b ∷ r) m size e).known, f (size - 1))

-- a record that nothing refuses: a known law, and a left side, if one is carried, that is an accepted plan
module _ (n : ℕ) where
  abbrev pub Good : Recorded → Type 0
  Good (forward m) = (1 ≤ m.law) × (m.law ≤ highest_law)
  Good (backward m left) = ((1 ≤ m.law) × (m.law ≤ highest_law)) × (words_refusal n left ≡ none)

  abbrev pub GoodAll : List Recorded → Type 0
  GoodAll [] = Unit
  GoodAll (r ∷ rs) = Good r × GoodAll rs

  pub good_append : (rs ss : List Recorded) → GoodAll rs → GoodAll ss → GoodAll (rs ++ ss)
  good_append [] ss g h = h
  good_append (r ∷ rs) ss g h = (g.0, good_append rs ss g.1 h)

  good_of : (i : ℕ) (rs : List Recorded) → KnownAll rs → unknown_law i rs ≡ none → left_refusal n i rs ≡ none → GoodAll rs
  unfolding unknown_law left_refusal
  good_of i [] a e f = tt
  good_of i (forward m ∷ rs) a e f = go (leb 1 m.law) (leb m.law highest_law) refl refl e (λ q. good_of (suc i) rs a.1 q f)
    where
      go : (b c : Bool) → leb 1 m.law ≡ b → leb m.law highest_law ≡ c → cond (b && c) (unknown_law (suc i) rs) (refuse 17 (Step i)) ≡ none
          → (unknown_law (suc i) rs ≡ none → GoodAll rs) → GoodAll (forward m ∷ rs)
      go true true p q e f = ((leb-true 1 m.law p, leb-true m.law highest_law q), f e)
      go true false p q e f = never (sym e)
      go false c p q e f = never (sym e)
  good_of i (backward m left ∷ rs) a e f =
      let j = (none_of_both (if_refused (words_refusal n left) (refuse 75 (Step i))) _).0 f in
      ((a.0, none_refused _ _ j.0), good_of (suc i) rs a.1 e j.1)

  pub records_good : (rewriting : List ℕ) → unknown_law 0 (records_of rewriting) ≡ none → left_refusal n 0 (records_of rewriting) ≡ none → GoodAll (records_of rewriting)
  unfolding records_of
  records_good rewriting = good_of 0 (cut_from 0 rewriting).records (known_after 0 rewriting)

  pub good_none : (i : ℕ) (rs : List Recorded) → GoodAll rs → (unknown_law i rs ≡ none) × (left_refusal n i rs ≡ none)
  unfolding unknown_law left_refusal
  good_none i [] g = (refl, refl)
  good_none i (forward m ∷ rs) g = rw (le-leb 1 m.law g.0.0, le-leb m.law highest_law g.0.1) (good_none (suc i) rs g.1)
  good_none i (backward m left ∷ rs) g = rw g.0.1 (good_none (suc i) rs g.1)

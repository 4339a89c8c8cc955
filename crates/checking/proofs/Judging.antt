-- What is judged of the records of a rewriting, one record after another: what was found before, else what is found of this one, else of those behind.
use Rattle.std.specs.Prelude.{Result, Ok, Err, ⊤, None}
use Rattle.std.specs.Result.{is_ok, result_and}
use Prim.Native.Nat.{ℕ, suc, ◌+◌, ◌-◌, ◌≤◌, ◌<◌}
use native.Mathlib.Numerals.{add-one}
use native.Mathlib.Omega.{arith}
use mathlib.Core.Path.{◌≡◌, refl, sym, ◌∙◌, ap}
use mathlib.Core.Bool.{Bool, true, false, cond, ◌&&◌}
use mathlib.Core.List.{List, [], ◌∷◌}
use mathlib.Core.Option.{Option, none, some}
use lib.ListN.{length, take, drop}
use lib.Dec.{leb}
use borrow.Author.Tests.{le-leb, lt-leb, leb-true}
use Rattle.refusals.specs.declared.Place.TheVariants.{Nowhere, Step}
use Rattle.refusals.specs.declared.Refusal.{Refusal}
use Rattle.refusals.specs.Refusal.{refuse, or_else, judged}
use Rattle.refusals.proofs.Judging.{none_of_both}
use Rattle.plans.specs.Judging.{words_refusal}
use Rattle.plans.proofs.Options.{never}
use Rattle.laws.specs.Laws.{highest_law}
use Rattle.rewritings.specs.Moves.{Move}
use Rattle.rewritings.specs.Records.{Recorded, forward, backward, records_of, whole?}
use Rattle.rewritings.specs.Reading.{record_at}
use Rattle.rewritings.proofs.Reading.{StepRead, BackRead, records-end, end_short, end_whole}
use Rattle.checking.specs.Checking.{if_refused, unknown_law, left_refusal, records_refusal}
use Rattle.checking.specs.Turns.{law_refusal, carried_refusal, else_found, LawJudged, LeftJudged}
use Rattle.checking.proofs.Accepting.{none_refused}

-- 17
module _ (i : ℕ) (m : Move) (rs : List Recorded) where
  pub law_known : 1 ≤ m.law → m.law ≤ highest_law → unknown_law i (forward m ∷ rs) ≡ unknown_law (i + 1) rs
  unfolding unknown_law
  law_known low high = rw (add-one i, le-leb 1 m.law low, le-leb m.law highest_law high)

  pub law_low : m.law < 1 → unknown_law i (forward m ∷ rs) ≡ refuse 17 (Step i)
  unfolding unknown_law
  law_low h = rw (lt-leb 1 m.law h)

  pub law_high : 1 ≤ m.law → highest_law < m.law → unknown_law i (forward m ∷ rs) ≡ refuse 17 (Step i)
  unfolding unknown_law
  law_high low h = rw (le-leb 1 m.law low, lt-leb m.law highest_law h)

  pub law-back : (left : List ℕ) → unknown_law i (backward m left ∷ rs) ≡ unknown_law (i + 1) rs
  unfolding unknown_law
  law-back left = rw (add-one i)

  -- where no law is unknown the first one is known, and so are those behind it
  pub known_first : unknown_law i (forward m ∷ rs) ≡ none → (1 ≤ m.law) × (m.law ≤ highest_law) × (unknown_law (i + 1) rs ≡ none)
  unfolding unknown_law
  known_first e = rw (add-one i) (go (leb 1 m.law) (leb m.law highest_law) refl refl e)
    where
      go : (a b : Bool) → leb 1 m.law ≡ a → leb m.law highest_law ≡ b → cond (a && b) (unknown_law (suc i) rs) (refuse 17 (Step i)) ≡ none
          → (1 ≤ m.law) × (m.law ≤ highest_law) × (unknown_law (suc i) rs ≡ none)
      go true true p q e = (leb-true 1 m.law p, leb-true m.law highest_law q, e)
      go true false p q e = never (sym e)
      go false b p q e = never (sym e)

-- 75
module _ (n i : ℕ) (m : Move) (rs : List Recorded) where
  pub left-forward : left_refusal n i (forward m ∷ rs) ≡ left_refusal n (i + 1) rs
  unfolding left_refusal
  left-forward = rw (add-one i)

  pub left_passes : (left : List ℕ) → words_refusal n left ≡ none → left_refusal n i (backward m left ∷ rs) ≡ left_refusal n (i + 1) rs
  unfolding left_refusal
  left_passes left e = rw (add-one i, e)

  pub left-fails : (left : List ℕ) (f : Refusal) → words_refusal n left ≡ some f → left_refusal n i (backward m left ∷ rs) ≡ refuse 75 (Step i)
  unfolding left_refusal
  left-fails left f e = rw e

  -- where no left side is refused the first one is not, nor are those behind it
  pub left_first : (left : List ℕ) → left_refusal n i (backward m left ∷ rs) ≡ none → (words_refusal n left ≡ none) × (left_refusal n (i + 1) rs ≡ none)
  unfolding left_refusal
  left_first left e =
      let j = (none_of_both (if_refused (words_refusal n left) (refuse 75 (Step i))) _).0 e in
      rw (add-one i) (none_refused _ _ j.0, j.1)

-- one record more judged: what was found before, else what is found of this record, else of those behind it
first_of_three : (found : Result ⊤ Refusal) (o p : Option Refusal) → else_found (result_and found (judged o)) p ≡ else_found found (or_else o p)
first_of_three (Ok u) none p = refl
first_of_three (Ok u) (some f) p = refl
first_of_three (Err f) o p = refl

pub law-judged : (k i : ℕ) (found r : Result ⊤ Refusal) → r ≡ result_and found (judged (law_refusal k i)) → LawJudged k i found r
unfolding unknown_law
law-judged k i found r e p rs = rw (e, first_of_three found (law_refusal k i) (unknown_law (i + 1) rs), add-one i) (go (leb 1 k && leb k highest_law))
  where
    go : (b : Bool) → else_found found (or_else (cond b none (refuse 17 (Step i))) (unknown_law (suc i) rs)) ≡ else_found found (cond b (unknown_law (suc i) rs) (refuse 17 (Step i)))
    go true = refl
    go false = refl

pub left-judged : (n : ℕ) (left : List ℕ) (i : ℕ) (found r : Result ⊤ Refusal) → r ≡ result_and found (judged (carried_refusal n left i)) → LeftJudged n left i found r
unfolding left_refusal
left-judged n left i found r e m rs = rw (e, first_of_three found (carried_refusal n left i) (left_refusal n (i + 1) rs), add-one i) refl

-- one that is judged only where nothing was found before, and passed over otherwise
pub and_first : (found r q : Result ⊤ Refusal) → is_ok found ≡ true → r ≡ q → r ≡ result_and found q
and_first (Ok u) r q o e = e
and_first (Err f) r q o e = cc

pub and_behind : (found q : Result ⊤ Refusal) → is_ok found ≡ false → found ≡ result_and found q
and_behind (Ok u) q o = cc
and_behind (Err f) q o = refl

-- the records are judged up to a position: what is found from there on, or was found before, is what is found of all
pub record JudgedTo (n : ℕ) (rewriting : List ℕ) (at step : ℕ) (unknown no_plan : Result ⊤ Refusal) : Type 0 where
  pub within : at ≤ length rewriting
  pub few : step ≤ at
  pub cut : whole? (drop at rewriting) ≡ whole? rewriting
  pub laws : else_found unknown (unknown_law step (records_of (drop at rewriting))) ≡ unknown_law 0 (records_of rewriting)
  pub lefts : else_found no_plan (left_refusal n step (records_of (drop at rewriting))) ≡ left_refusal n 0 (records_of rewriting)

module _ (n : ℕ) (rewriting : List ℕ) (at step : ℕ) (unknown no_plan : Result ⊤ Refusal) (g : JudgedTo n rewriting at step unknown no_plan) where
  pub judged-step : (k q next : ℕ) → StepRead rewriting at k q next → (r : Result ⊤ Refusal) → LawJudged k step unknown r → JudgedTo n rewriting next (step + 1) r no_plan
  judged-step k q next h r j =
      let m : Move = record { law = k; place = q } in
      let rs = records_of (drop next rewriting) in
      record {
        within = h.within;
        few = omega (arith, h.after, g.few);
        cut = sym h.ends ∙ g.cut;
        laws = j q rs ∙ rw h.records at g.laws;
        lefts = ap (else_found no_plan) (sym (left-forward n step m rs)) ∙ rw h.records at g.lefts;
      }

  pub judged-back : (k q from next : ℕ) → BackRead rewriting at k q from next → (r : Result ⊤ Refusal) → LeftJudged n (take (next - from) (drop from rewriting)) step no_plan r
      → JudgedTo n rewriting next (step + 1) unknown r
  judged-back k q from next h r j =
      let m : Move = record { law = k; place = q } in
      let rs = records_of (drop next rewriting) in
      record {
        within = h.within;
        few = omega (arith, h.after, h.words-there, g.few);
        cut = sym h.ends ∙ g.cut;
        laws = ap (else_found unknown) (sym (law-back step m rs (take (next - from) (drop from rewriting)))) ∙ rw h.records at g.laws;
        lefts = j m rs ∙ rw h.records at g.lefts;
      }

  -- at the end: 16, or the first that was found
  pub judged_cut : None ≡ record_at rewriting at → at < length rewriting → Err (record { number = 16; place = Nowhere }) ≡ judged (records_refusal n rewriting)
  unfolding records_refusal
  judged_cut e h = rw (← g.cut, end_short rewriting at e h) refl

  module _ (ended : None ≡ record_at rewriting at) (all : length rewriting ≤ at) where
    is_whole : whole? rewriting ≡ true
    is_whole = sym g.cut ∙ end_whole rewriting at all

    none_left : records_of (drop at rewriting) ≡ []
    none_left = records-end rewriting at ended

    found_laws : else_found unknown none ≡ unknown_law 0 (records_of rewriting)
    unfolding unknown_law
    found_laws = rw none_left at g.laws

    found_lefts : else_found no_plan none ≡ left_refusal n 0 (records_of rewriting)
    unfolding left_refusal
    found_lefts = rw none_left at g.lefts

    pub judged_unknown : (f : Refusal) → unknown ≡ Err f → Err f ≡ judged (records_refusal n rewriting)
    unfolding records_refusal
    judged_unknown f e = rw (is_whole, ← found_laws, e) refl

    pub judged_lefts : unknown ≡ Ok tt → no_plan ≡ judged (records_refusal n rewriting)
    unfolding records_refusal
    judged_lefts e = rw (is_whole, ← found_laws, e, ← found_lefts) (stands no_plan)
      where
        stands : (j : Result ⊤ Refusal) → j ≡ judged (else_found j none)
        stands (Ok x) = refl
        stands (Err f) = refl

    -- by what was found of the laws
    pub judged-all : (r : Result ⊤ Refusal) → r ≡ result_and unknown no_plan → r ≡ judged (records_refusal n rewriting)
    judged-all r e = go unknown refl
      where
        go : (u : Result ⊤ Refusal) → unknown ≡ u → r ≡ judged (records_refusal n rewriting)
        go (Ok x) p = (rw p at e) ∙ judged_lefts p
        go (Err f) p = (rw p at e) ∙ judged_unknown f p

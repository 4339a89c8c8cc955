-- A law tried at the last word of a plan, and its right side compared with the words of a subplan: by that a step backwards is made.
use Prim.Native.Nat.{ℕ, pred, ◌+◌, ◌-◌, ◌≤◌}
use native.Mathlib.Omega.{arith}
use mathlib.Core.Path.{◌≡◌, refl, sym, ◌∙◌, ap}
use mathlib.Core.Bool.{Bool, true, false, not, cond}
use mathlib.Core.List.{List}
use mathlib.Core.Option.{Option, none, some}
use lib.ListN.{length, take}
use lib.Seq.{take_all}
use Rattle.areas.specs.Area.{overwrite}
use Rattle.areas.proofs.Area.{take-overwrite}
use Rattle.tables.specs.Tables.{Tables, actions}
use Rattle.plans.specs.Term.{Term, words, Over}
use Rattle.plans.specs.Place.{subterm, put}
use Rattle.plans.specs.Judging.{words_refusal}
use Rattle.plans.proofs.Reading.{term-said}
use Rattle.plans.proofs.Place.{stack_at}
use Rattle.plans.proofs.Put.{whole-subterm}
use Rattle.plans.proofs.Accepted.{accepted-term, accepted_iff_term, accepted-length, words_some}
use Rattle.laws.specs.Laws.{law_at, rewrite, same_bytes}
use Rattle.laws.specs.Step.{step_back}
use Rattle.laws.proofs.Tables.{Proper}
use Rattle.laws.proofs.Sound.{same_list}
use Rattle.laws.proofs.Backward.{at_last, not_last}
use Rattle.rewritings.specs.Roots.{law_term}
use Rattle.matching.specs.Start.{Ready, RightStarts}
use Rattle.matching.specs.Right.{spelled_law, law_size, Reaches}
use Rattle.matching.specs.declared.Letters.{Letters}
use Rattle.matching.specs.Tried.{Tried, fails, fits, gives}
use Rattle.std.specs.Prelude.{Option as Maybe, Some, None}
use Rattle.matching.proofs.Sides.{spelled_law-length}

-- an accepted plan whose starts are known is one that laws can be tried on
pub accepted_ready : (n : ℕ) → n ≤ 31 → (plan starts : List ℕ) → words_refusal n plan ≡ none → length plan ≤ length starts → RightStarts n plan starts
    → Ready n plan starts
accepted_ready n few plan starts pass long right =
    let u = (accepted_iff_term n few plan).0 pass in
    let some_words : 1 ≤ length plan = rw (← u.1) (words_some u.0) in
    let most = accepted-length n few plan pass in
    let x = accepted-term n few plan pass in
    let r = stack_at n plan x.0 x.1 (length plan) in
    record {
      few = few;
      some_word = some_words;
      not_many = most;
      readable = record { waiting = r.0; reads = rw (take_all (length plan) plan (omega arith)) at r.1 };
      enough = long;
      right = right;
    }

-- lists of different lengths are not the same
pub differ_length : (v w : List ℕ) → (length v ≡ length w → ⊥) → same_bytes v w ≡ false
differ_length v w h = go (same_bytes v w) refl
  where
    go : (b : Bool) → same_bytes v w ≡ b → b ≡ false
    go true q = absurd (h (ap length (same_list v w q)))
    go false q = refl

-- a law that fits has letters that reach over the plan's words
pub reaches_of : {t : Tables} {k : ℕ} {plan : List ℕ} {o : Option Term} {m : Maybe Letters} (l : Letters) → Tried t k plan o m → m ≡ Some l → Reaches plan l.from l.to
reaches_of l fails e = cc
reaches_of l (fits v l' r s) e = let same : l' ≡ l = cc in rw (← same) r

module _ (t : Tables) (k : ℕ) (plan there : List ℕ) where
  -- the law does not fit
  pub gives-fails : {o : Option Term} {r : Maybe Letters} → Tried t k plan o r → r ≡ None → false ≡ gives o there
  gives-fails fails e = refl
  gives-fails (fits v l r s) e = cc

  -- its right side has another length
  pub gives_other : {o : Option Term} {m : Maybe Letters} (l : Letters) → Tried t k plan o m → m ≡ Some l → (law_size k l.from l.to ≡ length there → ⊥)
      → false ≡ gives o there
  gives_other l fails e h = refl
  gives_other l (fits v l' r s) e h =
      let same : l' ≡ l = cc in
      sym (differ_length (words v) there (λ q. h (rw (← same) (sym (spelled_law-length t k plan l'.from l'.to r) ∙ (ap length s ∙ q)))))

  -- its right side is written out and compared
  pub gives-compared : {o : Option Term} {m : Maybe Letters} (l : Letters) → Tried t k plan o m → m ≡ Some l → (side side' : List ℕ) (size : ℕ) (r : Bool)
      → side' ≡ overwrite side 0 (spelled_law t k plan l.from l.to) → size ≡ law_size k l.from l.to → r ≡ same_bytes (take size side') there → r ≡ gives o there
  gives-compared l fails e side side' size r i j h = cc
  gives-compared l (fits v l' q s) e side side' size r i j h =
      let same : l' ≡ l = cc in
      let q' : Reaches plan l.from l.to = rw (← same) q in
      let s' : spelled_law t k plan l.from l.to ≡ words v = rw (← same) s in
      let long : 0 + length (spelled_law t k plan l.from l.to) ≡ size = omega (arith, spelled_law-length t k plan l.from l.to q') in
      let taken : take size side' ≡ words v = rw (i, ← long) (take-overwrite side 0 (spelled_law t k plan l.from l.to) (omega arith)) ∙ s' in
      h ∙ ap (λ (w : List ℕ). same_bytes w there) taken

-- A step backwards with an accepted left side: it is made exactly if the law gives the subplan at the place.
module _ (t : Tables) (ok : Proper t) (k p : ℕ) (carried w : List ℕ) (pass : words_refusal (actions t) carried ≡ none) where
  abbrev n : ℕ
  n = actions t

  -- the step, by the term of the words carried
  law_is : (x : Term) → Over n x → law_term t n k (words x) ≡ rewrite t (law_at k) x
  unfolding law_term
  law_is x over =
      let q : length (words x) - 1 ≡ pred (length (words x)) = omega (arith, words_some x) in
      rw (q, whole-subterm n ok.few x over)

  module _ (x u : Term) (over : Over n x) (there : subterm n w p ≡ some u) where
    law_none : rewrite t (law_at k) x ≡ none → step_back t k p (words x) w ≡ none
    unfolding step_back
    law_none e = rw (there, not_last t ok k x over e)

    law_some : (y : Term) → rewrite t (law_at k) x ≡ some y
        → step_back t k p (words x) w ≡ cond (same_bytes (words y) (words u)) (some (put w p (length (words u)) (words x))) none
    unfolding step_back
    law_some y e = rw (there, at_last t ok k x y over e)

    by_term : step_back t k p (words x) w ≡ cond (gives (law_term t n k (words x)) (words u)) (some (put w p (length (words u)) (words x))) none
    by_term = rw (law_is x over) (go (rewrite t (law_at k) x) refl)
      where
        go : (o : Option Term) → rewrite t (law_at k) x ≡ o
            → step_back t k p (words x) w ≡ cond (gives o (words u)) (some (put w p (length (words u)) (words x))) none
        go none e = law_none e
        go (some y) e = law_some y e

  pub back_by_law : (u : Term) → subterm n w p ≡ some u
      → step_back t k p carried w ≡ cond (gives (law_term t n k carried) (words u)) (some (put w p (length (words u)) carried)) none
  back_by_law u there =
      let x = accepted-term n ok.few carried pass in
      let s = term-said n carried x.0 x.1 in
      rw (← s.0) (by_term x.0 u s.1 there)

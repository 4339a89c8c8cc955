-- `plans::judge_words` meets its contract. The invariant: the words left, where so many subplans wait, are refused as the plan is.
use Rattle.std.specs.Prelude.{Result, Ok, Err}
use Rattle.std.proofs.Common.{rules}
use Prim.Native.Nat.{ℕ, suc, ◌≤◌, ◌<◌, ◌+◌, ◌-◌}
use native.Mathlib.Numerals.{add-one}
use native.Mathlib.Omega.{arith}
use mathlib.Core.Path.{◌≡◌, sym, ◌∙◌}
use mathlib.Core.Bool.{Bool, true, false, cond}
use mathlib.Core.List.{List}
use mathlib.Core.Logic.{⊎_elim}
use mathlib.Core.Option.{none, some}
use lib.ListN.{length, get_or, drop, drop_of_length-le}
use lib.Seq.{drop-cons}
use lib.Dec.{eqb, ltb}
use borrow.Author.Tests.{eq-eqb, ne_eqb, lt-ltb, le-ltb}
use Rattle.refusals.specs.declared.Place.TheVariants.{Nowhere, Byte}
use Rattle.refusals.specs.declared.Reason.{Reason}
use Rattle.refusals.specs.declared.Reason.TheVariants.{UnknownWord, TooFewOperands}
use Rattle.refusals.specs.declared.Refusal.{Refusal}
use Rattle.refusals.specs.Refusal.{number_of, refuse}
use Rattle.areas.specs.Area.{most_words}
use Rattle.plans.specs.Word.{word_of, operands_of}
use Rattle.plans.specs.Judging.{no_word?, turn_of, refusal_from, words_refusal}
use Rattle.plans.proofs.judge_words.Goals as goal

-- a word adds at most one to the subplans that wait
deeper : (n w d e : ℕ) → turn_of n w d ≡ Ok e → e ≤ d + 1
unfolding turn_of
deeper n w d e = go (no_word? (word_of n w)) (ltb d (operands_of w))
  where
    go : (a b : Bool) → ◌≡◌ {A = Result ℕ Reason} (cond a (Err UnknownWord) (cond b (Err TooFewOperands) (Ok (suc (d - operands_of w))))) (Ok e) → e ≤ d + 1
    go true b q = let z : ◌≡◌ {A = ℕ} 0 1 = cc in omega arith
    go false true q = let z : ◌≡◌ {A = ℕ} 0 1 = cc in omega arith
    go false false q = let z : suc (d - operands_of w) ≡ e = cc in omega arith

module _ (n : ℕ) (plan : List ℕ) (i d : ℕ) (h : i < length plan) where
  goes_on : (e : ℕ) → turn_of n (get_or plan i 0) d ≡ Ok e → refusal_from n i d (drop i plan) ≡ refusal_from n (i + 1) e (drop (i + 1) plan)
  unfolding refusal_from
  goes_on e q = rw (add-one i, drop-cons plan i 0, q)

  stops : (f : Refusal) → ((r : Reason) × (turn_of n (get_or plan i 0) d ≡ Err r) × (f ≡ record { number = number_of r; place = Byte i }))
      → refusal_from n i d (drop i plan) ≡ some f
  unfolding refusal_from
  stops f w = rw (drop-cons plan i 0, w.1, w.2)

ended : (n : ℕ) (plan : List ℕ) (i d : ℕ) → length plan ≤ i → refusal_from n i d (drop i plan) ≡ cond (eqb d 1) none (refuse 14 Nowhere)
unfolding refusal_from
ended n plan i d h = rw (drop_of_length-le plan h)

pub returns-then-is_empty : goal.returns-then-is_empty
unfolding words_refusal
returns-then-is_empty c =
    record { whole = rw (c.from.ensures, ← c.is_empty.ensures) (⊎_elim (λ e. rw e) (λ w. rw (w.0, lt-ltb _ _ w.1)) c.then-is_empty.either) }

pub loop-i-init : goal.loop-i-init
unfolding words_refusal
loop-i-init c = (omega arith, omega arith, sym (rw (← c.is_empty.ensures, c.if-is_empty.false, le-ltb most_words (length c.args.plan.now) (omega arith))))

pub returns-in_err-depth : goal.returns-in_err-depth
returns-in_err-depth c =
    let e : c.from_residual.result ≡ Err c.in_err-depth.field-0.0 = search rules in
    let w : (r : Reason) × (turn_of c.args.n (get_or c.args.plan.now c.loop-i.i-counter 0) c.loop-i.depth ≡ Err r)
    × (c.in_err-depth.field-0.0 ≡ record { number = number_of r; place = Byte c.loop-i.i-counter }) = search rules in
    record { whole = rw (e, ← c.loop-i.invariant.2, stops _ _ _ _ c.loop-i-test.true c.in_err-depth.field-0.0 w) }

pub loop-i-preserved : goal.loop-i-preserved
loop-i-preserved c =
    let q : turn_of c.args.n (get_or c.args.plan.now c.loop-i.i-counter 0) c.loop-i.depth ≡ Ok c.in_ok-depth.depth = search rules in
    (omega arith, omega (arith, deeper _ _ _ _ q), sym (goes_on _ _ _ _ c.loop-i-test.true _ q) ∙ c.loop-i.invariant.2)

pub returns-then-depth-eq1 : goal.returns-then-depth-eq1
returns-then-depth-eq1 c = record { whole = rw (← c.loop-i.invariant.2, ended _ _ _ _ c.loop-i-test.false, eq-eqb _ _ c.if-depth-eq1.true) }

pub returns-else-depth-eq1 : goal.returns-else-depth-eq1
returns-else-depth-eq1 c = record { whole = rw (c.from-else-depth-eq1.ensures, ← c.loop-i.invariant.2, ended _ _ _ _ c.loop-i-test.false, ne_eqb _ _ c.if-depth-eq1.false) }

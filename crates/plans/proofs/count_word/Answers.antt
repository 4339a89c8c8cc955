-- `plans::count_word` meets its contract. The invariant: the words counted and those that are left to count are all of them.
use Prim.Native.Nat.{ℕ, ◌≤◌, ◌<◌, ◌+◌}
use native.Mathlib.Numerals.{add-one}
use native.Mathlib.Omega.{arith}
use mathlib.Core.Bool.{Bool, true, false, cond}
use mathlib.Core.Path.{◌≡◌, refl}
use mathlib.Core.List.{List}
use lib.ListN.{length, get_or, drop, drop_of_length-le}
use lib.Seq.{drop-cons}
use lib.Dec.{eqb}
use mir.Val.{bool_byte}
use Rattle.plans.specs.Occurrences.{occurrences}
use Rattle.plans.proofs.count_word.Goals as goal

-- a test adds 1 where it holds, and 0 else
added : (b : Bool) → bool_byte b ≡ cond b 1 0
added true = refl
added false = refl

at_most_one : (b : Bool) → cond b 1 0 ≤ 1
at_most_one true = omega arith
at_most_one false = omega arith

one_more : (word i : ℕ) (plan : List ℕ) → i < length plan → occurrences word (drop i plan) ≡ cond (eqb (get_or plan i 0) word) 1 0 + occurrences word (drop (i + 1) plan)
unfolding occurrences
one_more word i plan h = rw (add-one i, drop-cons plan i 0 h) refl

none_left : (word i : ℕ) (plan : List ℕ) → length plan ≤ i → occurrences word (drop i plan) ≡ 0
unfolding occurrences
none_left word i plan h = rw (drop_of_length-le plan h) refl

pub loop-byte-preserved : goal.loop-byte-preserved
loop-byte-preserved c =
    let b = eqb (get_or c.args.plan.now c.loop-byte.byte-index 0) c.args.word in
    let e = c.from-count.ensures in
    let a = added b in
    let o = one_more c.args.word c.loop-byte.byte-index c.args.plan.now c.loop-byte-test.true in
    (omega (arith, e, a, at_most_one b, c.loop-byte.invariant.0), omega (arith, e, a, o, c.loop-byte.invariant.1))

pub returns : goal.returns
returns c = omega (arith, none_left c.args.word c.loop-byte.byte-index c.args.plan.now c.loop-byte-test.false, c.loop-byte.invariant.1)

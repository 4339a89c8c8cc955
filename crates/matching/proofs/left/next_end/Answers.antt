-- A word of a pattern is matched as the definition says: each return by the tests that led to it.
use native.Mathlib.Omega.{arith}
use borrow.Author.Tests.{eq-eqb, ne_eqb, lt-ltb, le-ltb, le-leb, lt-leb}
use Prim.Native.Nat.{◌-◌}
use mathlib.Core.Path.{ap}
use Rattle.matching.specs.Left.{next_of}
use Rattle.std.specs.Prelude.{Some}
use Rattle.matching.proofs.left.next_end.Goals as goal

pub returns-then-end-eq0 : goal.returns-then-end-eq0
unfolding next_of
returns-then-end-eq0 c = rw (eq-eqb _ _ c.if-end-eq0.true)

pub returns-then-byte-word : goal.returns-then-byte-word
unfolding next_of
returns-then-byte-word c = rw (ne_eqb _ _ c.if-end-eq0.false, lt-ltb _ _ c.if-word-lt96.true, eq-eqb _ _ c.if-byte-word.true)

pub returns-then-word-lt96 : goal.returns-then-word-lt96
unfolding next_of
returns-then-word-lt96 c = rw (ne_eqb _ _ c.if-end-eq0.false, lt-ltb _ _ c.if-word-lt96.true, ne_eqb _ _ c.if-byte-word.false)

pub overflow_cast-result : goal.overflow_cast-result
overflow_cast-result c = omega (arith, c.type_inv.starts (c.args.end - 1))

pub returns-then-word-lt99 : goal.returns-then-word-lt99
unfolding next_of
returns-then-word-lt99 c = rw (ne_eqb _ _ c.if-end-eq0.false, le-ltb _ _ c.if-word-lt96.false, lt-ltb _ _ c.if-word-lt99.true) (ap Some (c.requires.1.right _ (omega arith)))

pub returns-then-byte-n : goal.returns-then-byte-n
unfolding next_of
returns-then-byte-n c = rw (ne_eqb _ _ c.if-end-eq0.false, le-ltb _ _ c.if-word-lt96.false, le-ltb _ _ c.if-word-lt99.false, lt-ltb _ _ c.if-word-lt101.true, le-leb _ _ c.if-byte-n.true)

pub returns-then-word-lt101 : goal.returns-then-word-lt101
unfolding next_of
returns-then-word-lt101 c = rw (ne_eqb _ _ c.if-end-eq0.false, le-ltb _ _ c.if-word-lt96.false, le-ltb _ _ c.if-word-lt99.false, lt-ltb _ _ c.if-word-lt101.true, lt-leb _ _ c.if-byte-n.false)

pub returns-then-byte-lt80 : goal.returns-then-byte-lt80
unfolding next_of
returns-then-byte-lt80 c = rw (ne_eqb _ _ c.if-end-eq0.false, le-ltb _ _ c.if-word-lt96.false, le-ltb _ _ c.if-word-lt99.false, le-ltb _ _ c.if-word-lt101.false, lt-ltb _ _ c.if-byte-lt80.true)

pub returns-then-byte-lt88 : goal.returns-then-byte-lt88
unfolding next_of
returns-then-byte-lt88 c = rw (ne_eqb _ _ c.if-end-eq0.false, le-ltb _ _ c.if-word-lt96.false, le-ltb _ _ c.if-word-lt99.false, le-ltb _ _ c.if-word-lt101.false, le-ltb _ _ c.if-byte-lt80.false, lt-ltb _ _ c.if-byte-lt88.true)

pub returns : goal.returns
unfolding next_of
returns c = rw (ne_eqb _ _ c.if-end-eq0.false, le-ltb _ _ c.if-word-lt96.false, le-ltb _ _ c.if-word-lt99.false, le-ltb _ _ c.if-word-lt101.false, le-ltb _ _ c.if-byte-lt80.false, le-ltb _ _ c.if-byte-lt88.false)

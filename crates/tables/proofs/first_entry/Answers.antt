-- A search over the rows of a part, and in each over its columns: each turn, and what is answered.
use native.Mathlib.Omega.{arith}
use mathlib.Core.Path.{refl, sym, ap}
use Rattle.refusals.specs.Refusal.{judged}
use Rattle.tables.proofs.Searching.{begins, enters, leaves, passes, fails, ends, met, unmet}
use Rattle.tables.proofs.first_entry.Goals as goal

pub loop-row-init : goal.loop-row-init
loop-row-init g c = (omega arith, λ right t. begins _ (omega arith))

pub loop-column-init : goal.loop-column-init
loop-column-init g c = (omega arith, λ right t. enters (c.loop-row.invariant.1 right t) (omega arith) refl)

pub returns-then-not-is_right : goal.returns-then-not-is_right
returns-then-not-is_right g c =
    record {
      whole = λ right t.
          let e = t _ _ _ (omega arith) (omega arith) c.is_right.ensures in
          rw (c.at.ensures, c.index_of.ensures) (sym (ap judged (fails (c.loop-column.invariant.1 right t) (omega arith) (unmet _ e c.if-not-is_right.true))));
    }

pub loop-column-preserved : goal.loop-column-preserved
loop-column-preserved g c = (
  omega arith,
  λ right t.
      let e = t _ _ _ (omega arith) (omega arith) c.is_right.ensures in
      passes (c.loop-column.invariant.1 right t) (omega arith) (met _ e c.if-not-is_right.false),
)

pub loop-row-preserved : goal.loop-row-preserved
loop-row-preserved g c = (omega arith, λ right t. leaves _ (c.loop-column.invariant.1 right t) (omega arith))

pub returns : goal.returns
returns g c = record { whole = λ right t. sym (ap judged (ends (c.loop-row.invariant.1 right t) (omega arith))) }

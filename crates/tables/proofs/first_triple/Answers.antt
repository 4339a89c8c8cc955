-- Three nested searches: each turn, and what is answered.
use native.Mathlib.Omega.{arith}
use mathlib.Core.Path.{refl, sym, ap, ◌∙◌}
use Prim.Native.Nat.{ℕ}
use Rattle.std.specs.Prelude.{Option, Some, None, Result, Ok, Err, ⊤}
use Rattle.refusals.specs.declared.Place.TheVariants.{Triple}
use Rattle.refusals.specs.declared.Refusal.{Refusal}
use Rattle.refusals.specs.Refusal.{number_of, judged}
use Rattle.tables.proofs.Searching.{begins, enters, leaves, passes, fails, ends, met, unmet}
use Rattle.tables.proofs.first_triple.Goals.{then-loop-a-test+then-loop-b-test+then-loop-c-test+then-not-is_right, else-loop-a-test}
use Rattle.tables.proofs.first_triple.Goals as goal

-- what is answered for what the loops yield
abbrev answered : ℕ → Option (ℕ × ℕ × ℕ) → Result ⊤ Refusal
answered k None = Ok tt
answered k (Some t) = Err (record { number = k; place = Triple t.0 t.1 t.2 })

pub loop-a-init : goal.loop-a-init
loop-a-init g c = (omega arith, λ right t. begins _ (omega arith))

pub loop-b-init : goal.loop-b-init
loop-b-init g c = (omega arith, λ right t. enters (c.loop-a.invariant.1 right t) (omega arith) refl)

pub loop-c-init : goal.loop-c-init
loop-c-init g c = (omega arith, λ right t. enters (c.loop-b.invariant.1 right t) (omega arith) refl)

pub loop-c-preserved : goal.loop-c-preserved
loop-c-preserved g c = (
  omega arith,
  λ right t.
      let e = t _ _ _ _ (omega arith) (omega arith) (omega arith) c.is_right.ensures in
      passes (c.loop-c.invariant.1 right t) (omega arith) (met _ e c.if-not-is_right.false),
)

pub loop-b-preserved : goal.loop-b-preserved
loop-b-preserved g c = (omega arith, λ right t. leaves _ (c.loop-c.invariant.1 right t) (omega arith))

pub loop-a-preserved : goal.loop-a-preserved
loop-a-preserved g c = (omega arith, λ right t. leaves _ (c.loop-b.invariant.1 right t) (omega arith))

pub returns-in-None : goal.returns-in-None
returns-in-None g c =
    record {
      whole = λ right t.
          elim c.loop-a-test.branch [
            | then-loop-a-test+then-loop-b-test+then-loop-c-test+then-not-is_right w ↦ cc (w.found-is, c.in-None.is)
            | else-loop-a-test w ↦ sym (ap judged (ends (c.loop-a.invariant.1 right t) (omega (arith, w.loop-a-test.false))))
          ];
    }

pub returns : goal.returns
returns g c =
    record {
      whole = λ right t.
          elim c.loop-a-test.branch [
            | then-loop-a-test+then-loop-b-test+then-loop-c-test+then-not-is_right w ↦
                let e = t _ _ _ _
                (omega (arith, w.loop-a-test.true)) (omega (arith, w.loop-b-test.true)) (omega (arith, w.loop-c-test.true)) w.is_right.ensures in
                ap Err c.at.ensures
                ∙ sym (ap (answered (number_of c.args.reason)) c.in-Some.is)
                ∙ ap (answered (number_of c.args.reason)) w.found-is
                ∙ sym (ap judged (fails (w.loop-c.invariant.1 right t) (omega (arith, w.loop-c-test.true)) (unmet _ e w.if-not-is_right.true)))
            | else-loop-a-test w ↦ cc (w.found-is, c.in-Some.is)
          ];
    }

-- `checking::judge_records` meets its contract. The loop's invariant: what is found from the position on, or was found before it, is what is found of all
-- records. The measure is the bytes left.
use native.Mathlib.Omega.{arith}
use mathlib.Core.Path.{sym, ◌∙◌, ap}
use Rattle.std.specs.Prelude.{Some}
use Rattle.rewritings.proofs.Reading.{BackRead, records-step, records-back}
use Rattle.checking.proofs.Judging.{law-judged, left-judged, and_first, and_behind, judged-step, judged-back, judged_cut, judged-all}
use Rattle.checking.proofs.judge_records.Goals.{In-Back, in-Step+then-is_ok, in-Step+else-is_ok, in-Back+then-is_ok-2, in-Back+else-is_ok-2}
use Rattle.checking.proofs.judge_records.Goals as goal

back : (c : In-Back) → BackRead c.args.rewriting.now c.loop-record.at c.in-Back.law c.in-Back.place c.in-Back.from c.in-Back.next
back c = records-back _ _ _ _ _ _ (ap Some (sym c.in-Back.is) ∙ c.in-Some.ensures)

pub slice_bounds-judge_words_as-count : goal.slice_bounds-judge_words_as-count
slice_bounds-judge_words_as-count c = (back (goal.at.slice_bounds-judge_words_as-count c).In-Back).words-there

pub slice_bounds-judge_words_as-start : goal.slice_bounds-judge_words_as-start
slice_bounds-judge_words_as-start c = (back (goal.at.slice_bounds-judge_words_as-start c).In-Back).words-there

pub slice_bounds-judge_words_as-end : goal.slice_bounds-judge_words_as-end
slice_bounds-judge_words_as-end c = (back (goal.at.slice_bounds-judge_words_as-end c).In-Back).within

pub loop-record-smaller : goal.loop-record-smaller
loop-record-smaller c =
    elim c.match-record.branch [
      | in-Step+then-is_ok w ↦
          let r = records-step _ _ _ _ _ (ap Some (sym w.in-Step.is) ∙ c.in-Some.ensures) in
          omega (arith, w.at-is, r.after, r.within)
      | in-Step+else-is_ok w ↦
          let r = records-step _ _ _ _ _ (ap Some (sym w.in-Step.is) ∙ c.in-Some.ensures) in
          omega (arith, w.at-is, r.after, r.within)
      | in-Back+then-is_ok-2 w ↦
          let r = records-back _ _ _ _ _ _ (ap Some (sym w.in-Back.is) ∙ c.in-Some.ensures) in
          omega (arith, w.at-is, r.after, r.words-there, r.within)
      | in-Back+else-is_ok-2 w ↦
          let r = records-back _ _ _ _ _ _ (ap Some (sym w.in-Back.is) ∙ c.in-Some.ensures) in
          omega (arith, w.at-is, r.after, r.words-there, r.within)
    ]

pub loop-record-preserved : goal.loop-record-preserved
loop-record-preserved c =
    elim c.match-record.branch [
      | in-Step+then-is_ok w ↦
          let r = records-step _ _ _ _ _ (ap Some (sym w.in-Step.is) ∙ c.in-Some.ensures) in
          let j = law-judged _ _ _ _ (and_first _ _ _ (sym w.is_ok.ensures.value ∙ w.if-is_ok.true) w.judge_law-unknown.ensures) in
          rw (w.at-is, w.unknown-is, w.no_plan-is) (judged-step _ _ _ _ _ _ c.loop-record.invariant _ _ _ r _ j)
      | in-Step+else-is_ok w ↦
          let r = records-step _ _ _ _ _ (ap Some (sym w.in-Step.is) ∙ c.in-Some.ensures) in
          let o = sym w.is_ok.ensures.value ∙ w.if-is_ok.false in
          rw (w.at-is, w.unknown-is, w.no_plan-is) (judged-step _ _ _ _ _ _ c.loop-record.invariant _ _ _ r _ (law-judged _ _ _ _ (and_behind _ _ o)))
      | in-Back+then-is_ok-2 w ↦
          let r = records-back _ _ _ _ _ _ (ap Some (sym w.in-Back.is) ∙ c.in-Some.ensures) in
          let e = rw w.at-refusal.ensures at w.judge_words_as-no_plan.ensures in
          let j = left-judged _ _ _ _ _ (and_first _ _ _ (sym w.is_ok-in-Back.ensures.value ∙ w.if-is_ok-2.true) e) in
          rw (w.at-is, w.unknown-is, w.no_plan-is) (judged-back _ _ _ _ _ _ c.loop-record.invariant _ _ _ _ r _ j)
      | in-Back+else-is_ok-2 w ↦
          let r = records-back _ _ _ _ _ _ (ap Some (sym w.in-Back.is) ∙ c.in-Some.ensures) in
          let o = sym w.is_ok-in-Back.ensures.value ∙ w.if-is_ok-2.false in
          rw (w.at-is, w.unknown-is, w.no_plan-is) (judged-back _ _ _ _ _ _ c.loop-record.invariant _ _ _ _ r _ (left-judged _ _ _ _ _ (and_behind _ _ o)))
    ]

pub returns-then-at-rewriting : goal.returns-then-at-rewriting
returns-then-at-rewriting c = rw c.from.ensures (judged_cut _ _ _ _ _ _ c.loop-record.invariant c.in_default.ensures c.if-at-rewriting.true)

pub returns : goal.returns
returns c = judged-all _ _ _ _ _ _ c.loop-record.invariant c.in_default.ensures c.if-at-rewriting.false _ c.and.ensures

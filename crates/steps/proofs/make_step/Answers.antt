-- One step of a rewriting: the word at the place is sought, the law tried there, and its right side put in.
use native.Mathlib.Omega.{arith}
use Prim.Native.Nat.{◌≤◌}
use mathlib.Core.Path.{◌≡◌, sym, ap}
use Rattle.std.proofs.lemmas.Result.{err_from_is_err_and}
use lib.Seq.{length-take-le}
use Rattle.matching.proofs.Giving.{reaches_of}
use Rattle.areas.specs.declared.StepState.{StepState}
use Rattle.laws.proofs.Stepping.{step_past, step-alike}
use Rattle.steps.proofs.Answering.{answer-past, answer-fails, answer, Here, sought-here}
use Rattle.steps.proofs.Trying.{ready, step_none, step_some}
use Rattle.steps.proofs.make_step.Goals.{Start, In_ok-there}
use Rattle.steps.proofs.make_step.Goals as goal

few : (c : Start) → c.args.n ≤ 31
few c = omega (arith, c.requires.n_value.0, c.requires.n_value.1.well_formed.few_actions)

-- the word at the place is the last one read
found : (c : In_ok-there)
    → Here c.args.tables.now c.args.place c.args.left.now c.args.starts.now c.args.right.now
    c.seek_within.new.left c.seek_within.new.starts c.seek_within.new.right c.args.state c.in_ok-there.there
found c =
    let a = c.args in
    let d = c.seek_within in
    sought-here a.tables.now a.place a.left.now a.starts.now a.right.now d.new.left d.new.starts d.new.right a.state d.result d.ensures c.in_ok-there.there c.in_ok-there.was

pub seek_within-requires : goal.seek_within-requires
seek_within-requires c = (c.requires.n_value.0, few (goal.at.seek_within-requires c).Start, c.requires.working.0)

pub returns-in_err-there : goal.returns-in_err-there
returns-in_err-there c =
    let a = c.args in
    let d = c.seek_within in
    let p = err_from_is_err_and c.from_residual.result c.from_residual.ensures.1 in
    rw (p.1, p.2)
    (answer-past a.tables.now _ a.limit a.left.now a.starts.now a.right.now a.old.now a.state a.place d.new.left d.new.starts d.new.right d.result d.ensures
    c.requires.working.0 (step_past a.tables.now a.law a.place _) c.in_err-there.field-0.0 c.in_err-there.was)

pub slice_bounds-law_fits-end : goal.slice_bounds-law_fits-end
slice_bounds-law_fits-end c =
    let h = (found (goal.at.slice_bounds-law_fits-end c).In_ok-there).same.working.held in omega (arith, h.left_long, h.apart, h.rest_in)

pub slice_bounds-law_fits-end-2 : goal.slice_bounds-law_fits-end-2
slice_bounds-law_fits-end-2 c =
    let h = (found (goal.at.slice_bounds-law_fits-end-2 c).In_ok-there).same.working.held in
    sym (length-take-le _ _ (omega (arith, h.left_long, h.apart, h.rest_in)))

pub slice_bounds-law_fits-end-3 : goal.slice_bounds-law_fits-end-3
slice_bounds-law_fits-end-3 c =
    let h = (found (goal.at.slice_bounds-law_fits-end-3 c).In_ok-there).same.working.held in omega (arith, h.starts_long, h.apart, h.rest_in)

pub slice_bounds-law_fits-end-4 : goal.slice_bounds-law_fits-end-4
slice_bounds-law_fits-end-4 c =
    let h = (found (goal.at.slice_bounds-law_fits-end-4 c).In_ok-there).same.working.held in
    sym (length-take-le _ _ (omega (arith, h.starts_long, h.apart, h.rest_in)))

pub law_fits-requires : goal.law_fits-requires
law_fits-requires c =
    let p = goal.at.law_fits-requires c in
    let f = found p.In_ok-there in
    let d = c.seek_within in
    let s = c.in_ok-there.there in
    record {
      le_law = (c.requires.n_value.2, c.requires.n_value.3);
      ready = ready c.args.tables.now c.args.n c.requires.n_value.0 (few p.Start) d.new.left d.new.starts d.new.right s f.same.working (omega (arith, f.at_place));
    }

pub returns-in_default : goal.returns-in_default
returns-in_default c =
    let f = found (goal.at.returns-in_default c).In_ok-there in
    let d = c.seek_within in
    let s = c.in_ok-there.there in
    let a = c.args in
    answer-fails a.tables.now _ a.limit a.left.now a.starts.now a.right.now a.old.now a.state d.new.left d.new.starts d.new.right s f.same
    (step_none a.tables.now a.law a.place a.left.now a.starts.now a.right.now a.state a.n c.requires.n_value.0 d.new.left d.new.starts d.new.right s f.same f.at_place
    c.law_fits.result c.law_fits.ensures c.in_default.is)

pub put_side-requires : goal.put_side-requires
put_side-requires c =
    let f = found (goal.at.put_side-requires c).In_ok-there in
    let e : c.in_ok-there.there.made.steps ≡ c.args.state.made.steps = ap (λ (z : StepState). z.steps) f.same.same_step in
    let m = c.requires.limit_le_most_words in
    record {
      le_law = (c.requires.n_value.2, c.requires.n_value.3, m.0, omega (arith, e, m.1));
      le_read = (omega (arith, f.at_place), f.same.working, reaches_of c.in-Some.letters c.law_fits.ensures c.in-Some.is, m.2);
    }

pub returns : goal.returns
returns c =
    let f = found (goal.at.returns c).In_ok-there in
    let d = c.seek_within in
    let s = c.in_ok-there.there in
    let a = c.args in
    let l = c.law_fits in
    let p = c.put_side in
    let e =
    step_some a.tables.now a.law a.place a.left.now a.starts.now a.right.now a.state a.n c.requires.n_value.0 d.new.left d.new.starts d.new.right s f.same f.at_place
    l.result l.ensures c.in-Some.letters c.in-Some.is in
    answer a.tables.now _ a.limit a.left.now a.starts.now a.right.now a.old.now a.state d.new.left d.new.starts d.new.right s f.same
    _ e p.new.right p.new.old p.result p.ensures (omega (arith, f.at_place)) c.requires.limit_le_most_words.0 c.requires.working.1
    (step-alike a.tables.now c.requires.n_value.1 a.law a.place _ _ c.requires.working.0.accepted e).1 _ c.ok_or.ensures.value

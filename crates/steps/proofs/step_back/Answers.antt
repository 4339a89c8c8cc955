-- `steps::step_back` meets its contract: the word at the place is sought, the law is tried on the words carried, and these are put in.
use native.Mathlib.Omega.{arith}
use Prim.Native.Nat.{ℕ, ◌≤◌, ◌<◌}
use mathlib.Core.Path.{◌≡◌, sym, ◌∙◌, ap}
use mathlib.Core.List.{◌++◌}
use mathlib.Core.Bool.{not}
use Rattle.std.proofs.lemmas.Result.{err_from_is_err_and}
use lib.ListN.{length, take, drop, length-take}
use lib.Seq.{length-take-le}
use Rattle.areas.specs.declared.StepState.{StepState}
use Rattle.plans.proofs.Accepted.{accepted-length}
use Rattle.laws.proofs.Backward.{back-past, back-accepted}
use Rattle.rewritings.specs.Roots.{law_term}
use Rattle.matching.specs.Tried.{gives}
use Rattle.steps.specs.Working.{Same, start_here, words_here}
use Rattle.steps.proofs.Making.{start-before}
use Rattle.steps.proofs.Answering.{answer-past, answer-fails, answer, Here, sought-here}
use Rattle.steps.proofs.Backing.{back_none, back_some, same_before}
use Rattle.steps.proofs.step_back.Goals.{Start, In_ok-there, After-law_gives}
use Rattle.steps.proofs.step_back.Goals as goal

few : (c : Start) → c.args.n ≤ 31
few c = omega (arith, c.requires.n_value.0, c.requires.n_value.1.well_formed.few_actions)

-- the word at the place is the last one read
found : (c : In_ok-there)
    → Here c.args.tables.now c.args.place c.args.left.now c.args.starts.now c.args.right.now
    c.seek_within.new.left c.seek_within.new.starts c.seek_within.new.right c.args.state c.in_ok-there.there
found c =
    let a = c.args in
    let d = c.seek_within in
    sought-here a.tables.now a.place a.left.now a.starts.now a.right.now d.new.left d.new.starts d.new.right a.state d.result d.ensures c.in_ok-there.there c.in_ok-there.was

-- where the subplan there starts
started : (c : In_ok-there) → start_here c.seek_within.new.starts c.in_ok-there.there < c.in_ok-there.there.read
started c =
    let d = c.seek_within in
    let f = found c in
    start-before c.args.tables.now d.new.left d.new.starts d.new.right c.in_ok-there.there f.same.working (omega (arith, f.at_place))

-- there is room for the words before the rest
room : (c : In_ok-there) → length (take c.in_ok-there.there.rest c.seek_within.new.right) ≡ c.in_ok-there.there.rest
room c = let h = (found c).same.working.held in length-take-le _ _ (omega (arith, h.right_long, h.rest_in))

-- the state there, whatever the law was tried in
there : (c : After-law_gives) → length (take c.in_ok-there.there.rest c.seek_within.new.right) ≡ c.in_ok-there.there.rest
    → Same c.args.tables.now c.args.left.now c.args.starts.now c.args.right.now c.seek_within.new.left c.seek_within.new.starts c.seek_within.new.right
    c.args.state c.in_ok-there.there
    → Same c.args.tables.now c.args.left.now c.args.starts.now c.args.right.now
    c.seek_within.new.left c.seek_within.new.starts (c.law_gives.new.side ++ drop c.in_ok-there.there.rest c.seek_within.new.right) c.args.state c.in_ok-there.there
there c r m =
    let d = c.seek_within in
    let a = c.args in
    same_before a.tables.now a.left.now a.starts.now a.right.now d.new.left d.new.starts d.new.right c.law_gives.new.side a.state c.in_ok-there.there m
    (c.law_gives.auto.side ∙ r)

-- the law was tried on the words of the subplan there
tried : (c : After-law_gives)
    → c.law_gives.result ≡ gives (law_term c.args.tables.now c.args.n c.args.law c.args.carried.now)
    (words_here c.seek_within.new.left c.seek_within.new.starts c.in_ok-there.there)
tried c = rw (← c.from-start.ensures) c.law_gives.ensures

pub seek_within-requires : goal.seek_within-requires
seek_within-requires c = (c.requires.n_value.0, few (goal.at.seek_within-requires c).Start, c.requires.working.0)

pub returns-in_err-there : goal.returns-in_err-there
returns-in_err-there c =
    let a = c.args in
    let d = c.seek_within in
    let p = err_from_is_err_and c.from_residual.result c.from_residual.ensures.1 in
    rw (p.1, p.2)
    (answer-past a.tables.now _ a.limit a.left.now a.starts.now a.right.now a.old.now a.state a.place d.new.left d.new.starts d.new.right d.result d.ensures
    c.requires.working.0 (back-past a.tables.now a.law a.place a.carried.now _) c.in_err-there.field-0.0 c.in_err-there.was)

pub bounds-starts-read : goal.bounds-starts-read
bounds-starts-read c =
    let f = found (goal.at.bounds-starts-read c).In_ok-there in
    let h = f.same.working.held in
    omega (arith, f.at_place, h.starts_long, h.apart, h.rest_in)

pub offset_bounds-starts-read : goal.offset_bounds-starts-read
offset_bounds-starts-read c =
    let f = found (goal.at.offset_bounds-starts-read c).In_ok-there in
    let h = f.same.working.held in
    omega (arith, f.at_place, h.starts_long, h.apart, h.rest_in)

pub slice_bounds-law_gives-end : goal.slice_bounds-law_gives-end
slice_bounds-law_gives-end c = let h = (found (goal.at.slice_bounds-law_gives-end c).In_ok-there).same.working.held in omega (arith, h.right_long, h.rest_in)

pub slice_bounds-law_gives-end-2 : goal.slice_bounds-law_gives-end-2
slice_bounds-law_gives-end-2 c = sym (room (goal.at.slice_bounds-law_gives-end-2 c).In_ok-there)

pub slice_bounds-law_gives-count : goal.slice_bounds-law_gives-count
slice_bounds-law_gives-count c = omega (arith, started (goal.at.slice_bounds-law_gives-count c).In_ok-there, c.from-start.ensures)

pub slice_bounds-law_gives-start : goal.slice_bounds-law_gives-start
slice_bounds-law_gives-start c = omega (arith, started (goal.at.slice_bounds-law_gives-start c).In_ok-there, c.from-start.ensures)

pub slice_bounds-law_gives-end-3 : goal.slice_bounds-law_gives-end-3
slice_bounds-law_gives-end-3 c =
    let h = (found (goal.at.slice_bounds-law_gives-end-3 c).In_ok-there).same.working.held in omega (arith, h.left_long, h.apart, h.rest_in)

pub law_gives-requires : goal.law_gives-requires
law_gives-requires c =
    let p = goal.at.law_gives-requires c in
    let n = c.requires.n_value in
    let f = found p.In_ok-there in
    (n.2, n.3, few p.Start, n.4, omega (arith, room p.In_ok-there, f.same.working.held.apart, length-take {A = ℕ}))

pub returns-then-not-law_gives : goal.returns-then-not-law_gives
returns-then-not-law_gives c =
    let p = goal.at.returns-then-not-law_gives c in
    let n = c.requires.n_value in
    let f = found p.In_ok-there in
    let d = c.seek_within in
    let s = c.in_ok-there.there in
    let a = c.args in
    let l = c.law_gives in
    let m = there p.After-law_gives (room p.In_ok-there) f.same in
    answer-fails a.tables.now _ a.limit a.left.now a.starts.now a.right.now a.old.now a.state d.new.left d.new.starts _ s m
    (back_none a.tables.now n.1 a.law a.place a.carried.now a.left.now a.starts.now a.right.now a.state a.n n.0 n.4 d.new.left d.new.starts _ s m f.at_place f.inside
    l.result (tried p.After-law_gives) (ap not c.if-not-law_gives.true))

pub put_words-requires : goal.put_words-requires
put_words-requires c =
    let p = goal.at.put_words-requires c in
    let f = found p.In_ok-there in
    let e : c.in_ok-there.there.made.steps ≡ c.args.state.made.steps = ap (λ (z : StepState). z.steps) f.same.same_step in
    let m = c.requires.limit_le_most_words in
    record {
      words_len_bound = (accepted-length _ (few p.Start) _ c.requires.n_value.4, m.0, omega (arith, e, m.1));
      le_read = (omega (arith, f.at_place), (there p.After-law_gives (room p.In_ok-there) f.same).working, m.2);
    }

pub returns : goal.returns
returns c =
    let p = goal.at.returns c in
    let n = c.requires.n_value in
    let f = found p.In_ok-there in
    let d = c.seek_within in
    let s = c.in_ok-there.there in
    let a = c.args in
    let l = c.law_gives in
    let w = c.put_words in
    let m = there p.After-law_gives (room p.In_ok-there) f.same in
    let e =
    back_some a.tables.now n.1 a.law a.place a.carried.now a.left.now a.starts.now a.right.now a.state a.n n.0 n.4 d.new.left d.new.starts _ s m f.at_place f.inside
    l.result (tried p.After-law_gives) (ap not c.if-not-law_gives.false) in
    answer a.tables.now _ a.limit a.left.now a.starts.now a.right.now a.old.now a.state d.new.left d.new.starts _ s m
    a.carried.now e w.new.right w.new.old w.result w.ensures (omega (arith, f.at_place)) c.requires.limit_le_most_words.0 c.requires.working.1
    (λ h. back-accepted a.tables.now n.1 a.law a.place a.carried.now _ _ (rw (← n.0) n.4) c.requires.working.0.accepted e h) _ c.ok_or.ensures.value

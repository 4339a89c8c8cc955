-- `check_accepted` meets its contract: the plan loaded is ready for the replay, what the replay leaves can be stored, and the end is compared.
use Rattle.std.specs.Prelude.{Ok, Err}
use Rattle.std.proofs.Common.{rules}
use Prim.Native.Nat.{ℕ, ◌-◌, ◌≤◌}
use native.Mathlib.Omega.{arith}
use mathlib.Core.Path.{◌≡◌, refl, sym, ◌∙◌, ap}
use mathlib.Core.List.{List, ◌++◌}
use lib.ListN.{take, drop}
use lib.Seq.{length-take-le}
use Rattle.tables.specs.Tables.{Tables}
use Rattle.areas.specs.Storing.{Stored}
use Rattle.areas.proofs.Storing.{capacity-a, capacity-b, capacity-most, kept_storable}
use Rattle.buffer.specs.declared.State.{State}
use Rattle.buffer.proofs.Whole.{held_gap, whole_parts}
use Rattle.steps.specs.Working.{plan_in, Working}
use Rattle.steps.proofs.Loading.{loaded-plan, loaded-before, loaded-working, loaded-kept, lawful}
use Rattle.checking.specs.Turns.{state_of}
use Rattle.checking.proofs.Settling.{settle_stopped, settle_same, settle_differs}
use Rattle.areas.specs.Area.{most_words}
use Rattle.checking.proofs.check_accepted.Goals.{After-last_state-read, After-store-size}
use Rattle.checking.proofs.check_accepted.Goals as goal

-- what is read and what is left are the plan
parts : {t : Tables} {left starts right : List ℕ} {s : State} → Working t left starts right s → take s.read left ++ take (most_words - s.rest) (drop s.rest right) ≡ plan_in left right s
parts {t} {left} {starts} {right} {s} w = rw w.held.right_long at (whole_parts left right s.read s.rest (held_gap w.held))

-- the plan under work, as the replay leaves it
at-end : (c : After-last_state-read)
    → Working c.args.tables.now c.replay_on-replayed.new.left c.replay_on-replayed.new.starts c.replay_on-replayed.new.right c.last_state-read.result
at-end c = rw (← c.last_state-read.ensures) at c.replay_on-replayed.ensures.working

-- what is stored is the plan that the replay leaves
stored : (c : After-store-size)
    → Stored c.args.a.now c.args.b.now c.store-size.new.a c.store-size.new.b (state_of c.replay_on-replayed.result).made
    (plan_in c.replay_on-replayed.new.left c.replay_on-replayed.new.right (state_of c.replay_on-replayed.result)) c.replay_on-replayed.new.old c.store-size.result
stored c = rw (parts c.replay_on-replayed.ensures.working) at (rw c.last_state-read.ensures at c.store-size.ensures)

pub load-state-requires : goal.load-state-requires
load-state-requires c = (omega (arith, c.requires.2, c.requires.1, capacity-most c.args.a.now c.args.b.now), refl)

pub replay_on-replayed-requires : goal.replay_on-replayed-requires
replay_on-replayed-requires c =
    let p = c.requires in
    let l = c.load-state.ensures in
    let most : c.args.limit ≤ most_words = omega (arith, p.1, capacity-most c.args.a.now c.args.b.now) in record {
      n_value = (c.actions_of-n.ensures.whole, lawful _ _ p.0, most, refl, p.3, rw c.actions_of-n.ensures.whole p.4);
      working = (
        loaded-working _ _ _ _ l.0 l.1 _ _ p.0 refl refl l.2,
        loaded-kept _ _ _ _ l.0 l.1 _ _ p.2,
        ap (λ (z : State). z.made.steps) l.0,
      );
    }

pub slice_bounds-left-end : goal.slice_bounds-left-end
slice_bounds-left-end c = let h = (at-end (goal.at.slice_bounds-left-end c).After-last_state-read).held in omega (arith, h.apart, h.rest_in)

pub slice_bounds-store-end : goal.slice_bounds-store-end
slice_bounds-store-end c =
    let h = (at-end (goal.at.slice_bounds-store-end c).After-last_state-read).held in
    sym (length-take-le _ _ (omega (arith, h.left_long, h.apart, h.rest_in)))

pub slice_bounds-store-count : goal.slice_bounds-store-count
slice_bounds-store-count c = let h = (at-end (goal.at.slice_bounds-store-count c).After-last_state-read).held in omega (arith, h.rest_in)

pub slice_bounds-store-start : goal.slice_bounds-store-start
slice_bounds-store-start c = let h = (at-end (goal.at.slice_bounds-store-start c).After-last_state-read).held in omega (arith, h.rest_in)

pub store-size-requires : goal.store-size-requires
store-size-requires c =
    rw (c.last_state-read.ensures, parts c.replay_on-replayed.ensures.working)
    (kept_storable c.args.a.now c.args.b.now _ _ _ _ c.requires.1 c.replay_on-replayed.ensures.kept)

pub reached-requires : goal.reached-requires
reached-requires c =
    let short = c.replay_on-replayed.ensures.kept.short in
    let size = (stored (goal.at.reached-requires c).After-store-size).plan_size in (
      omega (arith, size, short, c.requires.1, capacity-a c.args.a.now c.args.b.now, c.store-size.auto.a),
      omega (arith, size, short, c.requires.1, capacity-b c.args.a.now c.args.b.now, c.store-size.auto.b),
    )

pub returns-then-reached : goal.returns-then-reached
returns-then-reached c =
    let l = c.load-state.ensures in
    let r = rw c.last_state-read.ensures at c.reached.ensures in
    let made : c.replay_on-replayed.result ≡ Ok (state_of c.replay_on-replayed.result) = search rules in
    rw c.last_state-read.ensures
    (settle_same _ _ _ _ _ _ _ _ _ _ _ _ _ _ _ _ _ (loaded-plan _ _ _ _ l.0 l.1) (loaded-before _ _ _ _ l.0 l.1 _) c.replay_on-replayed.ensures
    (stored (goal.at.returns-then-reached c).After-store-size) _ made (sym r ∙ c.if-reached.true))

pub returns : goal.returns
returns c =
    let l = c.load-state.ensures in
    let r = rw c.last_state-read.ensures at c.reached.ensures in
    rw c.last_state-read.ensures
    (settle_differs _ _ _ _ _ _ _ _ _ _ _ _ _ _ _ _ _ (loaded-plan _ _ _ _ l.0 l.1) (loaded-before _ _ _ _ l.0 l.1 _) c.replay_on-replayed.ensures
    (stored (goal.at.returns c).After-store-size) _ c.in_default.is (sym r ∙ c.if-reached.false))

pub returns-in-Err : goal.returns-in-Err
returns-in-Err c =
    let l = c.load-state.ensures in
    let not_made : c.replay_on-replayed.result ≡ Err c.in-Err.stopped = search rules in
    rw (c.number-number.ensures, c.last_state-read.ensures)
    (settle_stopped _ _ _ _ _ _ _ _ _ _ _ _ _ _ _ _ _ (loaded-plan _ _ _ _ l.0 l.1) (loaded-before _ _ _ _ l.0 l.1 _) c.replay_on-replayed.ensures
    (stored (goal.at.returns-in-Err c).After-store-size) _ not_made)

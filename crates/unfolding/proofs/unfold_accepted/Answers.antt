-- `unfolding::unfold_accepted` meets its contract: the plan is put to the end of its array, and what the run leaves is stored.
use native.Mathlib.Omega.{arith}
use Prim.Native.Nat.{ℕ, ◌-◌, ◌≤◌}
use mathlib.Core.Path.{◌≡◌}
use mathlib.Core.List.{List}
use mathlib.Core.Option.{none}
use lib.ListN.{length, drop, replicate, length-replicate}
use Rattle.areas.specs.Area.{overwrite, most_words}
use Rattle.areas.specs.Reached.{capacity}
use Rattle.areas.specs.Storing.{no_step, Stored}
use Rattle.areas.proofs.Storing.{capacity-most, kept_storable}
use Rattle.tables.specs.Tables.{Tables}
use Rattle.plans.specs.Judging.{plan_refusal}
use Rattle.rounds.specs.Rounds.{Given}
use Rattle.unfolding.proofs.Settling.{cleared, plan-given, part_is, lawful, settle_finished, settle_stopped}
use Rattle.unfolding.proofs.unfold_accepted.Goals as goal

abbrev zeros : ℕ → List ℕ
zeros n = replicate n 0

zeros-long : (n : ℕ) → length (zeros n) ≡ n
zeros-long n = length-replicate {A = ℕ} n 0

-- the plan is no longer than an array
short : (plan a b : List ℕ) (c : ℕ) → c ≡ capacity a b → length plan ≤ c → length plan ≤ most_words
short plan a b c e l = omega (arith, e, l, capacity-most a b)

-- the plan at the end of its array
put : (t : Tables) (c : ℕ) (plan ws : List ℕ) → length plan ≤ most_words → ws ≡ overwrite (zeros most_words) (most_words - length plan) plan
    → length ws ≡ length (zeros most_words) → plan_refusal t plan ≡ none → length plan ≤ c
    → (drop (most_words - length plan) ws ≡ plan) × Given t c ws (zeros most_words) (most_words - length plan) no_step
put t c plan ws l e kept ok within =
    plan-given t c plan (zeros most_words) ws (zeros most_words) (most_words - length plan) (zeros-long most_words) (zeros-long most_words) (omega (arith, l)) e kept ok within

pub overflow_sub-front : goal.overflow_sub-front
overflow_sub-front c = short c.args.plan.now c.args.a.now c.args.b.now c.args.limit c.requires.1 c.requires.2

pub copy_in-requires : goal.copy_in-requires
copy_in-requires c =
    omega (arith, short c.args.plan.now c.args.a.now c.args.b.now c.args.limit c.requires.1 c.requires.2, zeros-long most_words)

pub run_on-last-requires : goal.run_on-last-requires
run_on-last-requires c =
    let a = c.args in
    let p = c.requires in
    let d = c.copy_in in
    let z = c.clear_from in
    record {
      n_value = (c.actions_of-n.ensures.whole, lawful a.tables.now a.plan.now p.0, omega (arith, p.1, capacity-most a.a.now a.b.now), cleared a.list.now z.new.dst z.ensures z.auto.dst);
      given = (put a.tables.now a.limit a.plan.now d.new.dst (short a.plan.now a.a.now a.b.now a.limit p.1 p.2) d.ensures.0 d.auto.dst p.0 p.2).1;
    }

pub slice_bounds-store-start : goal.slice_bounds-store-start
slice_bounds-store-start c = let g = c.run_on-last.ensures.given in omega (arith, g.front_in, g.long)

pub store-size-requires : goal.store-size-requires
store-size-requires c =
    let a = c.args in
    let r = c.run_on-last in
    rw (part_is r.new.words r.result.front r.ensures.given.long) (kept_storable a.a.now a.b.now a.limit (drop r.result.front r.new.words) r.new.old r.result.state c.requires.1 r.ensures.given.kept)

pub returns-in-None : goal.returns-in-None
returns-in-None c =
    let a = c.args in
    let p = c.requires in
    let d = c.copy_in in
    let z = c.clear_from in
    let r = c.run_on-last in
    let s = c.store-size in
    let stored : Stored a.a.now a.b.now s.new.a s.new.b r.result.state (drop r.result.front r.new.words) r.new.old s.result = rw (part_is r.new.words r.result.front r.ensures.given.long) at s.ensures in
    settle_finished a.tables.now a.limit a.allowance a.plan.now _ a.list.now z.new.dst r.new.list r.new.words r.new.old r.result a.a.now a.b.now s.new.a s.new.b s.result
    (put a.tables.now a.limit a.plan.now d.new.dst (short a.plan.now a.a.now a.b.now a.limit p.1 p.2) d.ensures.0 d.auto.dst p.0 p.2).0 z.auto.dst r.ensures stored c.in-None.is

pub returns-in-Some : goal.returns-in-Some
returns-in-Some c =
    let a = c.args in
    let p = c.requires in
    let d = c.copy_in in
    let z = c.clear_from in
    let r = c.run_on-last in
    let s = c.store-size in
    let stored : Stored a.a.now a.b.now s.new.a s.new.b r.result.state (drop r.result.front r.new.words) r.new.old s.result = rw (part_is r.new.words r.result.front r.ensures.given.long) at s.ensures in
    rw c.number.ensures
    (settle_stopped a.tables.now a.limit a.allowance a.plan.now _ a.list.now z.new.dst r.new.list r.new.words r.new.old r.result a.a.now a.b.now s.new.a s.new.b s.result
    (put a.tables.now a.limit a.plan.now d.new.dst (short a.plan.now a.a.now a.b.now a.limit p.1 p.2) d.ensures.0 d.auto.dst p.0 p.2).0 z.auto.dst r.ensures stored c.in-Some.stop c.in-Some.is)

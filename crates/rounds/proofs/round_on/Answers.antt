-- `rounds::round_on` meets its contract: the plan given is loaded, steps are made, and the plan reached is written out.
use native.Mathlib.Omega.{arith}
use borrow.Author.Rules.{rules}
use Prim.Native.Nat.{ℕ, ◌+◌, ◌-◌, ◌<◌, ◌≤◌}
use mathlib.Core.Path.{◌≡◌, sym, ◌∙◌}
use mathlib.Core.List.{List}
use lib.ListN.{length, drop, take, get_or, replicate, length-replicate}
use lib.Seq.{length-take-le}
use Rattle.areas.specs.declared.StepState.{StepState}
use Rattle.areas.specs.Area.{overwrite, most_words}
use Rattle.tables.specs.Tables.{Tables}
use Rattle.graph.specs.Graph.{Graph, ToRead}
use Rattle.graphsteps.specs.Holding.{Arrays, arrays, in_use, Fits, Holding}
use Rattle.recording.specs.Recording.{MadeOf}
use Rattle.rounds.specs.Rounds.{Given}
use Rattle.rounds.proofs.Loading.{loaded}
use Rattle.rounds.proofs.OneRound.{fresh, loaded-holding, loaded-fits, nodes_in_use, plan_held, reached, steps-made, old_short, redex_of, OldOf, put_old, same_old, round}
use Rattle.rounds.proofs.round_on.Goals.{After-load_words, After-make_steps-made, After-write_out-start, Then-remaining-allowed, then-remaining-allowed, else-remaining-allowed}
use Rattle.rounds.proofs.round_on.Goals as goal

abbrev zeros : ℕ → List ℕ
zeros n = replicate n 0

zeros-long : (n : ℕ) → length (zeros n) ≡ n
zeros-long n = length-replicate {A = ℕ} n 0

-- The plan before the steps, and the arrays before and after them ---------------------------------------------------------------------------

-- the entries to read are the words of the plan given
to_read : {t : Tables} {c : ℕ} {ws old todo : List ℕ} {front : ℕ} {s : StepState} → Given t c ws old front s → ((i : ℕ) → get_or ws i 0 < 256)
    → todo ≡ overwrite (zeros most_words) front (take (length ws - front) (drop front ws)) → (n : ℕ) (g : Graph) → ToRead n g (drop front todo) (drop front ws)
to_read {ws = ws} {todo = todo} {front = front} g bytes e = loaded ws (zeros most_words) todo front g.long (zeros-long most_words) g.front_in bytes e

abbrev arrays-before : After-load_words → Arrays
arrays-before c =
    let a = c.args in
    arrays a.own.now a.first.now a.second.now a.sizes.now (zeros most_words) c.load_words.new.dst

abbrev arrays-after : After-make_steps-made → Arrays
arrays-after c =
    let l = c.make_steps-made.new in
    arrays l.own l.first l.second l.sizes l.stack l.todo

arrays-fit : (c : After-load_words) → Fits (arrays-before c) (fresh c.args.front)
arrays-fit c =
    let a = c.args in
    let p = c.requires in
    let d = c.load_words in
    let l = p.limit_in_bounds in
    loaded-fits a.tables.now a.limit a.words.now a.old.now a.front a.state p.n_value.1 p.given a.own.now a.first.now a.second.now a.sizes.now (zeros most_words) d.new.dst
    (to_read p.given (λ i. search rules) d.ensures) (omega (arith, l.0)) l.1 l.2 l.3 l.4 (zeros-long most_words) (d.auto.dst ∙ zeros-long most_words)

plan-loaded : (c : After-load_words) → Holding c.args.tables.now c.args.limit (arrays-before c) (fresh c.args.front) (drop c.args.front c.args.words.now)
plan-loaded c =
    let a = c.args in
    let p = c.requires in
    let d = c.load_words in
    loaded-holding a.tables.now a.limit a.words.now a.old.now a.front a.state p.n_value.1 p.given a.own.now a.first.now a.second.now a.sizes.now (zeros most_words) d.new.dst
    (to_read p.given (λ i. search rules) d.ensures) (omega (arith, p.limit_in_bounds.0))

-- the steps from that plan
abbrev MadeAt : After-make_steps-made → Type 0
MadeAt c =
    let a = c.args in
    MadeOf a.tables.now a.limit a.allowed a.used a.list.now c.make_steps-made.new.list (arrays-after c) (fresh a.front) (drop a.front a.words.now) a.state c.make_steps-made.result

made_at : (c : After-make_steps-made) → MadeAt c
made_at c =
    let a = c.args in
    let p = c.requires in
    let d = c.load_words in
    c.make_steps-made.ensures.made (drop a.front a.words.now)
    (loaded-holding a.tables.now a.limit a.words.now a.old.now a.front a.state p.n_value.1 p.given a.own.now a.first.now a.second.now a.sizes.now (zeros most_words) d.new.dst
    (to_read p.given (λ i. search rules) d.ensures) (omega (arith, p.limit_in_bounds.0)))

fits-at : (c : After-make_steps-made) → Fits (arrays-after c) c.make_steps-made.result.reading
fits-at c = (reached (made_at c)).0

own_in : (c : After-make_steps-made) → c.make_steps-made.result.reading.count ≤ length (arrays-after c).own
own_in c = (fits-at c).nodes_in

first-in : (c : After-make_steps-made) → c.make_steps-made.result.reading.count ≤ length (arrays-after c).first
first-in c = let f = fits-at c in omega (arith, f.first_long, f.nodes_in)

second-in : (c : After-make_steps-made) → c.make_steps-made.result.reading.count ≤ length (arrays-after c).second
second-in c = let f = fits-at c in omega (arith, f.second_long, f.nodes_in)

-- The answers ---------------------------------------------------------------------------------------------------------------------------------

pub make_steps-made-requires : goal.make_steps-made-requires
make_steps-made-requires c =
    let k = (goal.at.make_steps-made-requires c).After-load_words in
    let p = c.requires.n_value in
    record { n_value = (p.0, p.1, p.2, p.3, p.4); fits = (arrays-fit k, record { some_plan = drop c.args.front c.args.words.now; holding = plan-loaded k }) }

pub slice_bounds-write_out-end : goal.slice_bounds-write_out-end
slice_bounds-write_out-end c = own_in (goal.at.slice_bounds-write_out-end c).After-make_steps-made

pub slice_bounds-write_out-end-2 : goal.slice_bounds-write_out-end-2
slice_bounds-write_out-end-2 c = sym (length-take-le _ _ (own_in (goal.at.slice_bounds-write_out-end-2 c).After-make_steps-made))

pub slice_bounds-write_out-end-3 : goal.slice_bounds-write_out-end-3
slice_bounds-write_out-end-3 c = first-in (goal.at.slice_bounds-write_out-end-3 c).After-make_steps-made

pub slice_bounds-write_out-end-4 : goal.slice_bounds-write_out-end-4
slice_bounds-write_out-end-4 c = sym (length-take-le _ _ (first-in (goal.at.slice_bounds-write_out-end-4 c).After-make_steps-made))

pub slice_bounds-write_out-end-5 : goal.slice_bounds-write_out-end-5
slice_bounds-write_out-end-5 c = second-in (goal.at.slice_bounds-write_out-end-5 c).After-make_steps-made

pub slice_bounds-write_out-end-6 : goal.slice_bounds-write_out-end-6
slice_bounds-write_out-end-6 c = sym (length-take-le _ _ (second-in (goal.at.slice_bounds-write_out-end-6 c).After-make_steps-made))

pub write_out-start-requires : goal.write_out-start-requires
write_out-start-requires c =
    let k = (goal.at.write_out-start-requires c).After-make_steps-made in
    let p = c.requires in
    let f = fits-at k in
    let h = (reached (made_at k)).1 in
    record {
      nodes = (nodes_in_use (arrays-after k) c.make_steps-made.result.reading f, plan_held c.args.tables.now c.args.limit (arrays-after k) c.make_steps-made.result.reading h.some_plan p.n_value.1 h.holding p.n_value.2);
      stack_len = (f.stack_long, f.todo_long, p.given.long, f.rest_in);
    }

pub slice_bounds-put_redex-end : goal.slice_bounds-put_redex-end
slice_bounds-put_redex-end c = own_in (goal.at.slice_bounds-put_redex-end c).After-make_steps-made

pub slice_bounds-put_redex-end-then-remaining-allowed : goal.slice_bounds-put_redex-end-then-remaining-allowed
slice_bounds-put_redex-end-then-remaining-allowed c =
    sym (length-take-le _ _ (own_in (goal.at.slice_bounds-put_redex-end-then-remaining-allowed c).After-make_steps-made))

pub slice_bounds-put_redex-end-then-remaining-allowed-2 : goal.slice_bounds-put_redex-end-then-remaining-allowed-2
slice_bounds-put_redex-end-then-remaining-allowed-2 c = first-in (goal.at.slice_bounds-put_redex-end-then-remaining-allowed-2 c).After-make_steps-made

pub slice_bounds-put_redex-end-then-remaining-allowed-3 : goal.slice_bounds-put_redex-end-then-remaining-allowed-3
slice_bounds-put_redex-end-then-remaining-allowed-3 c =
    sym (length-take-le _ _ (first-in (goal.at.slice_bounds-put_redex-end-then-remaining-allowed-3 c).After-make_steps-made))

pub slice_bounds-put_redex-end-then-remaining-allowed-4 : goal.slice_bounds-put_redex-end-then-remaining-allowed-4
slice_bounds-put_redex-end-then-remaining-allowed-4 c = second-in (goal.at.slice_bounds-put_redex-end-then-remaining-allowed-4 c).After-make_steps-made

pub slice_bounds-put_redex-end-then-remaining-allowed-5 : goal.slice_bounds-put_redex-end-then-remaining-allowed-5
slice_bounds-put_redex-end-then-remaining-allowed-5 c =
    sym (length-take-le _ _ (second-in (goal.at.slice_bounds-put_redex-end-then-remaining-allowed-5 c).After-make_steps-made))

pub put_redex-requires : goal.put_redex-requires
put_redex-requires c =
    let k = (goal.at.put_redex-requires c).After-make_steps-made in
    let p = c.requires in
    let f = fits-at k in
    -- some steps were made
    let h = steps-made (made_at k) c.if-remaining-allowed.true in
    record {
      nodes = (nodes_in_use (arrays-after k) c.make_steps-made.result.reading f, redex_of h p.n_value.1);
      stack_len = (c.write_out-start.auto.stack ∙ f.stack_long, p.given.old_long, omega (arith, p.n_value.2, old_short h));
    }

pub returns : goal.returns
returns c =
    let k = (goal.at.returns c).After-make_steps-made in
    let w = c.write_out-start in
    let s = c.make_steps-made in
    let a = c.args in
    let p = c.requires in
    let g = p.given in
    let j = c.if-remaining-allowed in
    let nodes : a.limit + 256 ≤ length (arrays-after k).own = omega (arith, p.limit_in_bounds.0, s.auto.own) in
    -- the words that the last step took away, whether steps were made or not
    let old_at : OldOf a.allowed (in_use (arrays-after k) s.result.reading.count) s.result a.old.now j.old =
    elim j.branch [ then-remaining-allowed w ↦ rw w.old-is (put_old w.if-remaining-allowed.true w.put_redex.ensures w.put_redex.auto.old) | else-remaining-allowed w ↦ same_old w.if-remaining-allowed.false w.old-is ] in
    round a.tables.now a.limit a.allowed a.used a.words.now a.old.now a.list.now a.front a.state p.n_value.1 g p.n_value.3 (arrays-after k) nodes s.result w.new.dst s.new.list w.result (w.auto.dst ∙ g.long) w.ensures j.old old_at p.n_value.2 (made_at k)

-- A round: the plan given is what the graph holds at first, and the plan that it holds at last stands in the array of words again.
use Prim.Native.Nat.{ℕ, ◌+◌, ◌-◌, ◌≤◌, ◌<◌}
use native.Mathlib.Omega.{arith}
use mathlib.Core.Path.{◌≡◌, refl, sym, ◌∙◌, ap}
use mathlib.Core.List.{List, [], ◌++◌, append-nil}
use lib.ListN.{length, take, drop, length-append, length-drop}
use lib.Seq.{length-take-le}
use borrow.Author.Tests.{ne_eqb}
use Rattle.areas.specs.declared.StepState.{StepState}
use Rattle.areas.specs.Area.{overwrite, most_words}
use Rattle.areas.specs.Storing.{before}
use Rattle.areas.proofs.Area.{overwrite_none}
use Rattle.tables.specs.Tables.{Tables, actions}
use Rattle.tables.specs.Lawful.{Lawful}
use Rattle.tables.specs.Search.{first_from}
use Rattle.plans.specs.Term.{Term, words}
use Rattle.plans.specs.Stack.{spell, stacked}
use Rattle.rewritings.specs.Moves.{Move, bytes_of}
use Rattle.rewritings.specs.Choice.{next_step}
use Rattle.graph.specs.Graph.{Graph, Holds, held_none, ToRead, Nodes, most_nodes}
use Rattle.graph.proofs.Reading.{holds-inside}
use Rattle.graphsteps.specs.declared.Reading.{Reading}
use Rattle.graphsteps.specs.Holding.{Arrays, arrays, in_use, Fits, Holding, SomePlan, CutOf}
use Rattle.rewritings.specs.Runs.{run}
use Rattle.rounds.specs.Rounds.{Given, PlanOf, WroteOut, RedexOf, RedexIn, RoundEnd, run_over, another, RoundOf}
use Rattle.recording.specs.Recording.{Counted, EndOf, run_ends, no_node, MadeOf, none_made, some_made}
use Rattle.recording.specs.declared.Ending.{Ending}
use Rattle.recording.specs.declared.StepsMade.{StepsMade}
use Rattle.rounds.specs.declared.Round.{Round}

-- The plan loaded -----------------------------------------------------------------------------------------------------------------------------

-- before the first entry
abbrev pub fresh : ℕ → Reading
fresh front = record { height = 0; rest = front; count = 256; read = 0; size = most_words - front }

-- there is no node yet
no_node_yet : {n : ℕ} {g : Graph} {v : ℕ} {u : Term} → length g.own ≡ 256 → n ≤ 31 → 256 ≤ v → Holds n g v u → ⊥
no_node_yet long few i h = omega (arith, holds-inside h few i)

-- how long the plan given is
pub plan-long : {t : Tables} {c : ℕ} {ws old : List ℕ} {front : ℕ} {s : StepState} → Given t c ws old front s → front + length (drop front ws) ≡ most_words
plan-long {ws = ws} {front = front} d = omega (arith, length-drop front ws, d.long, d.front_in)

module _ (t : Tables) (c : ℕ) (ws old : List ℕ) (front : ℕ) (s : StepState) (ok : Lawful t) (d : Given t c ws old front s)
    (own first second sizes stack todo : List ℕ) (h : (n : ℕ) (g : Graph) → ToRead n g (drop front todo) (drop front ws)) where
  pub loaded-holding : 256 ≤ length own → Holding t c (arrays own first second sizes stack todo) (fresh front) (drop front ws)
  unfolding next_step first_from spell stacked
  loaded-holding long =
      let few = length-take-le 256 own long in
      record {
        terms = [];
        behind = drop front ws;
        held = held_none;
        to_read = h (actions t) (in_use (arrays own first second sizes stack todo) 256);
        plan = refl;
        read_is = refl;
        size_is = omega (arith, plan-long d);
        accepted = d.accepted;
        short = d.kept.short;
        quiet = refl;
        nodes_hold = λ v i l. absurd (omega arith);
        nodes_quiet = λ v u i l. absurd (no_node_yet few ok.well_formed.few_actions i l);
        nodes_sized = λ v u i l. absurd (no_node_yet few ok.well_formed.few_actions i l);
      }

  pub loaded-fits : 256 ≤ length own → length own ≤ most_nodes → length first ≡ length own → length second ≡ length own → length sizes ≡ length own → length stack ≡ most_words → length todo ≡ most_words
      → Fits (arrays own first second sizes stack todo) (fresh front)
  loaded-fits l a b e f i g =
      record {
        own_most = a;
        first_long = b;
        second_long = e;
        sizes_long = f;
        stack_long = i;
        todo_long = g;
        some_nodes = omega arith;
        nodes_in = l;
        rest_in = d.front_in;
      }

-- The plan reached ----------------------------------------------------------------------------------------------------------------------------

pub nodes_in_use : (m : Arrays) (p : Reading) → Fits m p → Nodes (in_use m p.count)
nodes_in_use m p f =
    let k = p.count in
    let a = length-take-le k m.own f.nodes_in in
    record {
      first_long = length-take-le k m.first (omega (arith, f.first_long, f.nodes_in)) ∙ sym a;
      second_long = length-take-le k m.second (omega (arith, f.second_long, f.nodes_in)) ∙ sym a;
      most = omega (arith, a, f.nodes_in, f.own_most);
    }

module _ (t : Tables) (c : ℕ) (m : Arrays) (p : Reading) (w : List ℕ) (ok : Lawful t) (h : Holding t c m p w) where
  pub plan_held : c ≤ most_words → PlanOf (in_use m p.count) m.stack p.height m.todo p.rest
  plan_held most =
      record {
        n = actions t;
        few = ok.well_formed.few_actions;
        terms = h.terms;
        behind = h.behind;
        held = h.held;
        to_read = h.to_read;
        short = rw (← h.plan) (omega (arith, h.short));
      }

  pub plan-out : (dst : List ℕ) (r : ℕ) → WroteOut (in_use m p.count) m.stack p.height m.todo p.rest dst r → (drop r dst ≡ w) × (r + length w ≡ most_words)
  plan-out dst r o = rw h.plan (o.wrote (actions t) h.terms h.behind ok.well_formed.few_actions h.held h.to_read)

-- the nodes and the plan after the steps, whether some were made or not
pub reached : {t : Tables} {c allowed used : ℕ} {list list' : List ℕ} {m' : Arrays} {p : Reading} {w : List ℕ} {s : StepState} {r : StepsMade}
    → MadeOf t c allowed used list list' m' p w s r → Fits m' r.reading × SomePlan t c m' r.reading
reached {w} (none_made e a u q f h l i) = (f, record { some_plan = w; holding = h })
reached (some_made v' w' ms n q u l f h k i runs j) = (f, record { some_plan = w'; holding = h })

-- some steps were made, and the last of them took the plan v to w'
pub record Steps (t : Tables) (c allowed used : ℕ) (list list' : List ℕ) (m' : Arrays) (w : List ℕ) (s : StepState) (r : StepsMade) : Type 0 where
  pub v : List ℕ
  pub w' : List ℕ
  pub ms : List Move
  pub counted : Counted s allowed r.state r.allowed r.cut
  pub records : list' ≡ overwrite list used (bytes_of ms)
  pub used_is : r.used ≡ used + length (bytes_of ms)
  pub used_low : r.used ≤ length list
  pub fits : Fits m' r.reading
  pub holding : Holding t c m' r.reading w'
  pub cut : CutOf (actions t) (in_use m' r.reading.count) r.cut v w'
  pub short : length v ≤ c
  pub runs : (v₀ : List ℕ) (r₀ : List Move) → run t c allowed (length list - used) s.steps w v₀ r₀ ≡ run t c r.allowed (length list - r.used) r.state.steps w' v (r₀ ++ ms)
  pub ended : EndOf t c r.allowed (length list - r.used) m' r.reading w' r.ending

module _ {t : Tables} {c allowed used : ℕ} {list list' : List ℕ} {m' : Arrays} {w : List ℕ} {s : StepState} {r : StepsMade} where
  pub steps-made : {p : Reading} → MadeOf t c allowed used list list' m' p w s r → r.allowed < allowed → Steps t c allowed used list list' m' w s r
  steps-made (none_made e a u q f h l i) some = absurd (omega arith)
  steps-made (some_made v w' ms n q u l f h k i runs j) some =
      record { v = v; w' = w'; ms = ms; counted = n; records = q; used_is = u; used_low = l; fits = f; holding = h; cut = k; short = i; runs = runs; ended = j }

  module _ (h : Steps t c allowed used list list' m' w s r) where
    pub old_short : r.cut.old ≤ c
    old_short =
        let k = h.cut in
        let front = take r.cut.at h.w' in
        let tail = drop (r.cut.at + r.cut.new) h.w' in
        omega (arith, ap length k.put_back, length-append front (words k.redex ++ tail), length-append (words k.redex) tail, k.old_is, h.short)

    pub redex_of : Lawful t → RedexOf (in_use m' r.reading.count) r.cut
    redex_of ok = record { n = actions t; few = ok.well_formed.few_actions; redex = h.cut.redex; root = h.cut.root; old_is = h.cut.old_is }

-- the words that the last step took away stand in their area where steps were made; else the area is as it was
pub data OldOf (allowed : ℕ) (g : Graph) (r : StepsMade) (old old' : List ℕ) : Type 0 where
  put_old : r.allowed < allowed → RedexIn g r.cut old' → length old' ≡ length old → OldOf allowed g r old old'
  same_old : allowed ≤ r.allowed → old' ≡ old → OldOf allowed g r old old'

pub old_long : {allowed : ℕ} {g : Graph} {r : StepsMade} {old old' : List ℕ} → OldOf allowed g r old old' → length old' ≡ length old
old_long (put_old i x l) = l
old_long (same_old i e) = ap length e

-- The round ----------------------------------------------------------------------------------------------------------------------------------

-- what a round answers, with the plan reached from place `start` on
abbrev pub round_of : StepsMade → ℕ → Round
round_of r start =
    record { front = start; state = r.state; allowed = r.allowed; used = r.used; ending = r.ending }

module _ (t : Tables) (c allowed used : ℕ) (ws old list : List ℕ) (front : ℕ) (s : StepState) (ok : Lawful t) (d : Given t c ws old front s)
    (low : used ≤ length list) (m' : Arrays) (nodes : c + 256 ≤ length m'.own) (r : StepsMade) (ws' list' : List ℕ) (start : ℕ) (long : length ws' ≡ most_words)
    (out : WroteOut (in_use m' r.reading.count) m'.stack r.reading.height m'.todo r.reading.rest ws' start) where
  abbrev w : List ℕ
  w = drop front ws

  -- no step was made: then nodes are left, since at most as many are in use as entries were read
  end_none : r.reading.count + front ≤ 256 + r.reading.rest → {e : Ending} → EndOf t c allowed (length list - used) m' r.reading w e
      → RoundEnd t c allowed allowed (length list - used) w e
  end_none few (run_ends stop e) = run_over stop e
  end_none few (no_node all more) = absurd (omega (arith, plan-long d, d.kept.short))

  round_none : r.state ≡ s → r.allowed ≡ allowed → r.used ≡ used → list' ≡ list → Holding t c m' r.reading w → r.reading.count + front ≤ 256 + r.reading.rest
      → EndOf t c allowed (length list - used) m' r.reading w r.ending
      → RoundOf t c allowed used ws old list ws' old list' front s (round_of r start)
  unfolding bytes_of
  round_none e₁ e₂ e₃ same h few end =
      let p = plan-out t c m' r.reading w ok h ws' start out in
      record {
        ms = [];
        given =
            record {
              long = long;
              old_long = d.old_long;
              front_in = omega (arith, p.1);
              accepted = rw p.0 d.accepted;
              kept = rw (p.0, e₁) d.kept;
            };
        records = same ∙ sym (overwrite_none list used);
        used_is = omega arith;
        used_low = omega (arith, low);
        count = omega (arith, ap (λ (z : StepState). z.steps) e₁);
        runs = λ r₀. rw (p.0, e₁, e₂, e₃, append-nil r₀);
        ended = rw (p.0, e₂, e₃) (end_none few end);
      }

  -- some steps were made
  end_some : r.allowed < allowed → {v : List ℕ} {e : Ending} → EndOf t c r.allowed (length list - r.used) m' r.reading v e
      → RoundEnd t c allowed r.allowed (length list - r.used) v e
  end_some fewer (run_ends stop e) = run_over stop e
  end_some fewer (no_node all more) = another fewer

  round_some : (old' : List ℕ) → length old' ≡ most_words → RedexIn (in_use m' r.reading.count) r.cut old' → c ≤ most_words
      → Steps t c allowed used list list' m' w s r → RoundOf t c allowed used ws old list ws' old' list' front s (round_of r start)
  unfolding before
  round_some old' old_long redex most h =
      let k = h.cut in
      let n = h.counted in
      let p = plan-out t c m' r.reading h.w' ok h.holding ws' start out in
      let b : before r.state h.w' old' ≡ h.v =
      rw (ne_eqb r.state.steps 0 (λ q. omega (arith, n.fewer, n.count)), n.at_is, n.old_is, n.new_is, redex.redex_in (actions t) k.redex ok.well_formed.few_actions k.root) (sym k.put_back) in
      record {
        ms = h.ms;
        given =
            record {
              long = long;
              old_long = old_long;
              front_in = omega (arith, p.1);
              accepted = rw p.0 h.holding.accepted;
              kept =
                  rw p.0 (
                  record {
                    undoable =
                        record {
                          old_in = omega (arith, n.old_is, old_short h);
                          new_in = omega (arith, n.at_is, n.new_is, k.inside);
                          before_fits = rw b h.short;
                        };
                    short = h.holding.short;
                    parity = n.parity d.kept.parity;
                  }
                  );
            };
        records = h.records;
        used_is = h.used_is;
        used_low = h.used_low;
        count = n.count;
        runs = λ r₀. rw (p.0, b) (h.runs (before s w old) r₀);
        ended = rw p.0 (end_some n.fewer h.ended);
      }

  pub round : (old' : List ℕ) → OldOf allowed (in_use m' r.reading.count) r old old' → c ≤ most_words → MadeOf t c allowed used list list' m' (fresh front) w s r
      → RoundOf t c allowed used ws old list ws' old' list' front s (round_of r start)
  round old' (same_old i e) most (none_made e₁ e₂ e₃ same f h few end) = rw e (round_none e₁ e₂ e₃ same h few end)
  round old' (same_old i e) most (some_made v w' ms n q u l f h k j runs end) = absurd (omega (arith, n.fewer))
  round old' (put_old i x l) most h = round_some old' (l ∙ d.old_long) x most (steps-made h i)

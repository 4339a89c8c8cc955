-- An entry that stands for a term is read: it goes on the stack.
use Prim.Native.Nat.{ℕ, ◌+◌, ◌≤◌, ◌<◌}
use native.Mathlib.Omega.{arith}
use mathlib.Core.Path.{◌≡◌, refl, sym, ◌∙◌, ap}
use mathlib.Core.List.{List, ◌∷◌, ◌++◌, append_assoc}
use mathlib.Core.Option.{none}
use lib.ListN.{length, get_or, drop, set, length-append, length-set}
use lib.Seq.{length-take-le}
use Rattle.tables.specs.Tables.{Tables, actions}
use Rattle.tables.specs.Lawful.{Lawful}
use Rattle.plans.specs.Term.{Term, words}
use Rattle.plans.specs.Stack.{spell}
use Rattle.plans.proofs.Reading.{OverAll}
use Rattle.plans.proofs.Stack.{stacked-push}
use Rattle.graph.specs.Graph.{Graph, Holds, leaf, one, two, Held, held_none, held_more}
use Rattle.graph.proofs.Terms.{holds-over}
use Rattle.graph.proofs.Reading.{holds-inside, written-long, sized-holds}
use Rattle.rewritings.specs.Choice.{next_step}
use Rattle.rewritings.proofs.Quiet.{quiet-push, quiet-action}
use Rattle.graphsteps.specs.declared.Reading.{Reading}
use Rattle.graphsteps.specs.declared.NextEntry.TheVariants.{Read}
use Rattle.graphsteps.specs.Holding.{Arrays, arrays, in_use, Fits, Holding, after_term, Advanced, went_on}
use Rattle.graphsteps.proofs.Entries.{First, first_entry, TermAt, node-term}
use Rattle.graphsteps.proofs.Redexes.{stack_long}
use Rattle.areas.specs.Area.{most_words}

pub held-over : {n : ℕ} {g : Graph} {vs : List ℕ} {us : List Term} → Held n g vs us → OverAll n us
held-over held_none = tt
held-over (held_more h k) = (holds-over h, held-over k)

-- a plan under work, and the entry to read
module _ (t : Tables) (ok : Lawful t) (c : ℕ) (most : c ≤ most_words) (m : Arrays) (p : Reading) (fits : Fits m p) (more : p.rest < most_words) (w : List ℕ) (h : Holding t c m p w) where
  abbrev n : ℕ
  n = actions t

  abbrev g : Graph
  g = in_use m p.count

  abbrev v : ℕ
  v = get_or m.todo p.rest 0

  few : actions t ≤ 31
  few = ok.well_formed.few_actions

  pub next-entry : First (actions t) (in_use m p.count) (get_or m.todo p.rest 0) (drop (p.rest + 1) m.todo) h.behind
  next-entry = first_entry m.todo p.rest (omega (arith, fits.todo_long)) h.to_read

  -- every term in the graph is free of redexes
  quiet-holds : {x : ℕ} {u : Term} → Holds n g x u → next_step t (words u) ≡ none
  unfolding words
  quiet-holds (leaf {a} l) = quiet-action t few a l
  quiet-holds (one {v = x} {o} i j e k l) = h.nodes_quiet x _ i (one {o = o} i j e k l)
  quiet-holds (two {v = x} {o} i j e k l) = h.nodes_quiet x _ i (two {o = o} i j e k l)

  -- there is room on the stack
  pub some_room : (p.height < most_words) × (p.read < most_words)
  some_room =
      let f = next-entry in
      let a = stack_long m.stack p.height h.held in
      omega (arith, a, h.short, ap length h.plan, length-append (spell h.terms) h.behind, h.read_is, ap length f.both, length-append f.said f.later, written-long f.written)

  module _ (k : TermAt (actions t) (in_use m p.count) (get_or m.todo p.rest 0) next-entry.said) where
    abbrev pub after_read : Arrays
    after_read = arrays m.own m.first m.second m.sizes (set m.stack p.height v) m.todo

    holding : Holding t c after_read (after_term m.sizes p v) w
    unfolding spell
    holding =
        let f = next-entry in
        record {
          terms = k.term ∷ h.terms;
          behind = f.later;
          held =
              rw (stacked-push m.stack p.height v (omega (arith, some_room, fits.stack_long)))
              (held_more k.holds h.held);
          to_read = f.rest;
          plan =
              h.plan ∙ ap (λ (l : List ℕ). spell h.terms ++ l) (f.both ∙ ap (λ (l : List ℕ). l ++ f.later) k.its_words)
              ∙ sym (append_assoc (spell h.terms) (words k.term) f.later);
          read_is = omega (arith, h.read_is, sized-holds m.sizes h.nodes_sized k.holds few, length-append (spell h.terms) (words k.term));
          size_is = h.size_is;
          accepted = h.accepted;
          short = h.short;
          quiet = quiet-push t few h.terms k.term (held-over h.held) (holds-over k.holds) h.quiet (quiet-holds k.holds);
          nodes_hold = h.nodes_hold;
          nodes_quiet = h.nodes_quiet;
          nodes_sized = h.nodes_sized;
        }

    pub term-read : (allowed room : ℕ) → Advanced t c allowed room m after_read p w (Read (after_term m.sizes p v))
    term-read allowed room =
        went_on (after_term m.sizes p v)
        (record {
          own_most = fits.own_most;
          first_long = fits.first_long;
          second_long = fits.second_long;
          sizes_long = fits.sizes_long;
          stack_long = length-set m.stack p.height v ∙ fits.stack_long;
          todo_long = fits.todo_long;
          some_nodes = fits.some_nodes;
          nodes_in = fits.nodes_in;
          rest_in = omega arith;
        })
        holding refl (omega arith) (λ j x d. d)

  -- a node that is to be read is one of those in use
  pub node-inside : 256 ≤ get_or m.todo p.rest 0 → get_or m.todo p.rest 0 < length m.own
  node-inside l =
      let k = node-term l next-entry.written in
      omega (arith, holds-inside k.holds few l, length-take-le p.count m.own fits.nodes_in, fits.nodes_in)

-- A sign at which no law fits is read: with its operands it becomes a node, which goes on the stack.
use Prim.Native.Nat.{ℕ, ◌+◌, ◌≤◌, ◌<◌}
use native.Mathlib.Omega.{arith}
use native.Mathlib.Numerals.{add-one}
use mathlib.Core.Path.{◌≡◌, refl, sym, ◌∙◌, ap, subst}
use mathlib.Core.List.{List, [], ◌∷◌, ◌++◌, append_assoc}
use mathlib.Core.Logic.{◌⊎◌, inl, inr}
use mathlib.Core.Bool.{Bool, true, false}
use mathlib.Core.Option.{none}
use lib.ListN.{length, get_or, take, drop, set, length-append, length-set}
use lib.Dec.{eqb}
use borrow.Author.Tests.{eqb-true, eqb-false}
use lib.Seq.{take-suc-set, length-take-le, get_or-set_same, get_or-set_other}
use Rattle.tables.specs.Tables.{Tables, actions}
use Rattle.tables.specs.Lawful.{Lawful}
use Rattle.plans.specs.Term.{Term, words}
use Rattle.plans.specs.Stack.{spell}
use Rattle.plans.proofs.Reading.{OverAll}
use Rattle.plans.proofs.Stack.{stacked-push}
use Rattle.rewritings.specs.Roots.{first_law}
use Rattle.graph.specs.Graph.{Graph, Holds, held_more}
use Rattle.graph.proofs.Terms.{holds_same, root_over}
use Rattle.graph.proofs.Growing.{grown, holds-grown, root-grown, held_grown, to_read-grown, holds_new, grown_split}
use Rattle.laws.specs.Laws.{first_choice, choices}
use Rattle.rewritings.specs.Choice.{next_step}
use Rattle.rewritings.proofs.Quiet.{quiet-last, next_none}
use Rattle.graphsteps.specs.declared.Reading.{Reading}
use Rattle.graphsteps.specs.declared.Operands.{Operands}
use Rattle.graphsteps.specs.declared.NextEntry.TheVariants.{Read}
use Rattle.graphsteps.specs.Holding.{Arrays, arrays, in_use, Fits, Holding, after_sign, size_under, Advanced, went_on}
use Rattle.graphsteps.proofs.Entries.{First, sign_word}
use Rattle.graphsteps.proofs.Redexes.{Redex, redex-long, stack_long}
use Rattle.graphsteps.proofs.Terms.{held-over, next-entry, some_room}
use Rattle.areas.specs.Area.{most_words}

-- one entry more of an array is in use
take-set : (l : List ℕ) (k x : ℕ) → k < length l → take (k + 1) (set l k x) ≡ take k l ++ (x ∷ [])
take-set l k x h = rw (add-one k) (take-suc-set l k x h)

module _ (t : Tables) (ok : Lawful t) (c : ℕ) (most : c ≤ most_words) (m : Arrays) (p : Reading) (fits : Fits m p) (more : p.rest < most_words) (w : List ℕ) (h : Holding t c m p w)
    (sign : get_or m.todo p.rest 0 < 256) (r : Operands) (x : Redex (actions t) (in_use m p.count) (get_or m.todo p.rest 0) m.stack h.terms r) where
  abbrev n : ℕ
  n = actions t

  abbrev v : ℕ
  v = get_or m.todo p.rest 0

  few : actions t ≤ 31
  few = ok.well_formed.few_actions

  pub f : First (actions t) (in_use m p.count) (get_or m.todo p.rest 0) (drop (p.rest + 1) m.todo) h.behind
  f = next-entry t ok c most m p fits more w h

  over : OverAll (actions t) (x.term ∷ x.under)
  over = (root_over x.root, held-over x.held)

  -- the plan, by the term at the sign
  pub plan_at : w ≡ spell (x.term ∷ x.under) ++ f.later
  plan_at =
      h.plan ∙ ap (λ (l : List ℕ). spell h.terms ++ l) (f.both ∙ ap (λ (l : List ℕ). l ++ f.later) (sign_word sign f.written))
      ∙ sym (append_assoc (spell h.terms) (v ∷ []) f.later) ∙ ap (λ (l : List ℕ). l ++ f.later) x.reads

  pub redex-size : size_under m.sizes v r ≡ length (words x.term)
  redex-size = redex-long few m.sizes h.nodes_sized v r x.root

  -- lengths
  pub long-before : length w ≡ length (spell x.under) + (length (words x.term) + length f.later)
  unfolding spell
  long-before =
      omega (arith, ap length plan_at, length-append (spell (x.term ∷ x.under)) f.later, length-append (spell x.under) (words x.term))

  pub long-read : p.read + 1 ≡ length (spell x.under) + length (words x.term)
  unfolding spell
  long-read =
      omega (arith, h.read_is, ap length x.reads, length-append (spell h.terms) (v ∷ []), length-append (spell x.under) (words x.term))

  pub old_small : (size_under m.sizes v r ≤ p.size) × (size_under m.sizes v r ≤ p.read + 1)
  old_small = omega (arith, redex-size, long-before, long-read, h.size_is)

  pub height-under : r.under < most_words
  height-under =
      let a = stack_long m.stack r.under x.held in
      let b = some_room t ok c most m p fits more w h in
      omega (arith, a, b, h.read_is, ap length x.splits, length-append (spell x.under) x.more)

  -- no law fits there
  module _ (count_in : p.count < length m.own) (none_fits : first_law t first_choice choices x.term ≡ none) where
    abbrev pub after : Arrays
    after =
        arrays (set m.own p.count v) (set m.first p.count r.a) (set m.second p.count r.b)
        (set m.sizes p.count (size_under m.sizes v r)) (set m.stack r.under p.count) m.todo

    abbrev own : List ℕ
    own = take p.count m.own

    abbrev first : List ℕ
    first = take p.count m.first

    abbrev second : List ℕ
    second = take p.count m.second

    own-long : length own ≡ p.count
    own-long = length-take-le p.count m.own (omega arith)

    first_long : length first ≡ length own
    first_long = omega (arith, own-long, length-take-le p.count m.first (omega (arith, fits.first_long)))

    second_long : length second ≡ length own
    second_long = omega (arith, own-long, length-take-le p.count m.second (omega (arith, fits.second_long)))

    abbrev more-nodes : Graph
    more-nodes = grown own first second v r.a r.b

    same_graph : in_use after (p.count + 1) ≡ more-nodes
    same_graph =
        rw (
          take-set m.own p.count v count_in,
          take-set m.first p.count r.a (omega (arith, fits.first_long)),
          take-set m.second p.count r.b (omega (arith, fits.second_long)),
        )

    -- the term at the sign is free of redexes
    quiet-here : next_step t (spell (x.term ∷ x.under)) ≡ none
    quiet-here = next_none t few x.under x.term over (spell h.terms) v x.reads h.quiet none_fits

    quiet-term : next_step t (words x.term) ≡ none
    quiet-term = quiet-last t few x.under x.term over.1 over.0 quiet-here

    new_holds : Holds n more-nodes p.count x.term
    new_holds =
        subst (λ (k : ℕ). Holds n more-nodes k x.term) own-long
        (holds_new own first second v r.a r.b first_long second_long (omega (arith, own-long, fits.some_nodes)) x.root)

    old_holds : (k : ℕ) → 256 ≤ k → k < p.count → (u : Term) × Holds n (in_use m p.count) k u × Holds n more-nodes k u
    old_holds k l u = let o = h.nodes_hold k l u in (o.0, o.1, holds-grown own first second v r.a r.b first_long second_long o.1)

    -- what holds of the new node's term and of all old ones holds of all
    each : (P : ℕ → Term → Type 0) → P p.count x.term → ((k : ℕ) (u : Term) → 256 ≤ k → k < p.count → Holds n (in_use m p.count) k u → P k u)
        → (k : ℕ) (u : Term) → 256 ≤ k → Holds n more-nodes k u → P k u
    each P new old k u l q = go (grown_split own first second v r.a r.b l few q)
      where
        go : (k ≡ length own) ⊎ (k < length own) → P k u
        go (inl e) =
            let e' : k ≡ p.count = e ∙ own-long in
            let s : x.term ≡ u = holds_same n n few few more-nodes new_holds (subst (λ (j : ℕ). Holds n more-nodes j u) e' q) in
            subst (λ (j : ℕ). P j u) (sym e') (subst (P p.count) s new)
        go (inr e) =
            let o = old_holds k l (omega (arith, own-long)) in
            let s : o.0 ≡ u = holds_same n n few few more-nodes o.2 q in
            subst (P k) s (old k o.0 l (omega (arith, own-long)) o.1)

    node-there : (k : ℕ) → 256 ≤ k → k < p.count + 1 → (u : Term) × Holds n more-nodes k u
    node-there k l u = go (eqb k p.count) refl
      where
        go : (b : Bool) → eqb k p.count ≡ b → (u : Term) × Holds n more-nodes k u
        go true e = (x.term, subst (λ (j : ℕ). Holds n more-nodes j x.term) (sym (eqb-true k p.count e)) new_holds)
        go false e = let o = old_holds k l (omega (arith, eqb-false k p.count e)) in (o.0, o.2)

    right-size : (k : ℕ) (u : Term) → 256 ≤ k → Holds n more-nodes k u → get_or (set m.sizes p.count (size_under m.sizes v r)) k 0 ≡ length (words u)
    right-size =
        each (λ k u. get_or (set m.sizes p.count (size_under m.sizes v r)) k 0 ≡ length (words u))
        (get_or-set_same m.sizes p.count (size_under m.sizes v r) 0 (omega (arith, fits.sizes_long)) ∙ redex-size)
        (λ k u l s q. get_or-set_other m.sizes p.count k (size_under m.sizes v r) 0 (λ e. omega arith) ∙ h.nodes_sized k u l q)

    holding : Holding t c after (after_sign p r) w
    holding =
        record {
          terms = x.term ∷ x.under;
          behind = f.later;
          held =
              rw (same_graph, stacked-push m.stack r.under p.count (omega (arith, height-under, fits.stack_long)))
              (held_more new_holds (held_grown own first second v r.a r.b first_long second_long x.held));
          to_read = rw same_graph (to_read-grown own first second v r.a r.b first_long second_long f.rest);
          plan = plan_at;
          read_is = omega (arith, h.read_is, ap length x.reads, length-append (spell h.terms) (v ∷ []));
          size_is = h.size_is;
          accepted = h.accepted;
          short = h.short;
          quiet = quiet-here;
          nodes_hold = λ k l u. rw same_graph (node-there k l u);
          nodes_quiet = rw same_graph (each (λ k u. next_step t (words u) ≡ none) quiet-term (λ k u l s q. h.nodes_quiet k u l q));
          nodes_sized = rw same_graph right-size;
        }

    pub sign_read : (allowed room : ℕ) → Advanced t c allowed room m after p w (Read (after_sign p r))
    sign_read allowed room =
        let l = length-set m.own p.count v in
        went_on (after_sign p r)
        (record {
          own_most = omega (arith, l, fits.own_most);
          first_long = length-set m.first p.count r.a ∙ fits.first_long ∙ sym l;
          second_long = length-set m.second p.count r.b ∙ fits.second_long ∙ sym l;
          sizes_long = length-set m.sizes p.count (size_under m.sizes v r) ∙ fits.sizes_long ∙ sym l;
          stack_long = length-set m.stack r.under p.count ∙ fits.stack_long;
          todo_long = fits.todo_long;
          some_nodes = omega (arith, fits.some_nodes);
          nodes_in = omega (arith, l);
          rest_in = omega arith;
        })
        holding refl (omega arith)
        (λ k b d.
        rw same_graph
        (record {
          redex = d.redex;
          root = root-grown own first second v r.a r.b first_long second_long d.root;
          old_is = d.old_is;
          inside = d.inside;
          put_back = d.put_back;
        }))

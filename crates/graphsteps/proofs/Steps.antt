-- A step is made at a sign: the right side of its law is put before the entries still to read.
use Prim.Native.Nat.{ℕ, ◌+◌, ◌-◌, ◌≤◌, ◌<◌}
use native.Mathlib.Omega.{arith}
use mathlib.Core.Path.{◌≡◌, refl, sym, ◌∙◌, ap}
use mathlib.Core.List.{List, ◌∷◌, ◌++◌, append_assoc}
use mathlib.Core.Option.{some}
use lib.ListN.{length, get_or, take, drop, length-append, length-drop}
use lib.Seq.{take_at, drop_at}
use Rattle.areas.specs.Area.{overwrite, most_words}
use Rattle.areas.proofs.Area.{drop-overwrite, overwrite-length}
use Rattle.tables.specs.Tables.{Tables, actions}
use Rattle.tables.specs.Lawful.{Lawful}
use Rattle.plans.specs.Term.{Term, words}
use Rattle.plans.specs.Stack.{spell}
use Rattle.laws.proofs.Stepping.{step-alike}
use Rattle.rewritings.specs.Roots.{first_law}
use Rattle.redexes.specs.Slots.{entries_size}
use Rattle.graph.specs.Graph.{Graph, Holds, ToRead, read_none, read_more}
use Rattle.graph.proofs.Terms.{root_over}
use Rattle.graph.proofs.Reading.{to_read-append, to_read-long, sized-written}
use Rattle.laws.specs.Laws.{first_choice, choices, highest_law}
use Rattle.rewritings.specs.Choice.{Found, next_step}
use Rattle.rewritings.proofs.Choosing.{next-taken}
use Rattle.rewritings.proofs.Prefixes.{quiet-fewer}
use Rattle.rewritings.proofs.Quiet.{next_found}
use Rattle.graphsteps.specs.declared.Reading.{Reading}
use Rattle.graphsteps.specs.declared.Cut.{Cut}
use Rattle.graphsteps.specs.declared.Operands.{Operands}
use Rattle.graphsteps.specs.declared.NextEntry.TheVariants.{Step}
use Rattle.graphsteps.specs.Holding.{Arrays, arrays, in_use, Fits, Holding, CutOf, size_under, NotMade, none_allowed, list_full, too_long, Advanced, stepped}
use Rattle.graphsteps.proofs.Redexes.{Redex}
use Rattle.graphsteps.proofs.Terms.{held-over}
use Rattle.graphsteps.proofs.Signs as Signs
use Rattle.graphsteps.proofs.Signs.{f, plan_at, redex-size}

-- entries come to as many words as they are written as
sizes-right : {n : ℕ} {g : Graph} (sizes : List ℕ) → ((v : ℕ) (u : Term) → 256 ≤ v → Holds n g v u → get_or sizes v 0 ≡ length (words u)) → {vs ws : List ℕ}
    → ToRead n g vs ws → entries_size sizes vs ≡ length ws
unfolding entries_size
sizes-right sizes right read_none = refl
sizes-right sizes right (read_more {w = w} {ws = ws} h k) = omega (arith, sized-written sizes right h, sizes-right sizes right k, length-append w ws)

module _ (t : Tables) (ok : Lawful t) (c : ℕ) (most : c ≤ most_words) (m : Arrays) (p : Reading) (fits : Fits m p) (more : p.rest < most_words) (w : List ℕ) (h : Holding t c m p w)
    (sign : get_or m.todo p.rest 0 < 256) (r : Operands) (x : Redex (actions t) (in_use m p.count) (get_or m.todo p.rest 0) m.stack h.terms r)
    (k : ℕ) (u : Term) (chosen : first_law t first_choice choices x.term ≡ some (k, u)) (high : k ≤ highest_law) (side : List ℕ) (written : ToRead (actions t) (in_use m p.count) side (words u)) where
  abbrev n : ℕ
  n = actions t

  abbrev v : ℕ
  v = get_or m.todo p.rest 0

  few : actions t ≤ 31
  few = ok.well_formed.few_actions

  abbrev later : List ℕ
  later = (f t ok c most m p fits more w h sign r x).later

  -- the plan, and the next one
  abbrev before : w ≡ spell (x.term ∷ x.under) ++ later
  before = plan_at t ok c most m p fits more w h sign r x

  abbrev next : List ℕ
  next = spell x.under ++ (words u ++ later)

  abbrev step : Found
  step = record { law = k; place = length (spell h.terms); plan = next }

  found : next_step t w ≡ some step
  found =
      ap (λ (l : List ℕ). next_step t l) before
      ∙ next_found t few x.under x.term (root_over x.root, held-over x.held) (spell h.terms) v x.reads h.quiet k u chosen later

  -- lengths
  long-before : length w ≡ length (spell x.under) + (length (words x.term) + length later)
  long-before = Signs.long-before t ok c most m p fits more w h sign r x

  long-read : p.read + 1 ≡ length (spell x.under) + length (words x.term)
  long-read = Signs.long-read t ok c most m p fits more w h sign r x

  long-next : length next ≡ length (spell x.under) + (length (words u) + length later)
  long-next = omega (arith, length-append (spell x.under) (words u ++ later), length-append (words u) later)

  -- it is not made, for want of allowance or of room in the list
  pub not_allowed : (allowed room : ℕ) → allowed ≡ 0 → NotMade t c allowed room w 34
  not_allowed allowed room e = none_allowed step found e

  pub no_room : (allowed room : ℕ) → 1 ≤ allowed → room < 3 → NotMade t c allowed room w 35
  no_room allowed room l i = list_full step found l i

  module _ (new : ℕ) (NewIs : new ≡ entries_size m.sizes side) where
    long_new : new ≡ length (words u)
    long_new = NewIs ∙ sizes-right m.sizes h.nodes_sized written

    next-size : length next ≡ p.size - size_under m.sizes v r + new
    next-size = let e = redex-size t ok c most m p fits more w h sign r x in omega (arith, e, long-before, long-next, long_new, h.size_is)

    -- or because the next plan is too long
    pub over-long : (allowed room : ℕ) → 1 ≤ allowed → 3 ≤ room → c < p.size - size_under m.sizes v r + new → NotMade t c allowed room w 36
    over-long allowed room l i q = too_long step found l i (rw next-size q)

  module _ (new : ℕ) (NewIs : new ≡ entries_size m.sizes side) (short : p.size - size_under m.sizes v r + new ≤ c) where
    fits_c : length next ≤ c
    fits_c = rw (next-size new NewIs) short

    -- there is room for the right side before the entries still to read
    pub side-room : length side ≤ p.rest + 1
    side-room =
        let a = to_read-long (f t ok c most m p fits more w h sign r x).rest in
        omega (arith, a, to_read-long written, fits_c, long-next, length-drop (p.rest + 1) m.todo, fits.todo_long)

    module _ (front : ℕ) (where_front : front + length side ≡ p.rest + 1) where
      abbrev pub after : Arrays
      after = arrays m.own m.first m.second m.sizes m.stack (overwrite m.todo front side)

      abbrev pub next_reading : Reading
      next_reading =
          record {
            height = r.under;
            rest = front;
            count = p.count;
            read = p.read + 1 - size_under m.sizes v r;
            size = p.size - size_under m.sizes v r + new;
          }

      abbrev pub cut : Cut
      cut =
          record {
            at = p.read + 1 - size_under m.sizes v r;
            old = size_under m.sizes v r;
            new = new;
            word = v;
            a = r.a;
            b = r.b;
          }

      at_is : p.read + 1 - size_under m.sizes v r ≡ length (spell x.under)
      at_is = let e = redex-size t ok c most m p fits more w h sign r x in omega (arith, e, long-read)

      -- the plan before is the next plan with the term at the sign put back
      cut_of : CutOf (actions t) (in_use m p.count) cut w next
      unfolding spell
      cut_of =
          let a = length (spell x.under) in
          let i : take cut.at next ≡ spell x.under = take_at (spell x.under) (words u ++ later) cut.at (sym at_is) in
          let j : drop (cut.at + cut.new) next ≡ later =
          ap (drop (cut.at + cut.new)) (sym (append_assoc (spell x.under) (words u) later))
          ∙ drop_at (spell x.under ++ words u) later (cut.at + cut.new) (omega (arith, at_is, long_new new NewIs, length-append (spell x.under) (words u))) in
          record {
            redex = x.term;
            root = x.root;
            old_is = redex-size t ok c most m p fits more w h sign r x;
            inside = omega (arith, at_is, long_new new NewIs, long-next);
            put_back = before ∙ append_assoc (spell x.under) (words x.term) later ∙ rw (i, j);
          }

      entries : ToRead (actions t) (in_use m p.count) (drop front (overwrite m.todo front side)) (words u ++ later)
      entries =
          rw (drop-overwrite m.todo front side (omega (arith, fits.todo_long)), where_front)
          (to_read-append written (f t ok c most m p fits more w h sign r x).rest)

      holding : Holding t c after next_reading next
      holding =
          record {
            terms = x.under;
            behind = words u ++ later;
            held = x.held;
            to_read = entries;
            plan = refl;
            read_is = at_is;
            size_is =
                let e = redex-size t ok c most m p fits more w h sign r x in
                omega (arith, e, long-before, long-next, long_new new NewIs, h.size_is);
            accepted = (step-alike t ok k (length (spell h.terms)) w next h.accepted (next-taken t w _ found).fits).1 (omega (arith, fits_c));
            short = fits_c;
            quiet = quiet-fewer t (spell x.under) x.more (rw x.splits at h.quiet);
            nodes_hold = h.nodes_hold;
            nodes_quiet = h.nodes_quiet;
            nodes_sized = h.nodes_sized;
          }

      pub step-made : (allowed room : ℕ) → 1 ≤ allowed → 3 ≤ room → Advanced t c allowed room m after p w (Step k next_reading cut)
      step-made allowed room l i =
          stepped k next_reading cut next l i high
          (found ∙ ap (λ (q : ℕ). some (record { law = k; place = q; plan = next })) (sym h.read_is))
          (record {
            own_most = fits.own_most;
            first_long = fits.first_long;
            second_long = fits.second_long;
            sizes_long = fits.sizes_long;
            stack_long = fits.stack_long;
            todo_long = overwrite-length m.todo front side (omega (arith, fits.todo_long)) ∙ fits.todo_long;
            some_nodes = fits.some_nodes;
            nodes_in = fits.nodes_in;
            rest_in = omega arith;
          })
          holding cut_of

-- What `advance` asks of the functions that it calls, and what it answers, by what the next entry is.
use Rattle.std.specs.Prelude.{Some, None, Option as Maybe}
use Prim.Native.Nat.{ℕ, ◌+◌, ◌-◌, ◌≤◌, ◌<◌}
use native.Mathlib.Omega.{arith}
use mathlib.Core.Path.{◌≡◌, refl, ◌∙◌, ap}
use mathlib.Core.List.{List, ◌∷◌, ◌++◌}
use mathlib.Core.Option.{Option, none, some}
use lib.ListN.{length, get_or, set}
use lib.Seq.{length-take-le}
use Rattle.areas.specs.Area.{overwrite, most_words}
use Rattle.tables.specs.Tables.{Tables, actions}
use Rattle.tables.specs.Lawful.{Lawful}
use Rattle.plans.specs.Term.{Term, words}
use Rattle.plans.specs.Stack.{spell}
use Rattle.rewritings.specs.Roots.{first_law}
use Rattle.redexes.specs.declared.Placed.{Placed}
use Rattle.redexes.specs.declared.Redex.{Redex as Fitting}
use Rattle.redexes.specs.Slots.{RootTerm, ChosenAt, none_at, chosen_at, ChosenRoot, slots_of, side_entries, entries_size, PutReady, PutBefore, put_at, too_long}
use Rattle.redexes.proofs.Entries.{side-reach}
use Rattle.graph.specs.Graph.{Graph, Nodes, Holds, Root, root_one, root_two, ToRead}
use Rattle.graph.proofs.Reading.{holds-inside}
use Rattle.graphsteps.specs.declared.Reading.{Reading}
use Rattle.graphsteps.specs.declared.Operands.{Operands}
use Rattle.graphsteps.specs.declared.Stop.TheVariants.{AllowanceSpent, ListFull, TooLong}
use Rattle.graphsteps.specs.declared.NextEntry.TheVariants.{Read, Step, Stopped}
use Rattle.graphsteps.specs.Holding.{Arrays, arrays, in_use, Fits, Holding, SomePlan, Signed, TakenFor, SizesOf, size_under, after_term, after_sign, with_step, not_made, AdvancedOn}
use Rattle.graphsteps.proofs.Entries.{SignAt, sign_at, sign_word, node-term, action-term}
use Rattle.graphsteps.proofs.Redexes.{not_two, true_false, Redex, redex, signed}
use Rattle.graphsteps.proofs.Terms.{held-over, next-entry, some_room, term-read}
use Rattle.graphsteps.proofs.Signs.{sign_read, old_small, height-under}
use Rattle.graphsteps.proofs.Steps.{not_allowed, no_room, over-long, side-room, step-made}
use Rattle.laws.specs.Laws.{highest_law, first_choice, choices}

-- the law chosen at a root, by whether there is one
module _ {t : Tables} {n : ℕ} {g : Graph} where
  none_first : {o : Option (ℕ × Term)} {k : Maybe Fitting} → ChosenAt t n g o k → k ≡ None → o ≡ none
  none_first none_at e = refl
  none_first (chosen_at d v low high r) e = let z : ◌≡◌ {A = ℕ} 0 1 = cc in absurd (omega arith)

  one-first : {o : Option (ℕ × Term)} {k : Maybe Fitting} → ChosenAt t n g o k → (d : Fitting) → k ≡ Some d
      → (v : Term) × (o ≡ some (d.law, v)) × (first_choice ≤ d.law) × (d.law ≤ highest_law) × ToRead n g (side_entries t d.law (slots_of d)) (words v)
  one-first none_at d e = let z : ◌≡◌ {A = ℕ} 0 1 = cc in absurd (omega arith)
  one-first (chosen_at f v low high r) d e = let q : d ≡ f = cc in rw q (v, refl, low, high, r)

module _ (t : Tables) (ok : Lawful t) (c : ℕ) (most : c ≤ most_words) (allowed room : ℕ) (own first second sizes stack todo : List ℕ) (p : Reading)
    (fits : Fits (arrays own first second sizes stack todo) p) (more : p.rest < most_words) where
  abbrev m : Arrays
  m = arrays own first second sizes stack todo

  abbrev g : Graph
  g = in_use m p.count

  abbrev v : ℕ
  v = get_or todo p.rest 0

  few : actions t ≤ 31
  few = ok.well_formed.few_actions

  -- a term is read
  pub on-node : 256 ≤ get_or todo p.rest 0 → {stack' : List ℕ} {r : Reading} → stack' ≡ set stack p.height (get_or todo p.rest 0)
      → r ≡ after_term sizes p (get_or todo p.rest 0)
      → AdvancedOn t c allowed room (arrays own first second sizes stack todo) (arrays own first second sizes stack' todo) p (Read r)
  on-node l e q =
      rw (e, q)
      (record { advanced = λ w h. term-read t ok c most m p fits more w h (node-term l (next-entry t ok c most m p fits more w h).written) allowed room })

  pub on-action : get_or todo p.rest 0 ≤ actions t → {stack' : List ℕ} {r : Reading} → stack' ≡ set stack p.height (get_or todo p.rest 0)
      → r ≡ after_term sizes p (get_or todo p.rest 0)
      → AdvancedOn t c allowed room (arrays own first second sizes stack todo) (arrays own first second sizes stack' todo) p (Read r)
  on-action l e q =
      rw (e, q)
      (record { advanced = λ w h. term-read t ok c most m p fits more w h (action-term few l (next-entry t ok c most m p fits more w h).written) allowed room })

  -- a sign
  module _ (low : actions t < get_or todo p.rest 0) (high : get_or todo p.rest 0 < 256) where
    sign : (w : List ℕ) (h : Holding t c (arrays own first second sizes stack todo) p w) → SignAt (get_or todo p.rest 0) h.terms
    sign w h =
        let f = next-entry t ok c most m p fits more w h in
        let q : w ≡ spell h.terms ++ (v ∷ f.later) =
        h.plan ∙ ap (λ (l : List ℕ). spell h.terms ++ l) (f.both ∙ ap (λ (l : List ℕ). l ++ f.later) (sign_word high f.written)) in
        sign_at (actions t) few h.terms v f.later (held-over h.held) low (rw q at h.accepted)

    pub signed_here : SomePlan t c (arrays own first second sizes stack todo) p → Signed stack p.height (get_or todo p.rest 0)
    signed_here s =
        let h = s.holding in
        signed stack p.height h.held (omega (arith, some_room t ok c most m p fits more s.some_plan h, fits.stack_long)) (sign s.some_plan h)

    module _ (r : Operands) (taken : TakenFor (get_or todo p.rest 0) stack p.height r) where
      there : (w : List ℕ) (h : Holding t c (arrays own first second sizes stack todo) p w)
          → Redex (actions t) (in_use (arrays own first second sizes stack todo) p.count) (get_or todo p.rest 0) stack h.terms r
      there w h = redex stack p.height r (sign w h) taken h.held

      pub root-term : SomePlan t c (arrays own first second sizes stack todo) p
          → RootTerm (actions t) (in_use (arrays own first second sizes stack todo) p.count) (get_or todo p.rest 0) r.a r.b
      root-term s = let x = there s.some_plan s.holding in record { term = x.term; root = x.root }

      in_sizes : {k : ℕ} {u : Term} → Holds (actions t) g k u → 256 ≤ k → k < length sizes
      in_sizes q l =
          omega (arith, holds-inside q few l, length-take-le p.count own fits.nodes_in, fits.nodes_in, fits.sizes_long)

      operand_sizes : {u : Term} → Root (actions t) g v r.a r.b u → SizesOf sizes v r
      operand_sizes (root_one {o} e k q) = (λ l. in_sizes q l, λ b l. absurd (true_false b (not_two o e k)))
      operand_sizes (root_two e q k) = (λ l. in_sizes q l, λ b l. in_sizes k l)

      pub sizes-there : SomePlan t c (arrays own first second sizes stack todo) p → SizesOf sizes (get_or todo p.rest 0) r
      sizes-there s = operand_sizes (there s.some_plan s.holding).root

      pub nodes-there : Nodes (in_use (arrays own first second sizes stack todo) p.count)
      nodes-there =
          let a = length-take-le p.count own fits.nodes_in in
          record {
            first_long = omega (arith, a, length-take-le p.count first (omega (arith, fits.first_long, fits.nodes_in)));
            second_long = omega (arith, a, length-take-le p.count second (omega (arith, fits.second_long, fits.nodes_in)));
            most = omega (arith, a, fits.nodes_in, fits.own_most);
          }

      -- no more words than the plan has, nor than are read with the sign
      pub old_less : SomePlan t c (arrays own first second sizes stack todo) p
          → (size_under sizes (get_or todo p.rest 0) r ≤ p.size) × (size_under sizes (get_or todo p.rest 0) r ≤ p.read + 1) × (p.size ≤ most_words) × (r.under < most_words)
      old_less s =
          let h = s.holding in
          let x = there s.some_plan h in
          let a = old_small t ok c most m p fits more s.some_plan h high r x in
          (a.0, a.1, omega (arith, h.size_is, h.short), height-under t ok c most m p fits more s.some_plan h high r x)

      -- by the law chosen
      module _ (o : Maybe Fitting)
          (chosen : ChosenRoot t (actions t) (in_use (arrays own first second sizes stack todo) p.count) (get_or todo p.rest 0) r.a r.b o) where
        pub on-sign : o ≡ None → p.count < length own → (old : ℕ) → old ≡ size_under sizes (get_or todo p.rest 0) r → {own' first' second' sizes' stack' : List ℕ} {q : Reading}
            → q ≡ after_sign p r → own' ≡ set own p.count (get_or todo p.rest 0) → first' ≡ set first p.count r.a
            → second' ≡ set second p.count r.b → sizes' ≡ set sizes p.count old → stack' ≡ set stack r.under p.count
            → AdvancedOn t c allowed room (arrays own first second sizes stack todo) (arrays own' first' second' sizes' stack' todo) p (Read q)
        on-sign e l old i q a b d f k =
            rw (q, a, b, d, f, k, i)
            (record { advanced = λ w h. let x = there w h in sign_read t ok c most m p fits more w h high r x l (none_first (chosen.chosen_root x.term x.root) e) allowed room })

        -- a law was chosen
        module _ (chose : Fitting) (is : o ≡ Some chose) where
          -- the law chosen, and the entries of its right side
          chosen_here : (w : List ℕ) (h : Holding t c (arrays own first second sizes stack todo) p w) → let x = there w h in
              (v : Term) × (first_law t first_choice choices x.term ≡ some (chose.law, v)) × (first_choice ≤ chose.law) × (chose.law ≤ highest_law)
              × ToRead (actions t) (in_use (arrays own first second sizes stack todo) p.count) (side_entries t chose.law (slots_of chose)) (words v)
          chosen_here w h = let x = there w h in one-first (chosen.chosen_root x.term x.root) chose is

          pub law_bounds : SomePlan t c (arrays own first second sizes stack todo) p → (first_choice ≤ chose.law) × (chose.law ≤ highest_law)
          law_bounds s = let f = chosen_here s.some_plan s.holding in (f.2, f.3)

          -- the next step is not made, for want of allowance or of room in the list
          pub on-none_allowed : allowed ≡ 0
              → AdvancedOn t c allowed room (arrays own first second sizes stack todo) (arrays own first second sizes stack todo) p (Stopped AllowanceSpent)
          on-none_allowed e =
              record {
                advanced =
                    λ w h.
                    let x = there w h in
                    let f = chosen_here w h in
                    not_made AllowanceSpent (not_allowed t ok c most m p fits more w h high r x chose.law f.0 f.1 f.3 (side_entries t chose.law (slots_of chose)) f.4 allowed room e) refl;
              }

          pub on-list_full : 1 ≤ allowed → room < 3
              → AdvancedOn t c allowed room (arrays own first second sizes stack todo) (arrays own first second sizes stack todo) p (Stopped ListFull)
          on-list_full l i =
              record {
                advanced =
                    λ w h.
                    let x = there w h in
                    let f = chosen_here w h in
                    not_made ListFull (no_room t ok c most m p fits more w h high r x chose.law f.0 f.1 f.3 (side_entries t chose.law (slots_of chose)) f.4 allowed room l i) refl;
              }

          -- the right side of the law
          module _ (old : ℕ) (old_is : old ≡ size_under sizes (get_or todo p.rest 0) r) where
            abbrev side : List ℕ
            side = side_entries t chose.law (slots_of chose)

            abbrev new : ℕ
            new = entries_size sizes (side_entries t chose.law (slots_of chose))

            -- as many words as the plan may have, and as it has beside the redex
            pub side_ready : SomePlan t c (arrays own first second sizes stack todo) p → PutReady sizes (side_entries t chose.law (slots_of chose)) (p.rest + 1) (c - (p.size - old))
            side_ready s =
                let w = s.some_plan in
                let h = s.holding in
                let x = there w h in
                let f = chosen_here w h in
                record {
                  reach = side-reach sizes few (omega (arith, length-take-le p.count own fits.nodes_in, fits.nodes_in, fits.sizes_long)) f.4;
                  room = λ l. side-room t ok c most m p fits more w h high r x chose.law f.0 f.1 f.3 side f.4 new refl (omega (arith, old_is, h.size_is, h.short));
                }

            pub on-too_long : 1 ≤ allowed → 3 ≤ room → {todo' : List ℕ} → (todo' ≡ todo) × (c - (p.size - old) < entries_size sizes (side_entries t chose.law (slots_of chose)))
                → AdvancedOn t c allowed room (arrays own first second sizes stack todo) (arrays own first second sizes stack todo') p (Stopped TooLong)
            on-too_long l i q =
                rw q.0
                (record {
                  advanced =
                      λ w h.
                      let x = there w h in
                      let f = chosen_here w h in
                      not_made TooLong (over-long t ok c most m p fits more w h high r x chose.law f.0 f.1 f.3 side f.4 new refl allowed room l i (omega (arith, old_is, h.size_is, h.short, q.1))) refl;
                })

            pub on_step : 1 ≤ allowed → 3 ≤ room → (front size : ℕ) {todo' : List ℕ}
                → (todo' ≡ overwrite todo front (side_entries t chose.law (slots_of chose))) × (front + length (side_entries t chose.law (slots_of chose)) ≡ p.rest + 1)
                × (size ≡ entries_size sizes (side_entries t chose.law (slots_of chose))) × (size ≤ c - (p.size - old))
                → {q : Reading} → q ≡ with_step p r.under front (p.read + 1 - old) (p.size - old + size)
                → AdvancedOn t c allowed room (arrays own first second sizes stack todo) (arrays own first second sizes stack todo') p
                (Step chose.law q
                (record { at = p.read + 1 - old; old = old; new = size; word = get_or todo p.rest 0; a = r.a; b = r.b }))
            on_step l i front size d z =
                rw (d.0, z, old_is)
                (record {
                  advanced =
                      λ w h.
                      let x = there w h in
                      let f = chosen_here w h in
                      step-made t ok c most m p fits more w h high r x chose.law f.0 f.1 f.3 side f.4 size d.2 (omega (arith, old_is, h.size_is, h.short, d.3)) front d.1 allowed room l i;
                })

-- a right side put, or too long, by what was answered
module _ {sizes entries todo : List ℕ} {rest most : ℕ} where
  pub was_put : {todo' : List ℕ} {o : Maybe Placed} → PutBefore sizes entries todo rest most todo' o → (d : Placed) → o ≡ Some d
      → (todo' ≡ overwrite todo d.front entries) × (d.front + length entries ≡ rest) × (d.size ≡ entries_size sizes entries) × (d.size ≤ most)
  was_put (put_at f s a b c) d e =
      let q : d ≡ record { front = f; size = s } = cc in
      rw q (refl, a, b, c)
  was_put (too_long a) d e = let z : ◌≡◌ {A = ℕ} 0 1 = cc in absurd (omega arith)

  pub was_long : {todo' : List ℕ} {o : Maybe Placed} → PutBefore sizes entries todo rest most todo' o → o ≡ None → (todo' ≡ todo) × (most < entries_size sizes entries)
  was_long (put_at f s a b c) e = let z : ◌≡◌ {A = ℕ} 0 1 = cc in absurd (omega arith)
  was_long (too_long a) e = (refl, a)

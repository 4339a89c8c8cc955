-- Messages one after another, by induction over the list: from any progress, and from a fresh walk.
use Rattle.std.specs.Prelude.{Ok}
use Prim.Native.Nat.{ℕ, ◌-◌, ◌≤◌, ◌<◌}
use native.Mathlib.Omega.{arith}
use mathlib.Core.Path.{◌≡◌, refl, ap, sym, ◌∙◌, subst}
use mathlib.Core.Bool.{Bool, true, false, false≢true}
use mathlib.Core.List.{List, [], ◌∷◌, ◌++◌}
use mathlib.Core.Logic.{◌↔◌, ◌⊎◌, inl, inr}
use mathlib.Core.Option.{Option, none, some, some-injective}
use lib.Dec.{eqb, ltb}
use lib.ListN.{length, replicate, length-set, length-replicate, get_or-eq_default}
use lib.Seq.{get_or-set_same, get_or-set_other}
use borrow.Author.Tests.{ltb-true, ltb-false, eqb-true, eqb-false}
use Rattle.refusals.specs.declared.Refusal.{Refusal}
use Rattle.tables.specs.Tables.{Tables, actions, outside?}
use Rattle.plans.specs.Term.{Term, term_of}
use Rattle.plans.specs.Place.{subterm}
use Rattle.plans.specs.Basic.{Basic}
use Rattle.plans.specs.Accepted.{BasicPlan}
use Rattle.plans.proofs.Accepted.{words_some, accepted-reads_as, basic_plan}
use Rattle.plans.proofs.Options.{never}
use Rattle.trees.specs.Tree.{Rest, further}
use Rattle.trees.specs.Meaning.{tree}
use Rattle.paths.specs.Paths.{Leads, Begins, Finishes}
use Rattle.paths.specs.Subplans.{place_of, Target, at_finish, subplan, Transition, Transitions, stay, go, rest_of}
use Rattle.walks.specs.Progress.{Progress, Marked, fresh}
use Rattle.walks.specs.Pass.{take_message}
use Rattle.walks.specs.Turns.{message_outcome}
use Rattle.walks.specs.Outcome.{not_walkable_refusal, WalkOutcome, accepted_outcome, refused_outcome, walk_outcome}
use Rattle.walks.specs.Claims.{walked, if_taken, messages_taken}
use Rattle.walks.specs.Reached.{FromMark, FromMarkTo}
use Rattle.paths.proofs.Parts.{Part, whole, Placed, part-subterm, part_at, part_trans, transition_part, subterm-part_at, same_start, plan_size}
use Rattle.paths.proofs.Paths.{LeadsOn, begins_exactly}
use Rattle.paths.proofs.Subplans.{transitions_lead, lead_transitions, lead_finish}
use Rattle.walks.proofs.Outcomes.{refusal_none, walk-outside, walk-on, message_outside}
use Rattle.walks.proofs.Written.{Written, set-written, zeros-written, taken-written}
use Rattle.walks.proofs.Taken.{blank, Led, transition_once, taken_led, taken_iff_leads}

mark-inside : (l : List ℕ) (k : ℕ) → Marked l k → k < length l
mark-inside l k h = go (ltb k (length l)) refl
  where
    go : (b : Bool) → ltb k (length l) ≡ b → k < length l
    go true e = ltb-true k (length l) e
    go false e = let i = ltb-false k (length l) e in let z = get_or-eq_default {A = ℕ} l 0 {n = k} i in absurd (omega arith)

pub transitions_finished : {ms : List ℕ} {g : Target} → Transitions at_finish ms g → (ms ≡ []) × (g ≡ at_finish)
transitions_finished stay = (refl, refl)

pub transitions_append : {g h k : Target} {ms ks : List ℕ} → Transitions g ms h → Transitions h ks k → Transitions g (ms ++ ks) k
transitions_append stay l = l
transitions_append (go i j) l = go i (transitions_append j l)

pub transitions_split : {g k : Target} (ms : List ℕ) {ks : List ℕ} → Transitions g (ms ++ ks) k → (h : Target) × Transitions g ms h × Transitions h ks k
transitions_split {g} [] l = (g, stay, l)
transitions_split (a ∷ ms) (go i l) = let r = transitions_split ms l in (r.0, go i r.1, r.2)

-- what a message leaves where the plan can be walked
data Case (t : Tables) (plan : List ℕ) (m : ℕ) (p : Progress) : WalkOutcome → Type 0 where
  case_taken : (q : Progress) → take_message (actions t) plan m p ≡ some q → Case t plan m p (accepted_outcome q)
  case_kept : (r : Refusal) → take_message (actions t) plan m p ≡ none → Case t plan m p (refused_outcome r p)

by_case : (t : Tables) (plan : List ℕ) (m : ℕ) (p : Progress) → not_walkable_refusal t plan p.marks ≡ none → Case t plan m p (walk_outcome t plan m p)
by_case t plan m p e = go_on (outside? (actions t) m) refl
  where
    brought : (a : Option Progress) → take_message (actions t) plan m p ≡ a → Case t plan m p (message_outcome a p)
    brought none d = case_kept _ d
    brought (some q) d = case_taken q d

    go_on : (b : Bool) → outside? (actions t) m ≡ b → Case t plan m p (walk_outcome t plan m p)
    go_on true o = subst (Case t plan m p) (sym (walk-outside t plan p m e o)) (case_kept _ (message_outside (actions t) plan m p o))
    go_on false o = subst (Case t plan m p) (sym (walk-on t plan p m e o)) (brought (take_message (actions t) plan m p) refl)

accepted_exactly : {t : Tables} {plan : List ℕ} {m : ℕ} {p : Progress} {o : WalkOutcome} → Case t plan m p o
    → (o.answer ≡ Ok tt) ↔ ((q : Progress) × (take_message (actions t) plan m p ≡ some q))
accepted_exactly (case_taken q d) = (λ h. (q, d), λ h. refl)
accepted_exactly (case_kept r d) = (λ h. let z : ◌≡◌ {A = ℕ} 0 1 = cc in absurd (omega arith), λ h. never (sym d ∙ h.1))

module _ (t : Tables) (plan : List ℕ) (b : BasicPlan t plan) where
  abbrev n : ℕ
  n = actions t

  abbrev u : Term
  u = b.plan.term

  abbrev basic : Basic u
  basic = b.basic

  few : actions t ≤ 31
  few = b.plan.lawful.well_formed.few_actions

  e : term_of (actions t) plan ≡ some b.plan.term
  e = accepted-reads_as t plan b.plan

  pub can_walk : (marks : List ℕ) → length marks ≡ length plan → not_walkable_refusal t plan marks ≡ none
  can_walk marks f = let k = (basic_plan t plan).1 b in refusal_none t plan marks k.0 k.1 f

  -- at one place stands one subplan
  one-subplan : {s r : ℕ} {v w : Term} → subterm n plan (place_of s v) ≡ some v → Part 0 u r w → place_of r w ≡ place_of s v → (P : ℕ → Term → Type 0) → P s v → P r w
  one-subplan {s} {r} {v} {w} d i q P h =
      let same : v ≡ w = some-injective _ _ (sym d ∙ (ap (subterm n plan) (sym q) ∙ part-subterm n few plan u basic e i)) in
      let begin : s ≡ r = same_start s r w (subst (λ x. place_of s x ≡ place_of r w) same (sym q)) in rw (← begin, ← same) h

  -- what the messages taken have made of a progress
  pub record After (p : Progress) (ms : List ℕ) (q : Progress) : Type 0 where
    pub fits : length q.marks ≡ length plan
    pub marks_iff : (k : ℕ) → Marked q.marks k ↔ FromMarkTo n plan p.marks ms k
    pub finish_iff : (q.finish ≡ true) ↔ (((ms ≡ []) × (p.finish ≡ true)) ⊎ FromMark n plan p.marks ms at_finish)

  -- no message
  transitions_none : {s r : ℕ} {v w : Term} → Transitions (subplan s v) [] (subplan r w) → (P : ℕ → Term → Type 0) → P s v → P r w
  transitions_none stay P h = h

  after_none : (p : Progress) → length p.marks ≡ length plan → After p [] p
  after_none p f = record { fits = f; marks_iff = λ k. (to k, from k); finish_iff = (λ h. inl (refl, h), finish-from) }
    where
      to : (k : ℕ) → Marked p.marks k → FromMarkTo n plan p.marks [] k
      to k h = go-to (part_at n few plan u basic e k (omega (arith, mark-inside p.marks k h)))
        where
          go-to : Placed 0 u k → FromMarkTo n plan p.marks [] k
          go-to (r, w, i, q) = (r, w, q, record { start = r; part = w; stands = part-subterm n few plan u basic e i; mark = rw q h; way = stay })

      from : (k : ℕ) → FromMarkTo n plan p.marks [] k → Marked p.marks k
      from k (r, w, q, f) = subst (Marked p.marks) q (transitions_none f.way (λ r w. Marked p.marks (place_of r w)) f.mark)

      not_finished : {s : ℕ} {v : Term} → Transitions (subplan s v) [] at_finish → ⊥
      not_finished l = elim l [ ]

      finish-from : ((◌≡◌ {A = List ℕ} [] []) × (p.finish ≡ true)) ⊎ FromMark n plan p.marks [] at_finish → p.finish ≡ true
      finish-from (inl (q, h)) = h
      finish-from (inr f) = absurd (not_finished f.way)

  -- one message more in front
  module _ (p q : Progress) (f : length p.marks ≡ length plan) (m : ℕ) (d : take_message n plan m p ≡ some q) where
    first_led : Led n few plan u basic e p.marks f m q
    first_led = taken_led n few plan u basic e m p f q d

    from-stands : {r : ℕ} {w : Term} → FromMark n plan p.marks (m ∷ []) (subplan r w) → Part 0 u r w
    from-stands h = part_trans (subterm-part_at n few plan u basic e h.start h.part h.stands) (transition_part (transition_once h.way))

    more-to : (ms : List ℕ) (g : Target) → FromMark n plan p.marks (m ∷ ms) g
        → FromMark n plan q.marks ms g ⊎ (FromMark n plan p.marks (m ∷ []) at_finish × (ms ≡ []) × (g ≡ at_finish))
    more-to ms g h = cut h.way
      where
        by : (k : Target) → Transition m h.start h.part k → Transitions k ms g → FromMark n plan q.marks ms g ⊎ (FromMark n plan p.marks (m ∷ []) at_finish × (ms ≡ []) × (g ≡ at_finish))
        by at_finish i l = inr (record { start = h.start; part = h.part; stands = h.stands; mark = h.mark; way = go i stay }, (transitions_finished l).0, (transitions_finished l).1)
        by (subplan r w) i l =
            let o : FromMark n plan p.marks (m ∷ []) (subplan r w) = record { start = h.start; part = h.part; stands = h.stands; mark = h.mark; way = go i stay } in
            inl (record { start = r; part = w; stands = part-subterm n few plan u basic e (from-stands o); mark = (first_led.marks_iff (place_of r w)).1 (r, w, refl, o); way = l })

        cut : Transitions (subplan h.start h.part) (m ∷ ms) g → FromMark n plan q.marks ms g ⊎ (FromMark n plan p.marks (m ∷ []) at_finish × (ms ≡ []) × (g ≡ at_finish))
        cut (go {h = k} i l) = by k i l

    more-from : (ms : List ℕ) (g : Target) → FromMark n plan q.marks ms g → FromMark n plan p.marks (m ∷ ms) g
    more-from ms g h = by ((first_led.marks_iff (place_of h.start h.part)).0 h.mark)
      where
        by : FromMarkTo n plan p.marks (m ∷ []) (place_of h.start h.part) → FromMark n plan p.marks (m ∷ ms) g
        by (r, w, d, o) =
            let l : Transitions (subplan r w) ms g = one-subplan h.stands (from-stands o) d (λ r w. Transitions (subplan r w) ms g) h.way in
            record { start = o.start; part = o.part; stands = o.stands; mark = o.mark; way = go (transition_once o.way) l }

    after_more : (ms : List ℕ) (r : Progress) → After q ms r → After p (m ∷ ms) r
    after_more ms r a = record { fits = a.fits; marks_iff = λ k. (marks-to k, marks-from k); finish_iff = (λ h. inr (finish-to (a.finish_iff.0 h)), λ h. a.finish_iff.1 (finish-from h)) }
      where
        marks-to : (k : ℕ) → Marked r.marks k → FromMarkTo n plan p.marks (m ∷ ms) k
        marks-to k h = let w = (a.marks_iff k).0 h in (w.0, w.1, w.2, more-from ms _ w.3)

        only : (h : ℕ) (w : Term) → FromMark n plan q.marks ms (subplan h w) ⊎ (FromMark n plan p.marks (m ∷ []) at_finish × (ms ≡ []) × (subplan h w ≡ at_finish)) → FromMark n plan q.marks ms (subplan h w)
        only h w (inl f) = f
        only h w (inr x) = let y = x.2 in let z : ◌≡◌ {A = ℕ} 0 1 = cc in absurd (omega arith)

        marks-from : (k : ℕ) → FromMarkTo n plan p.marks (m ∷ ms) k → Marked r.marks k
        marks-from k (s, w, d, f) = (a.marks_iff k).1 (s, w, d, only s w (more-to ms (subplan s w) f))

        finish-to : ((ms ≡ []) × (q.finish ≡ true)) ⊎ FromMark n plan q.marks ms at_finish → FromMark n plan p.marks (m ∷ ms) at_finish
        finish-to (inl (d, h)) = subst (λ l. FromMark n plan p.marks (m ∷ l) at_finish) (sym d) (first_led.finish_iff.0 h)
        finish-to (inr f) = more-from ms at_finish f

        ended : FromMark n plan q.marks ms at_finish ⊎ (FromMark n plan p.marks (m ∷ []) at_finish × (ms ≡ []) × (at_finish ≡ at_finish)) → ((ms ≡ []) × (q.finish ≡ true)) ⊎ FromMark n plan q.marks ms at_finish
        ended (inl f) = inr f
        ended (inr x) = inl (x.1, first_led.finish_iff.1 x.0)

        finish-from : ((m ∷ ms ≡ []) × (p.finish ≡ true)) ⊎ FromMark n plan p.marks (m ∷ ms) at_finish → ((ms ≡ []) × (q.finish ≡ true)) ⊎ FromMark n plan q.marks ms at_finish
        finish-from (inl x) = let y = x.0 in let z : ◌≡◌ {A = ℕ} 0 1 = cc in absurd (omega arith)
        finish-from (inr f) = ended (more-to ms at_finish f)

  -- for every list of messages, from any progress
  pub after_messages : (ms : List ℕ) (p : Progress) → length p.marks ≡ length plan → After p (messages_taken t plan p ms) (walked t plan p ms)
  unfolding walked messages_taken
  after_messages [] p f = after_none p f
  after_messages (m ∷ ms) p f = go_on (by_case t plan m p (can_walk p.marks f)) (λ q g. after_messages ms q g)
    where
      go_on : {o : WalkOutcome} → Case t plan m p o → ((q : Progress) → length q.marks ≡ length plan → After q (messages_taken t plan q ms) (walked t plan q ms))
          → After p (if_taken o.answer m (messages_taken t plan o.progress ms)) (walked t plan o.progress ms)
      go_on (case_taken q d) rest = after_more p q f m d (messages_taken t plan q ms) (walked t plan q ms) (rest q (first_led p q f m d).fits_too)
      go_on (case_kept r d) rest = rest p f

  -- a fresh walk has one mark, at the place of the whole plan
  root : place_of 0 u ≡ length plan - 1
  root = omega (arith, plan_size n few plan u basic e)

  pub fresh-fits : length (fresh plan).marks ≡ length plan
  unfolding fresh
  fresh-fits = simp (length-set, length-replicate)

  fresh-mark : Marked (fresh plan).marks (place_of 0 u)
  unfolding fresh
  fresh-mark = rw (root, get_or-set_same {A = ℕ} (replicate (length plan) 0) (length plan - 1) 1 0 (omega (arith, length-replicate {A = ℕ} (length plan) 0, plan_size n few plan u basic e, words_some u))) (omega arith)

  fresh-only : (k : ℕ) → Marked (fresh plan).marks k → k ≡ place_of 0 u
  unfolding fresh
  fresh-only k h = go_on (eqb k (length plan - 1)) refl
    where
      go_on : (b : Bool) → eqb k (length plan - 1) ≡ b → k ≡ place_of 0 u
      go_on true d = eqb-true k (length plan - 1) d ∙ sym root
      go_on false d = absurd (blank (length plan) k (rw (get_or-set_other {A = ℕ} (replicate (length plan) 0) (length plan - 1) k 1 0 (eqb-false k (length plan - 1) d)) at h))

  fresh-from : (ms : List ℕ) (g : Target) → FromMark n plan (fresh plan).marks ms g ↔ Transitions (subplan 0 u) ms g
  fresh-from ms g = (to, λ l. record { start = 0; part = u; stands = part-subterm n few plan u basic e whole; mark = fresh-mark; way = l })
    where
      to : FromMark n plan (fresh plan).marks ms g → Transitions (subplan 0 u) ms g
      to f = one-subplan f.stands whole (sym (fresh-only (place_of f.start f.part) f.mark)) (λ r w. Transitions (subplan r w) ms g) f.way

  -- what the messages lead to is a subplan
  abbrev IsPart : Target → Type 0
  IsPart at_finish = Unit
  IsPart (subplan r w) = Part 0 u r w

  transition_is_part : {m s : ℕ} {v : Term} (g : Target) → Part 0 u s v → Transition m s v g → IsPart g
  transition_is_part at_finish p i = tt
  transition_is_part (subplan r w) p i = part_trans p (transition_part i)

  transitions_part : {g h : Target} {ms : List ℕ} → IsPart g → Transitions g ms h → IsPart h
  transitions_part p stay = p
  transitions_part p (go {h = k} i l) = transitions_part (transition_is_part k p i) l

  module _ (ms : List ℕ) where
    now_so : After (fresh plan) (messages_taken t plan (fresh plan) ms) (walked t plan (fresh plan) ms)
    now_so = after_messages ms (fresh plan) fresh-fits

    -- the marks are the places of the subplans that the messages taken can have led to
    pub walk-marks : (k : ℕ) → Marked (walked t plan (fresh plan) ms).marks k
        ↔ ((r : ℕ) × (w : Term) × (place_of r w ≡ k) × Transitions (subplan 0 u) (messages_taken t plan (fresh plan) ms) (subplan r w))
    walk-marks k = (λ h. let f = (now_so.marks_iff k).0 h in (f.0, f.1, f.2, (fresh-from _ _).0 f.3), back)
      where
        back : ((r : ℕ) × (w : Term) × (place_of r w ≡ k) × Transitions (subplan 0 u) (messages_taken t plan (fresh plan) ms) (subplan r w)) → Marked (walked t plan (fresh plan) ms).marks k
        back (r, w, d, l) = (now_so.marks_iff k).1 (r, w, d, (fresh-from _ _).1 l)

    module _ where
      -- a finish is reached exactly when exactly those messages can end in one
      pub walk-finish : ((walked t plan (fresh plan) ms).finish ≡ true) ↔ Finishes (tree t u) (messages_taken t plan (fresh plan) ms)
      unfolding fresh
      walk-finish = (λ h. to (now_so.finish_iff.0 h), λ l. now_so.finish_iff.1 (inr ((fresh-from _ _).1 (lead_finish t (subplan 0 u) basic l))))
        where
          to : ((messages_taken t plan (fresh plan) ms ≡ []) × ((fresh plan).finish ≡ true)) ⊎ FromMark n plan (fresh plan).marks (messages_taken t plan (fresh plan) ms) at_finish
              → Finishes (tree t u) (messages_taken t plan (fresh plan) ms)
          to (inl x) = absurd (false≢true x.1)
          to (inr f) = transitions_lead t basic ((fresh-from _ _).0 f)

      -- a message is taken exactly when some path of the tree begins with the messages taken so far and this one
      module _ (m : ℕ) where
        transitions_more : ((g : Target) × FromMark n plan (walked t plan (fresh plan) ms).marks (m ∷ []) g) ↔ ((g : Target) × Transitions (subplan 0 u) (messages_taken t plan (fresh plan) ms ++ (m ∷ [])) g)
        transitions_more = (to, from)
          where
            onto : {g : Target} (s : ℕ) (v : Term) → subterm n plan (place_of s v) ≡ some v → Marked (walked t plan (fresh plan) ms).marks (place_of s v) → Transitions (subplan s v) (m ∷ []) g
                → Transitions (subplan 0 u) (messages_taken t plan (fresh plan) ms ++ (m ∷ [])) g
            onto {g} s v d h l =
                let w = (walk-marks (place_of s v)).0 h in
                transitions_append w.3 (one-subplan d (transitions_part {g = subplan 0 u} whole w.3) w.2 (λ r w. Transitions (subplan r w) (m ∷ []) g) l)

            to : ((g : Target) × FromMark n plan (walked t plan (fresh plan) ms).marks (m ∷ []) g) → (g : Target) × Transitions (subplan 0 u) (messages_taken t plan (fresh plan) ms ++ (m ∷ [])) g
            to (g, f) = (g, onto f.start f.part f.stands f.mark f.way)

            by : (g h : Target) → Transitions (subplan 0 u) (messages_taken t plan (fresh plan) ms) h → Transitions h (m ∷ []) g → FromMark n plan (walked t plan (fresh plan) ms).marks (m ∷ []) g
            by g at_finish l i = absurd (elim i [ ])
            by g (subplan r w) l i = record { start = r; part = w; stands = part-subterm n few plan u basic e (transitions_part {g = subplan 0 u} whole l); mark = (walk-marks (place_of r w)).1 (r, w, refl, l); way = i }

            from : ((g : Target) × Transitions (subplan 0 u) (messages_taken t plan (fresh plan) ms ++ (m ∷ [])) g) → (g : Target) × FromMark n plan (walked t plan (fresh plan) ms).marks (m ∷ []) g
            from (g, l) = let c = transitions_split (messages_taken t plan (fresh plan) ms) l in (g, by g c.0 c.1 c.2)

        pub walk_takes : ((walk_outcome t plan m (walked t plan (fresh plan) ms)).answer ≡ Ok tt) ↔ Begins (tree t u) (messages_taken t plan (fresh plan) ms ++ (m ∷ []))
        walk_takes = (λ h. (begins_exactly (tree t u) _).1 (to (answer.0 h)), λ h. answer.1 (from ((begins_exactly (tree t u) _).0 h)))
          where
            answer : ((walk_outcome t plan m (walked t plan (fresh plan) ms)).answer ≡ Ok tt) ↔ ((q : Progress) × (take_message n plan m (walked t plan (fresh plan) ms) ≡ some q))
            answer = accepted_exactly (by_case t plan m (walked t plan (fresh plan) ms) (can_walk (walked t plan (fresh plan) ms).marks now_so.fits))

            step : ((q : Progress) × (take_message n plan m (walked t plan (fresh plan) ms) ≡ some q)) ↔ ((g : Target) × FromMark n plan (walked t plan (fresh plan) ms).marks (m ∷ []) g)
            step = taken_iff_leads n few plan u basic e m (walked t plan (fresh plan) ms) now_so.fits

            to : ((q : Progress) × (take_message n plan m (walked t plan (fresh plan) ms) ≡ some q)) → LeadsOn (tree t u) (messages_taken t plan (fresh plan) ms ++ (m ∷ []))
            to h = let w = transitions_more.0 (step.0 h) in (rest_of t w.0, transitions_lead t basic w.1)

            from : LeadsOn (tree t u) (messages_taken t plan (fresh plan) ms ++ (m ∷ [])) → (q : Progress) × (take_message n plan m (walked t plan (fresh plan) ms) ≡ some q)
            from (k, l) = let w = lead_transitions t (subplan 0 u) basic l in step.1 (transitions_more.1 (w.0, w.1))

  -- one byte for each word, and a mark is written as 1
  pub walked-fits : (ms : List ℕ) → length (walked t plan (fresh plan) ms).marks ≡ length plan
  walked-fits ms = (now_so ms).fits

  written-more : (ms : List ℕ) (p : Progress) → length p.marks ≡ length plan → Written p.marks → Written (walked t plan p ms).marks
  unfolding walked
  written-more [] p f w = w
  written-more (m ∷ ms) p f w = go_on (by_case t plan m p (can_walk p.marks f)) (λ q g x. written-more ms q g x)
    where
      go_on : {o : WalkOutcome} → Case t plan m p o → ((q : Progress) → length q.marks ≡ length plan → Written q.marks → Written (walked t plan q ms).marks)
          → Written (walked t plan o.progress ms).marks
      go_on (case_taken q d) rest = rest q (first_led p q f m d).fits_too (taken-written n plan m p q d)
      go_on (case_kept r d) rest = rest p f w

  pub walked-written : (ms : List ℕ) → Written (walked t plan (fresh plan) ms).marks
  unfolding fresh
  walked-written ms = written-more ms (fresh plan) fresh-fits (set-written (replicate (length plan) 0) (length plan - 1) (zeros-written (length plan)))

  -- what the messages taken lead to in the tree is what they lead to in the plan
  pub walk_paths : (ms : List ℕ) (r : Rest) → Leads (further (tree t u)) (messages_taken t plan (fresh plan) ms) r
      ↔ ((g : Target) × (r ≡ rest_of t g) × Transitions (subplan 0 u) (messages_taken t plan (fresh plan) ms) g)
  walk_paths ms r = (
    λ l. let w = lead_transitions t (subplan 0 u) basic l in (w.0, w.2, w.1),
    λ h. subst (Leads (further (tree t u)) (messages_taken t plan (fresh plan) ms)) (sym h.1) (transitions_lead t basic h.2),
  )

-- How a run with limits ends, by the steps that the run without limits needs; so what is claimed of an unfolding for its allowance holds of what the
-- definitions say that it answers and leaves.
use Rattle.std.specs.Prelude.{Ok}
use Prim.Native.Nat.{ℕ, suc, ◌+◌, ◌-◌, ◌*◌, ◌≤◌, ◌<◌}
use native.Mathlib.Omega.{arith}
use mathlib.Core.Path.{◌≡◌, refl, sym, ◌∙◌, ap, subst}
use mathlib.Core.Bool.{Bool, true, false}
use mathlib.Core.List.{List}
use mathlib.Core.Option.{none, some}
use mathlib.Core.Logic.{◌↔◌}
use lib.ListN.{length}
use lib.Dec.{ltb}
use borrow.Author.Tests.{ltb-true, ltb-false, eq-eqb, ne_eqb}
use Rattle.areas.specs.Reached.{capacity}
use Rattle.tables.specs.Tables.{Tables}
use Rattle.plans.specs.Accepted.{AcceptedPlan}
use Rattle.plans.proofs.Accepted.{basic-words-plan}
use Rattle.rewritings.specs.Moves.{bytes_of}
use Rattle.rewritings.specs.Choice.{Found, next_step}
use Rattle.rewritings.specs.Runs.{Run, run_of}
use Rattle.rewritings.proofs.Moves.{bytes_append}
use Rattle.rewritings.proofs.Runs.{within-allowance, same_with_more, begins_with_more}
use Rattle.ending.specs.Ending.{Steps, Within, ComesTo}
use Rattle.ending.proofs.Ending.{every_plan_comes_to_an_end}
use Rattle.ending.proofs.Steps.{one_further, left_over, no_longer, ends-once, within-rest, basic-quiet, comes-once}
use Rattle.unfolding.specs.declared.Unfolded.TheVariants.{Finished, Stopped}
use Rattle.unfolding.specs.Unfolding.{unfolded, settled, unfold_refusal, UnfoldOutcome, unfold_outcome}
use Rattle.demands.specs.Reports.{unfold_given, Reports, own_rewriting, reached_in, Stops, allowance_spent, list_full, next_too_long}
use Rattle.demands.specs.Allowance.{most_steps, steps_needed, end_plan, EndClaims, Held, Repeated, FinishesWith, AllowanceClaims, Beginning}
use Rattle.demands.proofs.Running.{Ends, no_law-fits, stops, run-followed, run-records-long, run-held, run_ends, ends-finished, ends-stopped}
use Rattle.demands.proofs.Reports.{shown, shown-finished, shown-stopped, told, reached_told, own_told}

-- "For every accepted plan and tables, the run of steps without limits comes after some number of steps to a basic plan", and after no other.
pub end-claims : (t : Tables) (plan : List ℕ) (p : AcceptedPlan t plan) → EndClaims t plan (steps_needed t plan p) (end_plan t plan p)
unfolding steps_needed end_plan
end-claims t plan p =
    let e = every_plan_comes_to_an_end t plan p in
    let few = p.lawful.well_formed.few_actions in
    record {
      comes = e.comes;
      only_there = λ k v q. comes-once t few q e.comes;
      no_next = basic-quiet t few e.end e.comes.basic;
      basic_plan = basic-words-plan t e.end p.lawful e.comes.basic;
    }

-- Of the runs from a plan with a list of l bytes and c words to a plan, where without limits no law fits after so many steps:
module _ (t : Tables) (plan : List ℕ) (l c : ℕ) (fits : length plan ≤ c)
    (needed : ℕ) (end : List ℕ) (made : Steps t needed plan end) (quiet : next_step t end ≡ none) where
  abbrev Of : ℕ → Run
  Of m = run_of t plan m l c

  -- its steps are the first of those, and where a law still fits some are left
  path : (m : ℕ) → Steps t (Of m).steps plan (Of m).plan
  path m =
      let F = run-followed t plan m l c in
      let e : length F.own ≡ (Of m).steps = omega (arith, F.counted) in subst (λ (k : ℕ). Steps t k plan (Of m).plan) e F.path

  no_more : (m : ℕ) → (Of m).steps ≤ needed
  no_more m = no_longer t (path m) made refl quiet

  some_left : (m : ℕ) (s : Found) → next_step t (Of m).plan ≡ some s → (Of m).steps < needed
  some_left m s e = omega (arith, no_longer t (one_further t (path m) s e) made refl quiet)

  -- its plans are short enough
  short : (m j : ℕ) (v : List ℕ) → Steps t j plan v → j ≤ (Of m).steps → length v ≤ c
  short m j v p h = let F = run-followed t plan m l c in F.short fits j v p (omega (arith, h, F.counted))

  -- finished: it has made them all, and list and areas hold them
  finished_at : (m : ℕ) → (Of m).number ≡ 0 → ((Of m).steps ≡ needed) × ((Of m).plan ≡ end)
  finished_at m e = ends-once t (path m) ((ends-finished (run_ends t plan m l c)).0 e) made quiet

  finished-held : (m : ℕ) → (Of m).number ≡ 0 → Held t plan needed l c × (needed ≤ m)
  finished-held m e =
      let u = finished_at m e in (
        record {
          records_held = omega (arith, run-held t plan m l c, u.0);
          plans_held = λ j v p. short m j v p (omega (arith, no_longer t p made refl quiet, u.0));
        },
        omega (arith, within-allowance t plan l c m, u.0),
      )

  -- where these hold the run, only its allowance stops it
  stopped-held : (m : ℕ) {number : ℕ} → Stops t m l c (Of m).plan (Of m).steps number → Held t plan needed l c
      → (number ≡ 34) × ((Of m).steps ≡ m) × (m < needed)
  stopped-held m (allowance_spent s e h) i = (refl, h, omega (arith, some_left m s e, h))
  stopped-held m (list_full s e h r) i = absurd (omega (arith, some_left m s e, r, i.records_held))
  stopped-held m (next_too_long s e h r d) i = absurd (omega (arith, i.plans_held (suc (Of m).steps) s.plan (one_further t (path m) s e), d))

  enough : (m : ℕ) {number : ℕ} → Ends t m l c (Of m).plan (Of m).steps number → Held t plan needed l c → needed ≤ m → number ≡ 0
  enough m (no_law-fits e) i h = refl
  enough m (stops s) i h = absurd (omega (arith, (stopped-held m s i).2, h))

  held-finishes : (m : ℕ) → Held t plan needed l c → needed ≤ m → (Of m).number ≡ 0
  held-finishes m i h = enough m (run_ends t plan m l c) i h

  too_few : (m : ℕ) {number : ℕ} → Ends t m l c (Of m).plan (Of m).steps number → Held t plan needed l c → m < needed
      → (number ≡ 34) × ((Of m).steps ≡ m)
  too_few m (no_law-fits e) i h =
      absurd (omega (arith, (ends-once t (path m) e made quiet).0, within-allowance t plan l c m, h))
  too_few m (stops s) i h = let u = stopped-held m s i in (u.0, u.1)

  -- under 34 all steps allowed are made, and some are left; under 35 the list does not hold all of them; under 36 a plan of theirs is too long
  spent_left : (m : ℕ) {number : ℕ} → Stops t m l c (Of m).plan (Of m).steps number → number ≡ 34 → m < needed
  spent_left m (allowance_spent s e h) q = omega (arith, some_left m s e, h)
  spent_left m (list_full s e h r) q = absurd (omega (arith, q))
  spent_left m (next_too_long s e h r d) q = absurd (omega (arith, q))

  list-short : (m : ℕ) {number : ℕ} → Stops t m l c (Of m).plan (Of m).steps number → number ≡ 35 → l < 3 * needed
  list-short m (allowance_spent s e h) q = absurd (omega (arith, q))
  list-short m (list_full s e h r) q = omega (arith, some_left m s e, r)
  list-short m (next_too_long s e h r d) q = absurd (omega (arith, q))

  areas-short : (m : ℕ) {number : ℕ} → Stops t m l c (Of m).plan (Of m).steps number → number ≡ 36 → Within t c plan → ⊥
  areas-short m (allowance_spent s e h) q i = omega (arith, q)
  areas-short m (list_full s e h r) q i = omega (arith, q)
  areas-short m (next_too_long s e h r d) q i = omega (arith, i (suc (Of m).steps) s.plan (one_further t (path m) s e), d)

  -- what is left of the run, and the whole run where what is left of it is short enough
  left : (m : ℕ) → (i : ℕ) × ((Of m).steps + i ≡ needed) × Steps t i (Of m).plan end
  left m = left_over t (path m) made refl (no_more m)

  whole : (m : ℕ) → Within t c (Of m).plan → Within t c plan
  whole m h j v p = by (ltb (Of m).steps j) refl
    where
      by : (b : Bool) → ltb (Of m).steps j ≡ b → length v ≤ c
      by true q = let r = left_over t (path m) p refl (omega (arith, ltb-true (Of m).steps j q)) in h r.0 v r.2
      by false q = short m j v p (ltb-false (Of m).steps j q)

-- a run that is finished tells what its plan needs, and that so many bytes and words hold it
pub finished_needs : (t : Tables) (plan : List ℕ) (m l c : ℕ) (p : AcceptedPlan t plan) → length plan ≤ c → (run_of t plan m l c).number ≡ 0
    → (steps_needed t plan p ≡ (run_of t plan m l c).steps) × (end_plan t plan p ≡ (run_of t plan m l c).plan) × Held t plan (steps_needed t plan p) l c
finished_needs t plan m l c p fits h =
    let e = end-claims t plan p in
    let u = finished_at t plan l c fits (steps_needed t plan p) (end_plan t plan p) e.comes.made e.no_next m h in
    let d = finished-held t plan l c fits (steps_needed t plan p) (end_plan t plan p) e.comes.made e.no_next m h in
    (sym u.0, sym u.1, d.0)

-- Of the unfolding that is answered by such a run:
module _ (t : Tables) (plan list a b : List ℕ) (ok : unfold_refusal t plan (capacity a b) ≡ none) (fits : length plan ≤ capacity a b)
    (needed : ℕ) (end : List ℕ) (comes : ComesTo t plan needed end) (quiet : next_step t end ≡ none) where
  abbrev c : ℕ
  c = capacity a b

  abbrev R : ℕ → Run
  R m = run_of t plan m (length list) c

  abbrev O : ℕ → UnfoldOutcome
  O m = settled (R m) list a b

  -- the answer of a run by its number
  said-finished : (r : Run) → r.number ≡ 0 → unfolded r ≡ Ok (Finished r.steps (length r.plan))
  said-finished r e = rw (eq-eqb r.number 0 e)

  said-stopped : (r : Run) (k : ℕ) → r.number ≡ suc k → unfolded r ≡ Ok (Stopped (suc k) r.steps (length r.plan))
  said-stopped r k e = rw (ne_eqb r.number 0 (λ q. absurd (omega (arith, e, q))), e)

  finished-number : (m s z : ℕ) → (O m).answer ≡ Ok (Finished s z) → (R m).number ≡ 0
  finished-number m s z e = (told (R m) s z (shown-finished e)).finished_told.0 e

  stopped-number : (m k s z : ℕ) → (O m).answer ≡ Ok (Stopped k s z) → (R m).number ≡ k
  stopped-number m k s z e = ((told (R m) s z (shown-stopped k e)).stopped_told k e).0

  stopping : (m k s z : ℕ) → (O m).answer ≡ Ok (Stopped k s z) → Stops t m (length list) c (R m).plan (R m).steps (R m).number
  stopping m k s z e = ends-stopped (run_ends t plan m (length list) c) ((told (R m) s z (shown-stopped k e)).stopped_told k e).1

  -- the same unfolding once more
  repeated_as : (m n : ℕ) (again : UnfoldOutcome) → Repeated (unfold_given t plan m list a b) n again → again ≡ O n
  unfolding unfold_outcome capacity
  repeated_as m n again r =
      let e : capacity r.a r.b ≡ c = rw (r.a_long, r.b_long) in
      r.left_again ∙ rw (e, ok, r.list_long, r.a_long, r.b_long)

  repeated-itself : (m n : ℕ) → Repeated (unfold_given t plan m list a b) n (O n)
  unfolding unfold_outcome
  repeated-itself m n = record { list = list; a = a; b = b; list_long = refl; a_long = refl; b_long = refl; left_again = rw ok }

  finishes-held : (m n : ℕ) → FinishesWith (unfold_given t plan m list a b) n → Held t plan needed (length list) c × (needed ≤ n)
  finishes-held m n f =
      let e = sym (ap (λ (x : UnfoldOutcome). x.answer) (repeated_as m n f.again f.repeated)) ∙ f.finishes in
      finished-held t plan (length list) c fits needed end comes.made quiet n (finished-number n f.steps f.size e)

  -- an answer that its allowance did not stop
  unchanged : (m n : ℕ) → ((R m).number ≡ 34 → ⊥) → m ≤ n → (again : UnfoldOutcome) → Repeated (unfold_given t plan m list a b) n again → again ≡ O m
  unchanged m n f h again r = repeated_as m n again r ∙ ap (λ (x : Run). settled x list a b) (same_with_more t plan (length list) c m n h f)

  begins : (m n s z s' z' : ℕ) → Reports (O m).answer s z → m ≤ n → Reports (O n).answer s' z'
      → Beginning (own_rewriting s (O m).list) (own_rewriting s' (O n).list)
  begins m n s z s' z' h d i =
      let x = begins_with_more t plan (length list) c m n d in
      let p = own_told (R m) s z (length list) (told (R m) s z (shown h)) (run-records-long t plan m (length list) c) in
      let q = own_told (R n) s' z' (length list) (told (R n) s' z' (shown i)) (run-records-long t plan n (length list) c) in
      rw (p, q) (bytes_of x.0, ap bytes_of x.1 ∙ bytes_append (R m).moves x.0)

  rest-comes : (m s z : ℕ) → Reports (O m).answer s z → (s ≤ needed) × ComesTo t (reached_in (O m) s z) (needed - s) end
  rest-comes m s z h =
      let o = told (R m) s z (shown h) in
      let i = left t plan (length list) c fits needed end comes.made quiet m in
      let e : i.0 ≡ needed - s = omega (arith, i.1, o.steps_told) in
      rw (reached_told (R m) s z (length a) (length b) o)
      (omega (arith, i.1, o.steps_told), record { made = subst (λ (k : ℕ). Steps t k (R m).plan end) e i.2; basic = comes.basic })

  helps : (m s z : ℕ) → (O m).answer ≡ Ok (Stopped 34 s z)
      → ((n : ℕ) × (m < n) × (n ≤ most_steps) × FinishesWith (unfold_given t plan m list a b) n)
      ↔ ((needed ≤ most_steps) × (3 * needed ≤ length list) × Within t c (reached_in (O m) s z))
  helps m s z e =
      let o = told (R m) s z (shown-stopped 34 e) in
      rw (reached_told (R m) s z (length a) (length b) o) (to, λ x. from x.0 x.1 x.2)
    where
      made : Steps t needed plan end
      made = comes.made

      to : (n : ℕ) × (m < n) × (n ≤ most_steps) × FinishesWith (unfold_given t plan m list a b) n
          → (needed ≤ most_steps) × (3 * needed ≤ length list) × Within t c (R m).plan
      to x =
          let y = finishes-held m x.0 x.3 in
          (omega (arith, y.1, x.2), y.0.records_held, within-rest t (path t plan (length list) c fits needed end made quiet m) y.0.plans_held)

      from : needed ≤ most_steps → 3 * needed ≤ length list → Within t c (R m).plan
          → (n : ℕ) × (m < n) × (n ≤ most_steps) × FinishesWith (unfold_given t plan m list a b) n
      from h r w =
          let i : Held t plan needed (length list) c = record { records_held = r; plans_held = whole t plan (length list) c fits needed end made quiet m w } in
          let f = held-finishes t plan (length list) c fits needed end made quiet needed i (omega arith) in (
            needed,
            spent_left t plan (length list) c fits needed end made quiet m (stopping m 34 s z e) (stopped-number m 34 s z e),
            h,
            record {
              again = O needed;
              repeated = repeated-itself m needed;
              steps = (R needed).steps;
              size = length (R needed).plan;
              finishes = said-finished (R needed) f;
            },
          )

  pub allowance-claims : (m : ℕ) → AllowanceClaims (unfold_given t plan m list a b) needed end (O m)
  allowance-claims m =
      record {
        finished_exactly = λ s z. (finished_so s z, λ x. finishes_so s z x.0 x.1 x.2 x.3);
        finished_there = λ s z e.
            reached_told (R m) s z (length a) (length b) (told (R m) s z (shown-finished e)) ∙ (ended_at (finished-number m s z e)).1;
        fewer_stopped = fewer;
        finished_unchanged = λ s z e n. unchanged m n (λ q. absurd (omega (arith, q, finished-number m s z e)));
        list_begins = λ s z h n d again r s' z'.
            rw (repeated_as m n again r) (λ i. begins m n s z s' z' h d i);
        rest = rest-comes m;
        larger_helps = helps m;
        list_too_short = λ s z e.
            list-short t plan (length list) c fits needed end comes.made quiet m (stopping m 35 s z e) (stopped-number m 35 s z e);
        areas_too_short = λ s z e.
            areas-short t plan (length list) c fits needed end comes.made quiet m (stopping m 36 s z e) (stopped-number m 36 s z e);
        none_helps = λ k s z e d n f.
            let u = stopped-held t plan (length list) c fits needed end comes.made quiet m (stopping m k s z e) (finishes-held m n f).0 in
            omega (arith, u.0, d, stopped-number m k s z e);
        stopped_unchanged = λ k s z e d n. unchanged m n (λ q. absurd (omega (arith, q, d, stopped-number m k s z e)));
      }
    where
      ended_at : (R m).number ≡ 0 → ((R m).steps ≡ needed) × ((R m).plan ≡ end)
      ended_at = finished_at t plan (length list) c fits needed end comes.made quiet m

      finished_so : (s z : ℕ) → (O m).answer ≡ Ok (Finished s z) → Held t plan needed (length list) c × (needed ≤ m) × (s ≡ needed) × (z ≡ length end)
      finished_so s z e =
          let o = told (R m) s z (shown-finished e) in
          let n = finished-number m s z e in
          let h = finished-held t plan (length list) c fits needed end comes.made quiet m n in
          (h.0, h.1, o.steps_told ∙ (ended_at n).0, o.size_told ∙ ap length (ended_at n).1)

      finishes_so : (s z : ℕ) → Held t plan needed (length list) c → needed ≤ m → s ≡ needed → z ≡ length end → (O m).answer ≡ Ok (Finished s z)
      finishes_so s z h d i j =
          let n = held-finishes t plan (length list) c fits needed end comes.made quiet m h d in
          said-finished (R m) n ∙ rw ((ended_at n).0, (ended_at n).1, i, j)

      fewer : Held t plan needed (length list) c → m < needed → (z : ℕ) × ((O m).answer ≡ Ok (Stopped 34 m z))
      fewer h d =
          let u = too_few t plan (length list) c fits needed end comes.made quiet m (run_ends t plan m (length list) c) h d in
          (length (R m).plan, said-stopped (R m) 33 u.0 ∙ ap (λ (k : ℕ). Ok (Stopped 34 k (length (R m).plan))) u.1)

-- What is claimed of the calls of a walk holds of their outcomes.
use Rattle.std.specs.Prelude.{Result, Ok, Err, ⊤}
use Prim.Native.Nat.{ℕ, ◌≤◌, ◌<◌}
use native.Mathlib.Omega.{arith}
use mathlib.Core.Path.{◌≡◌, refl, ap, ap₂, sym, ◌∙◌, subst}
use mathlib.Core.Bool.{Bool, true, false, false≢true}
use mathlib.Core.List.{List, [], ◌∷◌}
use mathlib.Core.Logic.{◌↔◌, ◌⊎◌, inl, inr}
use mathlib.Core.Option.{Option, none, some, some-injective}
use lib.Dec.{eqb, ltb}
use lib.ListN.{length}
use lib.Seq.{ext_get_or}
use borrow.Author.Tests.{eqb-true, eqb-false, ltb-true, ltb-false}
use Rattle.refusals.specs.declared.Place.TheVariants.{Nowhere}
use Rattle.refusals.specs.declared.Refusal.{Refusal}
use Rattle.refusals.specs.Refusal.{refuse, report, reported}
use Rattle.tables.specs.Tables.{Tables, actions, outside?}
use Rattle.tables.proofs.Actions.{is_outside, outside-said, not_outside, within}
use Rattle.plans.specs.Basic.{basic_words?}
use Rattle.plans.specs.Judging.{plan_refusal}
use Rattle.plans.specs.Accepted.{BasicPlan}
use Rattle.plans.proofs.Options.{never}
use Rattle.plans.proofs.Accepted.{accepted-plan, accepted-reads_as, basic_plan}
use Rattle.trees.specs.Tree.{Rest, finish}
use Rattle.paths.specs.Subplans.{Target, at_finish, subplan, rest_of}
use Rattle.walks.specs.Progress.{Progress, fresh}
use Rattle.walks.specs.Pass.{take_message}
use Rattle.walks.specs.Turns.{message_outcome}
use Rattle.walks.specs.Outcome.{not_walkable_refusal, WalkOutcome, accepted_outcome, refused_outcome, fresh_outcome, walk_outcome, walk_refusal}
use Rattle.walks.specs.Reached.{FromMark, MarkedBranch}
use Rattle.walks.specs.Claims.{Walkable, NotWalkable, by_plan, not_basic, other_length, AfterMessages, FreshClaims, Taken, NotTaken, not_walkable, outside, no_path, WalkClaims}
use Rattle.walks.proofs.Outcomes.{refusal_plan, refusal_not_basic, refusal_length, refusal_none, none_said, fresh-refused, fresh_begun, walk_refused, walk-outside, walk-on, message_inside, fresh_numbers, walk_numbers}
use Rattle.walks.proofs.Taken.{taken_led, leads-branch, branch_leads, taken_iff_branch}
use Rattle.walks.proofs.Written.{taken-written}
use Rattle.walks.proofs.Walked.{can_walk, walk_takes, walk-finish, walk-marks, walk_paths, walked-fits, walked-written}
use Rattle.walks.proofs.Deciding.{same_truth, same_replies}

-- outcomes of both kinds are told apart
not_accepted {ℓ} : {C : Type ℓ} {r : Refusal} → ◌≡◌ {A = Result ⊤ Refusal} (Err r) (Ok tt) → C
not_accepted h = let z : ◌≡◌ {A = ℕ} 0 1 = cc in absurd (omega arith)

answer : WalkOutcome → Result ⊤ Refusal
answer o = o.answer

accepted-refused {ℓ} : {C : Type ℓ} {p q : Progress} {r : Refusal} → accepted_outcome q ≡ refused_outcome r p → C
unfolding answer
accepted-refused e = not_accepted (sym (ap answer e))

accepted_same : {q r : Progress} → accepted_outcome q ≡ accepted_outcome r → q ≡ r
accepted_same e = ap (λ (o : WalkOutcome). o.progress) e

refused_same : {p : Progress} {r f : Refusal} → refused_outcome r p ≡ refused_outcome f p → r ≡ f
unfolding answer
refused_same {r = r} {f = f} e = of (ap answer e)
  where
    of : ◌≡◌ {A = Result ⊤ Refusal} (Err r) (Err f) → r ≡ f
    of h = cc

-- whether a plan can be walked
module _ (t : Tables) (plan marks : List ℕ) where
  walkable-said : not_walkable_refusal t plan marks ≡ none → Walkable t plan marks
  walkable-said e = let k = none_said t plan marks e in record { basic = (basic_plan t plan).0 (k.0, k.1); fits = k.2 }

  walkable_none : Walkable t plan marks → not_walkable_refusal t plan marks ≡ none
  walkable_none w = can_walk t plan w.basic marks w.fits

  not_walkable_some : (r : Refusal) → NotWalkable t plan marks r → not_walkable_refusal t plan marks ≡ some r
  not_walkable_some r (by_plan f e) = refusal_plan t plan marks f e
  not_walkable_some r (not_basic a f) = let e = (accepted-plan t plan).1 a in refusal_not_basic t plan marks e (never_so (basic_words? (actions t) plan) (λ b. f ((basic_plan t plan).0 (e, b))))
    where
      never_so : (b : Bool) → (b ≡ true → ⊥) → b ≡ false
      never_so true f = absurd (f refl)
      never_so false f = refl
  not_walkable_some r (other_length a f) = refusal_length t plan marks ((accepted-plan t plan).1 a) f

  not_walkable-said : (r : Refusal) → not_walkable_refusal t plan marks ≡ some r → NotWalkable t plan marks r
  not_walkable-said r e = go (plan_refusal t plan) refl
    where
      seventy : not_walkable_refusal t plan marks ≡ refuse 70 Nowhere → NotWalkable t plan marks (record { number = 70; place = Nowhere }) → NotWalkable t plan marks r
      seventy d k = subst (NotWalkable t plan marks) (some-injective _ _ (sym d ∙ e)) k

      lengths : plan_refusal t plan ≡ none → basic_words? (actions t) plan ≡ true → (b : Bool) → eqb (length marks) (length plan) ≡ b → NotWalkable t plan marks r
      lengths d b true l = never (sym (refusal_none t plan marks d b (eqb-true _ _ l)) ∙ e)
      lengths d b false l = let f = eqb-false (length marks) (length plan) l in seventy (refusal_length t plan marks d f) (other_length ((accepted-plan t plan).0 d) f)

      basic_so : plan_refusal t plan ≡ none → (b : Bool) → basic_words? (actions t) plan ≡ b → NotWalkable t plan marks r
      basic_so d true b = lengths d b (eqb (length marks) (length plan)) refl
      basic_so d false b = seventy (refusal_not_basic t plan marks d b) (not_basic ((accepted-plan t plan).0 d) (λ k. false≢true (sym b ∙ ((basic_plan t plan).1 k).1)))

      go : (o : Option Refusal) → plan_refusal t plan ≡ o → NotWalkable t plan marks r
      go none d = basic_so d (basic_words? (actions t) plan) refl
      go (some f) d = by_plan r (d ∙ (sym (refusal_plan t plan marks f d) ∙ e))

-- every list of messages from a fresh walk
module _ (t : Tables) (plan : List ℕ) (b : BasicPlan t plan) (ms : List ℕ) where
  after_messages : AfterMessages t plan b.plan.term (fresh plan) ms
  after_messages =
      record {
        taken_exactly = walk_takes t plan b ms;
        finish_exactly = walk-finish t plan b ms;
        marks_exactly = walk-marks t plan b ms;
        paths_exactly = walk_paths t plan b ms;
        one_byte_each = walked-fits t plan b ms;
        written_as_one = walked-written t plan b ms;
      }

-- a fresh walk
data Begun (t : Tables) (plan : List ℕ) (p : Progress) : WalkOutcome → Type 0 where
  begun : not_walkable_refusal t plan p.marks ≡ none → Begun t plan p (accepted_outcome (fresh plan))
  refused : (r : Refusal) → not_walkable_refusal t plan p.marks ≡ some r → Begun t plan p (refused_outcome r p)

module _ (t : Tables) (plan : List ℕ) (p : Progress) where
  by_refusal : Begun t plan p (fresh_outcome t plan p)
  by_refusal = go (not_walkable_refusal t plan p.marks) refl
    where
      go : (o : Option Refusal) → not_walkable_refusal t plan p.marks ≡ o → Begun t plan p (fresh_outcome t plan p)
      go none e = subst (Begun t plan p) (sym (fresh_begun t plan p e)) (begun e)
      go (some r) e = subst (Begun t plan p) (sym (fresh-refused t plan p r e)) (refused r e)

  pub fresh-claims : {o : WalkOutcome} → o ≡ fresh_outcome t plan p → FreshClaims t plan p o
  fresh-claims d = subst (FreshClaims t plan p) (sym d) (so by_refusal)
    where
      so : {o : WalkOutcome} → Begun t plan p o → FreshClaims t plan p o
      so (begun e) =
          record {
            begun_exactly = (λ h. walkable-said t plan p.marks e, λ h. refl);
            refused_exactly = λ r. (λ h. accepted-refused h, λ k. never (sym e ∙ not_walkable_some t plan p.marks r k));
            nothing_else = inl refl;
            every_list = λ h b ms. after_messages t plan b ms;
            trees_decide = λ h b t' other c like ms. same_replies t t' plan other b c like ms;
          }
      so (refused r e) =
          record {
            begun_exactly = (λ h. accepted-refused (sym h), λ w. never (sym (walkable_none t plan p.marks w) ∙ e));
            refused_exactly = λ f. (λ h. not_walkable-said t plan p.marks f (e ∙ ap some (refused_same h)), λ k. ap (λ r. refused_outcome r p) (some-injective _ _ (sym e ∙ not_walkable_some t plan p.marks f k)));
            nothing_else = inr (r, refl);
            every_list = λ h. not_accepted h;
            trees_decide = λ h. not_accepted h;
          }

-- a message
one_or_none : (a b : ℕ) → a ≤ 1 → b ≤ 1 → (0 < a → 0 < b) → (0 < b → 0 < a) → a ≡ b
one_or_none a b la lb f g = go (ltb 0 a) refl (ltb 0 b) refl
  where
    go : (c : Bool) → ltb 0 a ≡ c → (d : Bool) → ltb 0 b ≡ d → a ≡ b
    go true c d e = let x = ltb-true 0 a c in let y = f x in omega arith
    go false c true e = let x = g (ltb-true 0 b e) in let y = ltb-false 0 a c in omega arith
    go false c false e = let x = ltb-false 0 a c in let y = ltb-false 0 b e in omega arith

module _ (t : Tables) (plan : List ℕ) (m : ℕ) (p : Progress) where
  -- what is known of a progress after the message fixes it
  same_progress : (q r : Progress) → Taken t plan m p q → Taken t plan m p r → q ≡ r
  same_progress q r x y =
      ap₂ (λ l b. record { marks = l; finish = b })
      (ext_get_or 0 q.marks r.marks (x.one_byte_each ∙ sym y.one_byte_each)
      (λ k h. one_or_none _ _ (x.written_as_one k) (y.written_as_one k) (λ l. (y.marks_exactly k).1 ((x.marks_exactly k).0 l)) (λ l. (x.marks_exactly k).1 ((y.marks_exactly k).0 l))))
      (same_truth _ _ (λ h. y.finish_exactly.1 (x.finish_exactly.0 h)) (λ h. x.finish_exactly.1 (y.finish_exactly.0 h)))

  module _ (w : Walkable t plan p.marks) where
    few : actions t ≤ 31
    few = w.basic.plan.lawful.well_formed.few_actions

    branch-taken : ((q : Progress) × (take_message (actions t) plan m p ≡ some q)) ↔ ((r : Rest) × MarkedBranch (actions t) plan p.marks t m r)
    branch-taken = taken_iff_branch (actions t) few plan w.basic.plan.term w.basic.basic (accepted-reads_as t plan w.basic.plan) m p w.fits t

    branches_so : (r : Rest) → MarkedBranch (actions t) plan p.marks t m r ↔ ((g : Target) × (r ≡ rest_of t g) × FromMark (actions t) plan p.marks (m ∷ []) g)
    branches_so r = (
      branch_leads (actions t) few plan w.basic.plan.term w.basic.basic (accepted-reads_as t plan w.basic.plan) m p w.fits t r,
      λ h. subst (MarkedBranch (actions t) plan p.marks t m) (sym h.1)
          (leads-branch (actions t) few plan w.basic.plan.term w.basic.basic (accepted-reads_as t plan w.basic.plan) m p w.fits t h.0 h.2),
    )

    finish-branch : FromMark (actions t) plan p.marks (m ∷ []) at_finish ↔ MarkedBranch (actions t) plan p.marks t m finish
    finish-branch = (λ f. (branches_so finish).1 (at_finish, refl, f), λ b. let c = (branches_so finish).0 b in only c.0 c.1 c.2)
      where
        only : (g : Target) → finish ≡ rest_of t g → FromMark (actions t) plan p.marks (m ∷ []) g → FromMark (actions t) plan p.marks (m ∷ []) at_finish
        only at_finish e f = f
        only (subplan s v) e f = let z : ◌≡◌ {A = ℕ} 0 1 = cc in absurd (omega arith)

    taken_so : (q : Progress) → take_message (actions t) plan m p ≡ some q → Taken t plan m p q
    taken_so q d =
        let k = taken_led (actions t) few plan w.basic.plan.term w.basic.basic (accepted-reads_as t plan w.basic.plan) m p w.fits q d in
        record {
          walkable = w;
          branch = branch-taken.0 (q, d);
          marks_exactly = k.marks_iff;
          finish_exactly = (λ h. finish-branch.0 (k.finish_iff.0 h), λ b. k.finish_iff.1 (finish-branch.1 b));
          one_byte_each = k.fits_too;
          written_as_one = taken-written (actions t) plan m p q d;
        }

  -- the outcome, with what makes it
  data Brought : WalkOutcome → Type 0 where
    brought : (q : Progress) → Taken t plan m p q → Brought (accepted_outcome q)
    turned_back : (r : Refusal) → NotTaken t plan m p r → Brought (refused_outcome r p)

  at_message : (w : Walkable t plan p.marks) → outside? (actions t) m ≡ false → (a : Option Progress) → take_message (actions t) plan m p ≡ a → Brought (message_outcome a p)
  at_message w o none d =
      let k = within (actions t) m o in
      turned_back (record { number = 72; place = Nowhere }) (no_path w (omega (arith, k.0)) k.1 (λ r b. never (sym d ∙ ((branch-taken w).1 (r, b)).1)))
  at_message w o (some q) d = brought q (taken_so w q d)

  at_action : not_walkable_refusal t plan p.marks ≡ none → (b : Bool) → outside? (actions t) m ≡ b → Brought (walk_outcome t plan m p)
  at_action e true o = subst Brought (sym (walk-outside t plan p m e o)) (turned_back _ (outside (walkable-said t plan p.marks e) (outside-said (actions t) m o)))
  at_action e false o = subst Brought (sym (walk-on t plan p m e o)) (at_message (walkable-said t plan p.marks e) o (take_message (actions t) plan m p) refl)

  by_message : Brought (walk_outcome t plan m p)
  by_message = go (not_walkable_refusal t plan p.marks) refl
    where
      go : (o : Option Refusal) → not_walkable_refusal t plan p.marks ≡ o → Brought (walk_outcome t plan m p)
      go none e = at_action e (outside? (actions t) m) refl
      go (some r) e = subst Brought (sym (walk_refused t plan p m r e)) (turned_back r (not_walkable r (not_walkable-said t plan p.marks r e)))

  -- and the other way round
  not_taken-outcome : (r : Refusal) → NotTaken t plan m p r → walk_outcome t plan m p ≡ refused_outcome r p
  not_taken-outcome r (not_walkable f k) = walk_refused t plan p m f (not_walkable_some t plan p.marks f k)
  not_taken-outcome r (outside w h) = walk-outside t plan p m (walkable_none t plan p.marks w) (is_outside (actions t) m h)
  not_taken-outcome r (no_path w low high f) =
      walk-on t plan p m (walkable_none t plan p.marks w) (not_outside (actions t) m (omega arith) high) ∙ ap (λ a. message_outcome a p) (nothing (take_message (actions t) plan m p) refl)
    where
      nothing : (a : Option Progress) → take_message (actions t) plan m p ≡ a → take_message (actions t) plan m p ≡ none
      nothing none d = d
      nothing (some q) d = let b = (branch-taken w).0 (q, d) in absurd (f b.0 b.1)

  taken-outcome : (q : Progress) → Taken t plan m p q → walk_outcome t plan m p ≡ accepted_outcome q
  taken-outcome q k =
      let w = k.walkable in
      let d = (branch-taken w).1 k.branch in
      let o = message_inside (actions t) plan m p d.0 d.1 in
      walk-on t plan p m (walkable_none t plan p.marks w) o ∙ (ap (λ a. message_outcome a p) d.1 ∙ ap accepted_outcome (same_progress d.0 q (taken_so w d.0 d.1) k))

  pub walk-claims : {o : WalkOutcome} → o ≡ walk_outcome t plan m p → WalkClaims t plan m p o
  walk-claims d = subst (WalkClaims t plan m p) (sym d) (record { taken_exactly = taken_exactly; refused_exactly = refused_exactly; nothing_else = nothing_else; branches_exactly = branches_so })
    where
      taken_by : {o : WalkOutcome} → Brought o → (q : Progress) → o ≡ accepted_outcome q → Taken t plan m p q
      taken_by (brought r k) q e = subst (Taken t plan m p) (accepted_same e) k
      taken_by (turned_back r k) q e = accepted-refused (sym e)

      refused_by : {o : WalkOutcome} → Brought o → (r : Refusal) → o ≡ refused_outcome r p → NotTaken t plan m p r
      refused_by (brought q k) r e = accepted-refused e
      refused_by (turned_back f k) r e = subst (NotTaken t plan m p) (refused_same e) k

      either : {o : WalkOutcome} → Brought o → ((q : Progress) × (o ≡ accepted_outcome q)) ⊎ ((r : Refusal) × (o ≡ refused_outcome r p))
      either (brought q k) = inl (q, refl)
      either (turned_back r k) = inr (r, refl)

      taken_exactly : (q : Progress) → (walk_outcome t plan m p ≡ accepted_outcome q) ↔ Taken t plan m p q
      taken_exactly q = (taken_by by_message q, taken-outcome q)

      refused_exactly : (r : Refusal) → (walk_outcome t plan m p ≡ refused_outcome r p) ↔ NotTaken t plan m p r
      refused_exactly r = (refused_by by_message r, not_taken-outcome r)

      nothing_else : ((q : Progress) × (walk_outcome t plan m p ≡ accepted_outcome q)) ⊎ ((r : Refusal) × (walk_outcome t plan m p ≡ refused_outcome r p))
      nothing_else = either by_message

-- everything that the public calls say
pub fresh-said : (t : Tables) (plan : List ℕ) (p : Progress) {o : WalkOutcome} → o ≡ fresh_outcome t plan p
    → (o ≡ fresh_outcome t plan p) × ((report o.answer ≡ reported (not_walkable_refusal t plan p.marks) []) × FreshClaims t plan p o)
fresh-said t plan p e = (e, (ap (λ (o : WalkOutcome). report o.answer) e ∙ fresh_numbers t plan p, fresh-claims t plan p e))

pub walk-said : (t : Tables) (plan : List ℕ) (m : ℕ) (p : Progress) {o : WalkOutcome} → o ≡ walk_outcome t plan m p
    → (o ≡ walk_outcome t plan m p) × ((report o.answer ≡ reported (walk_refusal t plan m p) []) × WalkClaims t plan m p o)
walk-said t plan m p e = (e, (ap (λ (o : WalkOutcome). report o.answer) e ∙ walk_numbers t plan m p, walk-claims t plan m p e))

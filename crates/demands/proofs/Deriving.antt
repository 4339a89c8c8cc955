-- A check accepts exactly the derivations: what is not refused, with records that lead, each fitting as people read it, to the claimed plan.
use Rattle.std.specs.Prelude.{Ok}
use Prim.Native.Nat.{ℕ}
use mathlib.Core.Path.{◌≡◌}
use mathlib.Core.List.{List, [], ◌∷◌}
use mathlib.Core.Option.{none, some}
use mathlib.Core.Logic.{◌↔◌}
use Rattle.tables.specs.Tables.{Tables, actions}
use Rattle.tables.specs.Lawful.{Lawful}
use Rattle.tables.proofs.Lawful.{accepted_iff_lawful}
use Rattle.plans.specs.Accepted.{AcceptedPlan}
use Rattle.plans.specs.Judging.{words_refusal}
use Rattle.plans.proofs.Accepted.{plan-accepted_iff, accepted-plan}
use Rattle.laws.proofs.Fits.{step_iff}
use Rattle.laws.proofs.Backward.{back_iff}
use Rattle.rewritings.specs.Records.{Recorded, forward, backward, records_of}
use Rattle.checking.specs.declared.Checked.TheVariants.{Accepted}
use Rattle.checking.specs.Checking.{step_of, check_outcome}
use Rattle.checking.proofs.Accepting.{Trail, arrived, onward, accepted-accepts, accepts-accepted}
use Rattle.checking.proofs.Good.{Good, GoodAll, records_good, good_none}
use Rattle.demands.specs.Claims.{check_given, Taken, TakenAll, FitsRecord, Leads, at_end, by_step, Derivation}

module _ (t : Tables) where
  -- plans under lawful tables
  pub accepted-words : (w : List ℕ) → AcceptedPlan t w → words_refusal (actions t) w ≡ none
  accepted-words w h = ((plan-accepted_iff t w).0 ((accepted-plan t w).1 h)).1

  pub words-accepted : Lawful t → (w : List ℕ) → words_refusal (actions t) w ≡ none → AcceptedPlan t w
  words-accepted lawful w e = (accepted-plan t w).0 ((plan-accepted_iff t w).1 ((accepted_iff_lawful t).1 lawful, e))

  -- the records that are taken are those that nothing refuses
  pub taken_good : (r : Recorded) → Taken t r → Good (actions t) r
  taken_good (forward m) h = (h.first_law, h.last_law)
  taken_good (backward m left) h = ((h.first_law, h.last_law), accepted-words left h.carries_plan)

  good_taken : Lawful t → (r : Recorded) → Good (actions t) r → Taken t r
  good_taken lawful (forward m) g = record { first_law = g.0; last_law = g.1; carries_plan = tt }
  good_taken lawful (backward m left) g =
      record { first_law = g.0.0; last_law = g.0.1; carries_plan = words-accepted lawful left g.1 }

  taken_all_good : (rs : List Recorded) → TakenAll t rs → GoodAll (actions t) rs
  taken_all_good [] h = tt
  taken_all_good (r ∷ rs) h = (taken_good r h.0, taken_all_good rs h.1)

  good_all_taken : Lawful t → (rs : List Recorded) → GoodAll (actions t) rs → TakenAll t rs
  good_all_taken lawful [] g = tt
  good_all_taken lawful (r ∷ rs) g = (good_taken lawful r g.0, good_all_taken lawful rs g.1)

  -- a step that is taken is made exactly when it fits, as people read it
  pub fits_iff : Lawful t → (r : Recorded) → Taken t r → (w next : List ℕ) → (step_of t r w ≡ some next) ↔ FitsRecord t r w next
  unfolding step_of
  fits_iff lawful (forward m) h w next = step_iff t m.law h.first_law h.last_law m.place w next
  fits_iff lawful (backward m left) h w next =
      back_iff t lawful m.law h.first_law h.last_law m.place left w next (accepted-words left h.carries_plan)

  -- so steps made one after another are records that lead on
  trail_leads : Lawful t → {c : ℕ} {rs : List Recorded} {w z : List ℕ} → TakenAll t rs → Trail t c rs w z → Leads t c rs w z
  trail_leads lawful h arrived = at_end
  trail_leads lawful h (onward {r = r} {w = w} next e i tr) =
      by_step next ((fits_iff lawful r h.0 w next).0 e) i (trail_leads lawful h.1 tr)

  leads_trail : Lawful t → {c : ℕ} {rs : List Recorded} {w z : List ℕ} → TakenAll t rs → Leads t c rs w z → Trail t c rs w z
  leads_trail lawful h at_end = arrived
  leads_trail lawful h (by_step {r = r} {w = w} next f i l) =
      onward next ((fits_iff lawful r h.0 w next).1 f) i (leads_trail lawful h.1 l)

module _ (t : Tables) (start claimed rewriting a b : List ℕ) (k z : ℕ) where
  abbrev rs : List Recorded
  rs = records_of rewriting

  accepted_derivation : (check_outcome t start claimed rewriting a b).answer ≡ Ok (Accepted k z) → Derivation (check_given t start claimed rewriting a b) k z
  accepted_derivation e =
      let h = accepted-accepts t start claimed rewriting a b k z e in
      let p = h.passed in
      let lawful = (accepted_iff_lawful t).0 p.tables-pass in
      let taken = good_all_taken t lawful rs (records_good (actions t) rewriting p.none_unknown p.lefts_pass) in
      record {
        accepted_start = words-accepted t lawful start p.start_passes;
        accepted_claimed = words-accepted t lawful claimed p.claimed_passes;
        held = p.start_fits;
        none_short = p.none_short;
        taken = taken;
        leads = trail_leads t lawful taken h.trail;
        counted = h.counted;
        sized = h.sized;
      }

  derivation_accepted : Derivation (check_given t start claimed rewriting a b) k z → (check_outcome t start claimed rewriting a b).answer ≡ Ok (Accepted k z)
  derivation_accepted d =
      let lawful = d.accepted_start.lawful in
      let free = good_none (actions t) 0 rs (taken_all_good t rs d.taken) in
      accepts-accepted t start claimed rewriting a b k z
      record {
        passed = record {
          tables-pass = (accepted_iff_lawful t).1 lawful;
          start_passes = accepted-words t start d.accepted_start;
          claimed_passes = accepted-words t claimed d.accepted_claimed;
          start_fits = d.held;
          none_short = d.none_short;
          none_unknown = free.0;
          lefts_pass = free.1;
        };
        trail = leads_trail t lawful d.taken d.leads;
        counted = d.counted;
        sized = d.sized;
      }

  pub accepted_exactly : ((check_outcome t start claimed rewriting a b).answer ≡ Ok (Accepted k z)) ↔ Derivation (check_given t start claimed rewriting a b) k z
  accepted_exactly = (accepted_derivation, derivation_accepted)

-- Demand 3, entire: what is claimed of an unfolding and of a check holds of what the definitions say that they answer and leave.
use Rattle.std.specs.Prelude.{Ok}
use Prim.Native.Nat.{ℕ, ◌≤◌, ◌<◌, ◌*◌}
use native.Mathlib.Omega.{arith}
use mathlib.Core.Path.{◌≡◌, refl, sym, ◌∙◌, ap}
use mathlib.Core.List.{List, []}
use mathlib.Core.Option.{Option, none, some}
use mathlib.Core.Logic.{◌↔◌}
use lib.ListN.{length}
use borrow.Author.Tests.{le-ltb}
use Rattle.refusals.specs.declared.Refusal.{Refusal}
use Rattle.areas.specs.Area.{most_words}
use Rattle.areas.specs.Reached.{capacity}
use Rattle.tables.specs.Tables.{Tables, actions}
use Rattle.plans.specs.Judging.{plan_refusal, words_refusal}
use Rattle.plans.specs.Basic.{Basic}
use Rattle.plans.specs.Accepted.{AcceptedPlan, BasicPlan}
use Rattle.plans.proofs.Options.{never}
use Rattle.plans.proofs.Accepted.{plan-accepted_iff, accepted-plan, accepted-reads_as}
use Rattle.trees.specs.Meaning.{AlikePlans}
use Rattle.laws.specs.Step.{step}
use Rattle.laws.proofs.Stepping.{chain-alike}
use Rattle.laws.proofs.Normal.{no_step_iff_basic}
use Rattle.rewritings.specs.Moves.{bytes_of}
use Rattle.rewritings.proofs.Bytes.{LawedAll, forwards, forwards_cut}
use Rattle.rewritings.proofs.Choosing.{none_fits, fits_none}
use Rattle.rewritings.specs.Runs.{Run, run_of}
use Rattle.unfolding.specs.Unfolding.{unfold_refusal, unfold_outcome, unless_refused}
use Rattle.checking.specs.declared.Checked.TheVariants.{Accepted}
use Rattle.checking.specs.Checking.{replay_of, records_refusal, rewriting_refusal, check_refusal, check_outcome}
use Rattle.checking.proofs.Accepting.{accepted_alike}
pub use Rattle.demands.proofs.Reports.{take-padded, reached_is, unfold_accepts, reports_run}
use Rattle.demands.proofs.Reports.{shown, shown-stopped, not_refused, told, reached_told, own_told}
use Rattle.demands.proofs.Allowance.{end-claims, allowance-claims}
use Rattle.demands.specs.Allowance.{steps_needed, end_plan}
use Rattle.demands.specs.Claims.{UnfoldClaims, CheckClaims}
use Rattle.demands.proofs.Deriving.{words-accepted, accepted_exactly}
use Rattle.demands.proofs.Forward.{forward_as_before}
use Rattle.demands.proofs.Reversing.{reversed_accepted, reversed_bytes}
use Rattle.demands.proofs.Running.{left_none, Followed, run-followed, run_short, run-records-long, run_ends, ends-finished, ends-stopped}
use Rattle.laws.specs.Laws.{highest_law, first_choice}

-- a run from an accepted plan, within bounds that areas can have
module _ (t : Tables) (plan : List ℕ) (m l c : ℕ) (p : AcceptedPlan t plan) (held : length plan ≤ c) (few : c ≤ most_words) where
  abbrev R : Run
  R = run_of t plan m l c

  F : Followed t c m l 0 plan [] [] R
  F = run-followed t plan m l c

  plan-ok : plan_refusal t plan ≡ none
  plan-ok = (accepted-plan t plan).1 p

  reached_all : AlikePlans t plan R.plan × (length R.plan ≤ most_words → words_refusal (actions t) R.plan ≡ none)
  reached_all = chain-alike t p.lawful ((plan-accepted_iff t plan).0 plan-ok).1 F.chain

  reached_ok : words_refusal (actions t) R.plan ≡ none
  reached_ok = reached_all.1 (omega (arith, run_short t plan m l c held))

  pub reached_accepted : AcceptedPlan t R.plan
  reached_accepted = words-accepted t p.lawful R.plan reached_ok

  -- the own rewriting is whole, and its replay in areas that hold as much accepts
  own-accepted : (a b : List ℕ) → capacity a b ≡ c
      → (check_outcome t plan R.plan (bytes_of R.moves) a b).answer ≡ Ok (Accepted R.steps (length R.plan))
  unfolding check_outcome check_refusal rewriting_refusal records_refusal replay_of
  own-accepted a b h =
      let lawed : LawedAll (forwards R.moves) = rw F.is_own F.lawed in
      let cut = forwards_cut R.moves lawed in
      rw (h, plan-ok, reached_ok, le-ltb c (length plan) held, cut.1, cut.0, F.is_own, F.known 0, left_none (actions t) 0 F.own, F.replays)

  no_law : (x : AcceptedPlan t R.plan) → ((i k : ℕ) → i < length R.plan → first_choice ≤ k → k ≤ highest_law → step t k i R.plan ≡ none) ↔ Basic x.term
  no_law x = no_step_iff_basic t p.lawful.well_formed.few_actions R.plan x.term (accepted-reads_as t R.plan x)

  pub finished-basic : (R.number ≡ 0) ↔ BasicPlan t R.plan
  finished-basic =
      let e = ends-finished (run_ends t plan m l c) in (
        λ q. record { plan = reached_accepted; basic = (no_law reached_accepted).0 (none_fits t R.plan (e.0 q)) },
        λ q. e.1 (fits_none t R.plan ((no_law q.plan).1 q.basic)),
      )

module _ (t : Tables) (plan : List ℕ) (m : ℕ) (list a b : List ℕ) where
  abbrev c : ℕ
  c = capacity a b

  few_words : c ≤ most_words
  unfolding capacity
  few_words = omega arith

  same_capacity : (a'' b'' : List ℕ) → length a'' ≡ length a → length b'' ≡ length b → capacity a'' b'' ≡ c
  unfolding capacity
  same_capacity a'' b'' h i = rw (h, i)

  ends : Run
  ends = run_of t plan m (length list) c

  abbrev Claimed : Option Refusal → Type 0
  Claimed o = UnfoldClaims (record { tables = t; plan = plan; allowance = m; list = list; a = a; b = b }) (unless_refused o ends list a b)

  settled-claims : AcceptedPlan t plan → length plan ≤ c → Claimed none
  unfolding ends
  settled-claims p held =
      let l = run-records-long t plan m (length list) c in
      record {
        answered = (λ h. (ends.steps, length ends.plan, reports_run ends), λ h. (p, held));
        recorded = λ s z h.
            let o = told ends s z (shown h) in
            rw (own_told ends s z (length list) o l) (l ∙ ap (λ (x : ℕ). 3 * x) (sym o.steps_told), refl);
        own_rewriting_accepted = λ s z h a'' b'' i j.
            let o = told ends s z (shown h) in
            rw (reached_told ends s z (length a) (length b) o, own_told ends s z (length list) o l, o.steps_told, o.size_told)
            (own-accepted t plan m (length list) c p held few_words a'' b'' (same_capacity a'' b'' i j));
        reached_alike = λ s z h.
            rw (reached_told ends s z (length a) (length b) (told ends s z (shown h)))
            (reached_all t plan m (length list) c p held few_words).0;
        finished_iff_basic = λ s z h.
            let o = told ends s z (shown h) in
            let f = finished-basic t plan m (length list) c p held few_words in
            rw (reached_told ends s z (length a) (length b) o) (λ e. f.0 (o.finished_told.0 e), λ e. o.finished_told.1 (f.1 e));
        stopped_rightly = λ k s z h.
            let o = told ends s z (shown-stopped k h) in
            let q = o.stopped_told k h in
            rw (reached_told ends s z (length a) (length b) o, o.steps_told, ← q.0)
            (ends-stopped (run_ends t plan m (length list) c) q.1);
        comes_to_an_end = end-claims t plan;
        allowances = λ q i.
            let e = end-claims t plan q in
            allowance-claims t plan list a b ((unfold_accepts t plan c).1 (q, i)) i (steps_needed t plan q) (end_plan t plan q) e.comes e.no_next m;
      }

  unfold_claims_by : (o : Option Refusal) → unfold_refusal t plan c ≡ o → Claimed o
  unfold_claims_by none e = let h = (unfold_accepts t plan c).0 e in settled-claims h.0 h.1
  unfold_claims_by (some f) e =
      record {
        answered = (λ h. never (sym ((unfold_accepts t plan c).1 h) ∙ e), λ h. not_refused f (shown h.2));
        recorded = λ s z h. not_refused f (shown h);
        own_rewriting_accepted = λ s z h. not_refused f (shown h);
        reached_alike = λ s z h. not_refused f (shown h);
        finished_iff_basic = λ s z h. not_refused f (shown h);
        stopped_rightly = λ k s z h. not_refused f (shown-stopped k h);
        comes_to_an_end = end-claims t plan;
        allowances = λ q i. never (sym ((unfold_accepts t plan c).1 (q, i)) ∙ e);
      }

  pub unfold_claims :
      UnfoldClaims (record { tables = t; plan = plan; allowance = m; list = list; a = a; b = b }) (unfold_outcome t plan m list a b)
  unfolding unfold_outcome ends
  unfold_claims = unfold_claims_by (unfold_refusal t plan (capacity a b)) refl

pub check_claims : (t : Tables) (start claimed rewriting a b : List ℕ)
    → CheckClaims (record { tables = t; start = start; claimed = claimed; rewriting = rewriting; a = a; b = b }) (check_outcome t start claimed rewriting a b)
check_claims t start claimed rewriting a b =
    record {
      accepted_exactly = accepted_exactly t start claimed rewriting a b;
      accepted_alike = accepted_alike t start claimed rewriting a b;
      forward_as_before = λ h. forward_as_before t start claimed rewriting h a b;
      reversed_accepted = λ k z e. reversed_accepted t start claimed rewriting a b k z e;
      reversed_bytes = λ k z e. reversed_bytes t start claimed rewriting a b k z e;
    }

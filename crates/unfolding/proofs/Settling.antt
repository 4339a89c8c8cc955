-- The outcome of an unfolding, once its run is made and its plans are stored.
use Rattle.std.specs.Prelude.{Result, Ok, Err, Some, None, false, eqb}
use Prim.Native.Nat.{ℕ, ◌+◌, ◌-◌, ◌≤◌, ◌<◌, min}
use native.Mathlib.Omega.{arith}
use mathlib.Core.Path.{◌≡◌, refl, ◌∙◌, ap}
use mathlib.Core.List.{List, []}
use mathlib.Core.Option.{none, some}
use lib.ListN.{length, take, drop, length-drop}
use lib.Seq.{take_all}
use borrow.Author.Tests.{lt-ltb, le-ltb}
use Rattle.refusals.specs.declared.Place.TheVariants.{Nowhere}
use Rattle.refusals.specs.declared.Refusal.{Refusal}
use Rattle.areas.specs.Area.{overwrite, padded, most_words}
use Rattle.areas.specs.Reached.{capacity, even?, area_a, area_b}
use Rattle.areas.specs.Storing.{no_step, Stored}
use Rattle.areas.proofs.Area.{end-written}
use Rattle.areas.proofs.Storing.{kept_none}
use Rattle.tables.specs.Tables.{Tables}
use Rattle.tables.specs.Lawful.{Lawful}
use Rattle.tables.proofs.Lawful.{accepted_iff_lawful}
use Rattle.plans.specs.Judging.{plan_refusal}
use Rattle.plans.proofs.Accepted.{plan-accepted_iff}
use Rattle.rewritings.specs.Moves.{bytes_of}
use Rattle.unfolding.specs.declared.Unfolded.{Unfolded}
use Rattle.unfolding.specs.declared.Unfolded.TheVariants.{Finished, Stopped}
use Rattle.unfolding.specs.declared.Last.{Last}
use Rattle.graphsteps.specs.declared.Stop.{Stop}
use Rattle.graphsteps.specs.declared.Stop.TheVariants.{AllowanceSpent, ListFull, TooLong}
use Rattle.graphsteps.specs.Stopping.{stop_number}
use Rattle.rewritings.specs.Runs.{Run, run_of}
use Rattle.unfolding.specs.Unfolding.{UnfoldOutcome, unfolded, settled, unfold_refusal, unfold_outcome}
use Rattle.rounds.specs.Rounds.{Given}
use Rattle.unfolding.specs.Made.{RunMade}

-- a list of zeros alone
pub cleared : (l l' : List ℕ) → l' ≡ padded [] (length l) → length l' ≡ length l → l' ≡ padded [] (length l')
cleared l l' e k = rw k e

-- the plan stands at the end of its array
pub plan-given : (t : Tables) (c : ℕ) (plan ws ws' old : List ℕ) (front : ℕ) → length ws ≡ most_words → length old ≡ most_words → front + length plan ≡ most_words
    → ws' ≡ overwrite ws front plan → length ws' ≡ length ws → plan_refusal t plan ≡ none → length plan ≤ c → (drop front ws' ≡ plan) × Given t c ws' old front no_step
plan-given t c plan ws ws' old front long old_long sum e kept ok short =
    let q : drop front ws' ≡ plan = rw e (end-written ws front plan (omega arith)) in (
      q,
      record {
        long = kept ∙ long;
        old_long = old_long;
        front_in = omega arith;
        accepted = rw q ((plan-accepted_iff t plan).0 ok).1;
        kept = rw q (kept_none c plan old short);
      },
    )

-- the part of an array from a place on
pub part_is : (ws : List ℕ) (start : ℕ) → length ws ≡ most_words → take (most_words - start) (drop start ws) ≡ drop start ws
part_is ws start long = take_all (most_words - start) (drop start ws) (omega (arith, length-drop start ws))

pub lawful : (t : Tables) (plan : List ℕ) → plan_refusal t plan ≡ none → Lawful t
lawful t plan ok = (accepted_iff_lawful t).0 ((plan-accepted_iff t plan).0 ok).0

-- what stops a run has a number other than 0
some_number : (stop : Stop) → eqb (stop_number stop) 0 ≡ false
some_number AllowanceSpent = refl
some_number ListFull = refl
some_number TooLong = refl

module _ (t : Tables) (c m : ℕ) (plan w list list₁ list' ws old : List ℕ) (r : Last) (a b a' b' : List ℕ) (size : ℕ)
    (is_w : w ≡ plan) (long : length list₁ ≡ length list) (made : RunMade t c (run_of t w m (length list₁) c) ws old list₁ list' r)
    (q : Stored a b a' b' r.state (drop r.front ws) old size) where
  abbrev R : Run
  R = run_of t plan m (length list) c

  p : RunMade t c R ws old list₁ list' r
  p = rw (is_w, long) at made

  settle : (answer : Result Unfolded Refusal) → answer ≡ unfolded R → ◌≡◌ {A = UnfoldOutcome} (record { answer = answer; list = list'; a = a'; b = b' }) (settled R list a b)
  settle answer e =
      let x : list' ≡ padded (bytes_of R.moves) (length list) = p.records ∙ ap (padded (bytes_of R.moves)) long in
      let y : a' ≡ area_a (even? R.steps) R.plan R.before (length a) = q.in_a ∙ rw (p.prior, p.plan, p.given.kept.parity, p.steps) in
      let z : b' ≡ area_b (even? R.steps) R.plan R.before (length b) = q.in_b ∙ rw (p.prior, p.plan, p.given.kept.parity, p.steps) in
      cc

  pub settle_finished : r.stop ≡ None
      → ◌≡◌ {A = UnfoldOutcome} (record { answer = Ok (Finished r.state.steps size); list = list'; a = a'; b = b' }) (settled R list a b)
  settle_finished h = settle _ (rw (← p.number, h, ← p.steps, ← p.plan, q.plan_size))

  pub settle_stopped : (stop : Stop) → r.stop ≡ Some stop
      → ◌≡◌ {A = UnfoldOutcome} (record { answer = Ok (Stopped (stop_number stop) r.state.steps size); list = list'; a = a'; b = b' }) (settled R list a b)
  settle_stopped stop h = settle _ (rw (← p.number, h, some_number stop, ← p.steps, ← p.plan, q.plan_size))

pub is_capacity : (a b : List ℕ) (c : ℕ) → c ≡ min (min (length a) (length b)) most_words → c ≡ capacity a b
unfolding capacity
is_capacity a b c e = e

-- the whole outcome, by what is refused
module _ (t : Tables) (plan : List ℕ) (m : ℕ) (list a b : List ℕ) where
  pub outcome-refused : (f : Refusal) → plan_refusal t plan ≡ some f
      → ◌≡◌ {A = UnfoldOutcome} (record { answer = Err f; list = list; a = a; b = b }) (unfold_outcome t plan m list a b)
  unfolding unfold_outcome unfold_refusal
  outcome-refused f e = rw e

  module _ (ok : plan_refusal t plan ≡ none) (c : ℕ) (is_c : c ≡ min (min (length a) (length b)) most_words) where
    pub outcome-long : c < length plan
        → ◌≡◌ {A = UnfoldOutcome} (record { answer = Err (record { number = 15; place = Nowhere }); list = list; a = a; b = b }) (unfold_outcome t plan m list a b)
    unfolding unfold_outcome unfold_refusal capacity
    outcome-long h = rw (ok, ← is_c, lt-ltb c (length plan) h)

    pub outcome-settled : {o : UnfoldOutcome} → o ≡ settled (run_of t plan m (length list) c) list a b → length plan ≤ c → o ≡ unfold_outcome t plan m list a b
    unfolding unfold_outcome unfold_refusal capacity
    outcome-settled e h = rw (ok, ← is_c, le-ltb c (length plan) h) e

-- The counts of an accepted plan are those of its paths.
use Prim.Native.Nat.{ℕ, ◌≤◌}
use native.Mathlib.Omega.{arith}
use mathlib.Core.Path.{◌≡◌, refl, sym}
use mathlib.Core.Bool.{Bool, true, false}
use mathlib.Core.List.{List}
use mathlib.Core.Logic.{◌↔◌}
use mathlib.Core.Option.{none}
use lib.ListN.{length}
use Rattle.tables.specs.Tables.{Tables, actions}
use Rattle.plans.specs.Term.{Term, words}
use Rattle.plans.specs.Judging.{plan_refusal}
use Rattle.plans.specs.Basic.{basic_words?}
use Rattle.plans.specs.Orders.{counts, counts_of}
use Rattle.plans.specs.Accepted.{BasicPlan}
use Rattle.plans.proofs.Accepted.{accepted-plan, accepted-reads_as, basic_plan}
use Rattle.plans.proofs.Basic.{basic?_iff}
use Rattle.plans.proofs.Orders.{counts-add, none_counted}
use Rattle.trees.specs.Tree.{Rest}
use Rattle.paths.specs.Ends.{PathTo, EndsAt, HowMany}
use Rattle.paths.specs.Counts.{BasicCounts, CountClaims}
use Rattle.paths.proofs.Standing.{standing_whole}
use Rattle.paths.proofs.Ends.{inside, one_path, path_told, finishing_paths, stuck_paths, many_none, none_many, orders_counted, stuck_counted}

-- none end so exactly when the tree has no such path
none_exactly : {m k : ℕ} {u : Term} {e : Rest} {P : List ℕ → Type 0} → HowMany (EndsAt e u) m k → m ≡ length (words u)
    → ((ms : List ℕ) → P ms ↔ ((p : ℕ) × PathTo 0 u ms e p)) → (k ≡ 0) ↔ ((ms : List ℕ) → P ms → ⊥)
none_exactly h q f = (
  λ z ms x. let r = (f ms).0 x in many_none (rw z at h) r.0 (omega (arith, inside r.1)) (ms, r.1),
  λ g. none_many h (λ p l r. g r.0 ((f r.0).1 (p, r.1))),
)

module _ (t : Tables) (plan : List ℕ) where
  module _ (b : BasicPlan t plan) where
    few : actions t ≤ 31
    few = b.plan.lawful.well_formed.few_actions

    -- the counts by the term
    by_term : counts_of (actions t) plan ≡ counts b.plan.term
    unfolding counts_of
    by_term = rw (accepted-reads_as t plan b.plan, (basic?_iff b.plan.term).1 b.basic) refl

    basic-counts : BasicCounts t plan b.plan.term (counts_of (actions t) plan)
    basic-counts =
        let u = b.plan.term in
        let orders = orders_counted u b.basic in
        let stuck = stuck_counted u b.basic in
        let stands = standing_whole (actions t) plan u (accepted-reads_as t plan b.plan) in
        let long : length (words u) ≡ length plan = rw b.plan.spelled refl in
        rw by_term
        (record {
          orders_exactly = rw (← long) orders;
          stuck_exactly = rw (← long) stuck;
          inside = λ p ms e i. omega (arith, inside i);
          stuck_at = λ p ms i. path_told few i stands;
          finished_at = λ p ms i. path_told few i stands;
          one_path = λ p ms ks e f i j. one_path i j;
          finishing_paths = finishing_paths t u b.basic;
          stuck_paths = stuck_paths t u b.basic;
          no_order = none_exactly orders refl (finishing_paths t u b.basic);
          no_stuck = none_exactly stuck refl (stuck_paths t u b.basic);
        })

  pub counts-claimed : plan_refusal t plan ≡ none → CountClaims t plan (counts_of (actions t) plan)
  counts-claimed e =
      record {
        basic = basic-counts;
        not_basic = λ f. sym (none_counted (actions t) ((accepted-plan t plan).0 e).lawful.well_formed.few_actions plan (not_so (basic_words? (actions t) plan) refl f));
        together = counts-add (actions t) plan;
      }
    where
      not_so : (c : Bool) → basic_words? (actions t) plan ≡ c → (BasicPlan t plan → ⊥) → basic_words? (actions t) plan ≡ false
      not_so true q f = absurd (f ((basic_plan t plan).0 (e, q)))
      not_so false q f = q

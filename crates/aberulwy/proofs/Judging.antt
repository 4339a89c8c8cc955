-- What an acceptance answered means, and what the answers on accepted plans say.
use Rattle.std.specs.Prelude.{Result, Ok, Err, ⊤}
use Prim.Native.Nat.{ℕ, ◌≤◌}
use mathlib.Core.Path.{◌≡◌, refl, sym, ◌∙◌, ap, subst}
use mathlib.Core.Bool.{Bool, true}
use mathlib.Core.List.{List, [], ◌∷◌}
use mathlib.Core.Logic.{◌↔◌}
use mathlib.Core.Option.{Option, none, some}
use lib.ListN.{length}
use Rattle.areas.specs.Area.{most_words}
use Rattle.refusals.specs.declared.Refusal.{Refusal}
use Rattle.refusals.specs.Refusal.{judged, report, reported}
use Rattle.refusals.proofs.Judging.{accepted_none, refused_some, report-judged}
use Rattle.tables.specs.Tables.{Tables, actions}
use Rattle.plans.specs.declared.Counts.{Counts}
use Rattle.plans.specs.Judging.{plan_refusal}
use Rattle.plans.specs.Basic.{basic_words?}
use Rattle.plans.specs.Orders.{counts_of}
use Rattle.plans.specs.Accepted.{BasicPlan}
use Rattle.plans.proofs.Accepted.{accepted-plan, basic_plan}
use Rattle.paths.specs.Counts.{CountClaims}
use Rattle.paths.proofs.Counts.{counts-claimed}
use Rattle.aberulwy.specs.Judging.{basic_of, basic_answer, basic_report, basic_reported, bit, orders_given, orders_answer, orders_report, orders_reported, OrdersClaims}

pub numbers_of : (o : Option Refusal) (r : Result ⊤ Refusal) → r ≡ judged o → report r ≡ reported o []
numbers_of o r e = ap report e ∙ report-judged o

module _ (t : Tables) (ws : List ℕ) where
  -- what an accepted plan lets the calls on words require
  pub few_of : judged (plan_refusal t ws) ≡ Ok tt → (actions t ≤ 31) × (length ws ≤ most_words)
  few_of e =
      let p = (accepted-plan t ws).0 (accepted_none _ e) in
      (p.lawful.well_formed.few_actions, p.few_words)

  -- where the plan is refused so is the question, and else it is answered
  pub basic_refused : (r : Refusal) → judged (plan_refusal t ws) ≡ Err r → basic_answer t ws ≡ Err r
  unfolding basic_answer
  basic_refused r e = rw (refused_some _ _ e)

  pub basic_told : judged (plan_refusal t ws) ≡ Ok tt → basic_answer t ws ≡ Ok (basic_words? (actions t) ws)
  unfolding basic_answer
  basic_told e = rw (accepted_none _ e)

  pub orders_refused : (r : Refusal) → judged (plan_refusal t ws) ≡ Err r → orders_answer t ws ≡ Err r
  unfolding orders_answer
  orders_refused r e = rw (refused_some _ _ e)

  pub orders_told : judged (plan_refusal t ws) ≡ Ok tt → orders_answer t ws ≡ Ok (counts_of (actions t) ws)
  unfolding orders_answer
  orders_told e = rw (accepted_none _ e)

  pub basic_yes : (r : Result Bool Refusal) → r ≡ basic_answer t ws → (r ≡ Ok true) ↔ BasicPlan t ws
  unfolding basic_answer
  basic_yes r e = (λ q. to (plan_refusal t ws) refl (sym e ∙ q), λ b. e ∙ from b)
    where
      to : (o : Option Refusal) → plan_refusal t ws ≡ o → basic_of o (basic_words? (actions t) ws) ≡ Ok true → BasicPlan t ws
      to none q h = (basic_plan t ws).0 (q, cc)
      to (some f) q h = absurd (cc)

      from : BasicPlan t ws → basic_of (plan_refusal t ws) (basic_words? (actions t) ws) ≡ Ok true
      from b = let h = (basic_plan t ws).1 b in rw (h.0, h.1)

  pub basic_numbers : (r : Result Bool Refusal) → r ≡ basic_answer t ws → basic_report r ≡ basic_reported t ws
  unfolding basic_answer
  basic_numbers r e = ap basic_report e ∙ go (plan_refusal t ws)
    where
      go : (o : Option Refusal) → basic_report (basic_of o (basic_words? (actions t) ws)) ≡ reported o (bit (basic_words? (actions t) ws) ∷ [])
      go none = refl
      go (some f) = refl

  pub orders_numbers : (r : Result Counts Refusal) → r ≡ orders_answer t ws → orders_report r ≡ orders_reported t ws
  unfolding orders_answer
  orders_numbers r e = ap orders_report e ∙ go (plan_refusal t ws)
    where
      go : (o : Option Refusal) → orders_report (orders_given o (counts_of (actions t) ws))
          ≡ reported o ((counts_of (actions t) ws).orders ∷ (counts_of (actions t) ws).stuck ∷ [])
      go none = refl
      go (some f) = refl

  -- the paths are counted exactly where nothing is refused
  counted : (o : Option Refusal) (c d : Counts) → orders_given o c ≡ Ok d → (o ≡ none) × (c ≡ d)
  counted none c d e = (refl, cc)
  counted (some r) c d e = absurd (cc)

  pub orders_claimed : (r : Result Counts Refusal) → r ≡ orders_answer t ws → OrdersClaims t ws r
  unfolding orders_answer
  orders_claimed r e =
      let none_refused = λ (d : Counts) (q : r ≡ Ok d). counted (plan_refusal t ws) (counts_of (actions t) ws) d (sym e ∙ q) in
      record {
        counted_exactly = (
          λ x. (accepted-plan t ws).0 (none_refused x.0 x.1).0,
          λ p. (counts_of (actions t) ws, e ∙ rw ((accepted-plan t ws).1 p)),
        );
        counts = λ d q. let h = none_refused d q in subst (CountClaims t ws) h.1 (counts-claimed t ws h.0);
      }

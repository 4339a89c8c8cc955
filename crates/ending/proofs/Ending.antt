-- Every run of the unfolding's steps, without limits, comes after some number of steps to a basic plan.
use mathlib.Core.Path.{◌≡◌, refl, subst}
use mathlib.Core.Bool.{true}
use mathlib.Core.List.{List, [], append-nil}
use mathlib.Core.Option.{none}
use Prim.Native.Nat.{ℕ}
use Rattle.tables.specs.Tables.{Tables, actions}
use Rattle.tables.specs.Lawful.{Lawful}
use Rattle.plans.specs.Term.{Term, words, Over}
use Rattle.plans.specs.Basic.{basic_words?}
use Rattle.plans.specs.Judging.{words_refusal}
use Rattle.plans.specs.Accepted.{AcceptedPlan}
use Rattle.plans.specs.Stack.{spell}
use Rattle.plans.proofs.Reading.{term-said, term_words}
use Rattle.plans.proofs.Accepted.{accepted-term}
use Rattle.plans.proofs.Basic.{basic_tested}
use Rattle.laws.proofs.Tables.{Proper, lawful_proper}
use Rattle.rewritings.specs.Choice.{next_step}
use Rattle.ending.specs.Ending.{ComesToAnEnd, Ends}
use Rattle.ending.proofs.Parts.{Run, Fine, Settles, quiet}
use Rattle.ending.proofs.Signs.{all_settle}

module _ (t : Tables) (ok : Proper t) where
  -- the words of a basic term
  basic_words : (r : Term) → Fine t r → basic_words? (actions t) (words r) ≡ true
  unfolding basic_words?
  basic_words r f = rw (term_words (actions t) ok.few r f.1) (basic_tested f.0)

  -- nothing waits, and nothing comes behind
  whole : (u : Term) (s : Settles t u) → Run t (words u) (words s.end)
  unfolding spell next_step
  whole u s = rw (append-nil (words u), append-nil (words s.end)) at (s.reaches [] tt refl [])

  term_comes : (u : Term) → Over (actions t) u → ComesToAnEnd t (words u)
  term_comes u h =
      let s = all_settle t ok u h in
      let r = whole u s in
      record {
        steps = r.0;
        end = words s.end;
        comes = record { made = r.1; basic = record { term = s.end; spelled = refl; over = s.fine.1; basic = s.fine.0 } };
      }

  pub term-ends : (u : Term) → Over (actions t) u → Ends t (words u)
  term-ends u h =
      let s = all_settle t ok u h in
      let r = whole u s in
      record { steps = r.0; reached = words s.end; made = r.1; no_next = quiet t ok.few s.end s.fine; basic = basic_words s.end s.fine }

pub every_plan_comes_to_an_end : (t : Tables) (w : List ℕ) → AcceptedPlan t w → ComesToAnEnd t w
every_plan_comes_to_an_end t w p = subst (ComesToAnEnd t) p.spelled (term_comes t (lawful_proper t p.lawful) p.term p.over)

pub every_run_ends : (t : Tables) → Lawful t → (w : List ℕ) → words_refusal (actions t) w ≡ none → Ends t w
every_run_ends t ok w e =
    let c = accepted-term (actions t) ok.well_formed.few_actions w e in
    let d = term-said (actions t) w c.0 c.1 in
    subst (Ends t) d.0 (term-ends t (lawful_proper t ok) c.0 d.1)

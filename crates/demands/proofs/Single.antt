-- Demand 2: a check of one record, of either direction, makes its step exactly when it fits and the next plan is not too long.
use Prim.Native.Nat.{ℕ, ◌≤◌, ◌<◌}
use mathlib.Core.Path.{◌≡◌, refl, sym, ◌∙◌, ap}
use mathlib.Core.Bool.{Bool, true, false, cond, false≢true}
use mathlib.Core.List.{List, [], ◌∷◌, append-nil}
use mathlib.Core.Option.{Option, none, some}
use lib.ListN.{length}
use borrow.Author.Tests.{le-ltb, lt-ltb}
use Rattle.areas.specs.Area.{padded}
use Rattle.areas.specs.Reached.{capacity, even?, area_a, area_b}
use Rattle.tables.specs.Tables.{Tables, actions}
use Rattle.plans.proofs.Accepted.{accepted-plan}
use Rattle.laws.specs.Laws.{same_bytes}
use Rattle.laws.proofs.Sound.{same_list, same_itself}
use Rattle.rewritings.specs.Records.{Recorded, bytes_of_one, bytes_of_all, records_of, whole?}
use Rattle.checking.specs.Checking.{Replay, CheckOutcome, checked, settled, step_of, records_refusal, rewriting_refusal, check_refusal, replay, replay_of, check_outcome}
use Rattle.demands.specs.Claims.{CheckGiven, Makes, as_claimed, differs, unmade, SingleStep, StepClaims}
use Rattle.rewritings.proofs.Bytes.{LawedAll, cut_again, whole_again}
use Rattle.checking.proofs.Good.{GoodAll, good_none}
use Rattle.demands.proofs.Reversing.{good_lawed}
use Rattle.demands.proofs.Deriving.{accepted-words, taken_good, fits_iff}

-- the answer to one step made
makes : (w claimed start : List ℕ) → Makes w claimed (checked (record { number = cond (same_bytes w claimed) 0 33; steps = 1; plan = w; before = start }))
makes w claimed start = go (same_bytes w claimed) refl
  where
    go : (b : Bool) → same_bytes w claimed ≡ b → Makes w claimed (checked (record { number = cond b 0 33; steps = 1; plan = w; before = start }))
    go true q = as_claimed (same_list w claimed q)
    go false q = differs (λ e. false≢true (sym q ∙ rw (← e) (same_itself w)))

-- everything that the check of a record answers and leaves
unfoldable outcome_of : CheckGiven → CheckOutcome
outcome_of g = check_outcome g.tables g.start g.claimed g.rewriting g.a g.b

-- a record alone
alone : (r : Recorded) → bytes_of_all (r ∷ []) ≡ bytes_of_one r
unfolding bytes_of_all
alone r = append-nil (bytes_of_one r)

module _ (g : CheckGiven) (r : Recorded) (h : SingleStep g r) where
  abbrev n : ℕ
  n = actions g.tables

  abbrev c : ℕ
  c = capacity g.a g.b

  good : GoodAll n (r ∷ [])
  good = (taken_good g.tables r h.taken, tt)

  lawed : LawedAll (r ∷ [])
  lawed = good_lawed n (r ∷ []) good

  is_one : g.rewriting ≡ bytes_of_all (r ∷ [])
  is_one = h.one_record ∙ sym (alone r)

  one_cut : records_of g.rewriting ≡ r ∷ []
  one_cut = rw is_one (cut_again (r ∷ []) lawed)

  one-whole : whole? g.rewriting ≡ true
  one-whole = rw is_one (whole_again (r ∷ []) lawed)

  -- nothing handed in is turned back
  no_refusal : check_refusal g.tables g.start g.claimed g.rewriting c ≡ none
  unfolding check_refusal rewriting_refusal records_refusal
  no_refusal =
      let free = good_none n 0 (r ∷ []) good in
      rw (
        (accepted-plan g.tables g.start).1 h.accepted_start,
        accepted-words g.tables g.claimed h.accepted_claimed,
        le-ltb c (length g.start) h.held,
        one-whole,
        one_cut,
        free.0,
        free.1,
      )

  -- so the outcome is that of the replay of one step
  abbrev replayed : Replay
  replayed = replay g.tables c g.claimed (r ∷ []) 0 g.start []

  by_replay : outcome_of g ≡ settled replayed g.a g.b
  unfolding outcome_of check_outcome replay_of
  by_replay = rw (no_refusal, one_cut)

  made_so : (w : List ℕ) → step_of g.tables r g.start ≡ some w → length w ≤ c
      → replayed ≡ record { number = cond (same_bytes w g.claimed) 0 33; steps = 1; plan = w; before = g.start }
  unfolding replay
  made_so w e l = rw (e, le-ltb c (length w) l)

  not_fitting_so : step_of g.tables r g.start ≡ none → replayed ≡ record { number = 31; steps = 0; plan = g.start; before = [] }
  unfolding replay
  not_fitting_so e = rw e

  too_long_so : (w : List ℕ) → step_of g.tables r g.start ≡ some w → c < length w
      → replayed ≡ record { number = 32; steps = 0; plan = g.start; before = [] }
  unfolding replay
  too_long_so w e l = rw (e, lt-ltb c (length w) l)

  abbrev left_by : Replay → CheckOutcome
  left_by s = settled s g.a g.b

  single-made : (w : List ℕ) → step_of g.tables r g.start ≡ some w → length w ≤ c
      → Makes w g.claimed (outcome_of g).answer × ((outcome_of g).a ≡ padded g.start (length g.a))
      × ((outcome_of g).b ≡ padded w (length g.b))
  unfolding area_a area_b even?
  single-made w e l = rw (by_replay ∙ ap left_by (made_so w e l)) (makes w g.claimed g.start, refl, refl)

  single_31 : step_of g.tables r g.start ≡ none → outcome_of g ≡ unmade g 31
  unfolding area_a area_b even?
  single_31 e = by_replay ∙ ap left_by (not_fitting_so e)

  single_32 : (w : List ℕ) → step_of g.tables r g.start ≡ some w → c < length w → outcome_of g ≡ unmade g 32
  unfolding area_a area_b even?
  single_32 w e l = by_replay ∙ ap left_by (too_long_so w e l)

-- a step that fits nowhere, as people read it, is not made
not_made : {A : Type 0} (o : Option (List A)) → ((w : List A) → o ≡ some w → ⊥) → o ≡ none
not_made none f = refl
not_made (some w) f = absurd (f w refl)

pub step-claims : (t : Tables) (start claimed rewriting a b : List ℕ)
    → StepClaims (record { tables = t; start = start; claimed = claimed; rewriting = rewriting; a = a; b = b }) (check_outcome t start claimed rewriting a b)
unfolding outcome_of
step-claims t start claimed rewriting a b =
    let g : CheckGiven = record { tables = t; start = start; claimed = claimed; rewriting = rewriting; a = a; b = b } in
    record {
      made = λ r h w f l. single-made g r h w ((fits_iff t h.accepted_start.lawful r h.taken start w).1 f) l;
      not_fitting = λ r h f. single_31 g r h (not_made (step_of t r start) (λ w e. f w ((fits_iff t h.accepted_start.lawful r h.taken start w).0 e)));
      too_long = λ r h w f l. single_32 g r h w ((fits_iff t h.accepted_start.lawful r h.taken start w).1 f) l;
    }

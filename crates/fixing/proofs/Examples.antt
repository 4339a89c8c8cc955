-- Small outcomes, by computation: with any tables of four actions that are accepted.
use Rattle.std.specs.Prelude.{Ok, Err}
use mathlib.Core.Path.{◌≡◌, refl}
use mathlib.Core.List.{[], ◌∷◌}
use mathlib.Core.Option.{none}
use Rattle.refusals.specs.declared.Place.TheVariants.{Nowhere, Byte}
use Rattle.areas.specs.Area.{padded}
use Rattle.tables.specs.Tables.{Tables, actions}
use Rattle.tables.specs.Judging.{table_refusal}
use Rattle.plans.specs.Judging.{plan_refusal, words_refusal}
use Rattle.plans.specs.Basic.{basic_words?}
use Rattle.forms.specs.Form.{form_of}
use Rattle.fixing.specs.Outcome.{basic_refusal, form_refusal, FormOutcome, form_outcome}

module _ (t : Tables) (accepted : table_refusal t ≡ none) (four : actions t ≡ 4) where
  -- 2+1+1 becomes 1+2; a longer area is zero past the form
  longer_area : ◌≡◌ {A = FormOutcome} (form_outcome t (2 ∷ 1 ∷ 64 ∷ 1 ∷ 64 ∷ []) (9 ∷ 9 ∷ 9 ∷ 9 ∷ 9 ∷ [])) (record { answer = Ok 3; area = 1 ∷ 2 ∷ 64 ∷ 0 ∷ 0 ∷ [] })
  unfolding form_outcome form_refusal basic_refusal plan_refusal words_refusal basic_words? form_of padded
  longer_area = rw (accepted, four) refl

  -- an area shorter than the form keeps its bytes; one as long as the form is enough
  shorter_area : ◌≡◌ {A = FormOutcome} (form_outcome t (2 ∷ 1 ∷ 64 ∷ 1 ∷ 64 ∷ []) (9 ∷ 9 ∷ [])) (record { answer = Err (record { number = 74; place = Nowhere }); area = 9 ∷ 9 ∷ [] })
  unfolding form_outcome form_refusal basic_refusal plan_refusal words_refusal basic_words? form_of
  shorter_area = rw (accepted, four) refl

  just_enough : ◌≡◌ {A = FormOutcome} (form_outcome t (2 ∷ 1 ∷ 64 ∷ 1 ∷ 64 ∷ []) (9 ∷ 9 ∷ 9 ∷ [])) (record { answer = Ok 3; area = 1 ∷ 2 ∷ 64 ∷ [] })
  unfolding form_outcome form_refusal basic_refusal plan_refusal words_refusal basic_words? form_of padded
  just_enough = rw (accepted, four) refl

  -- 1‖2 is not basic: 70 before 74, even where the area is empty
  not_basic : ◌≡◌ {A = FormOutcome} (form_outcome t (1 ∷ 2 ∷ 66 ∷ []) []) (record { answer = Err (record { number = 70; place = Nowhere }); area = [] })
  unfolding form_outcome form_refusal basic_refusal plan_refusal words_refusal basic_words? form_of
  not_basic = rw (accepted, four) refl

  -- 5 is no action: 12 before 70
  no_action : ◌≡◌ {A = FormOutcome} (form_outcome t (1 ∷ 5 ∷ 66 ∷ []) (9 ∷ [])) (record { answer = Err (record { number = 12; place = Byte 1 }); area = 9 ∷ [] })
  unfolding form_outcome form_refusal basic_refusal plan_refusal words_refusal
  no_action = rw (accepted, four) refl

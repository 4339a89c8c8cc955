-- What is claimed of the call, and of the fixed forms of plans. (Request 107.)
use Rattle.std.specs.Prelude.{ℕ, ◌≤◌, ◌<◌, ◌≡◌, List, ◌↔◌, length, get_or, take, Ok, Err}
use Rattle.std.proofs.Math.Option.{some}
use Rattle.refusals.specs.declared.Place.TheVariants.{Nowhere}
use Rattle.refusals.specs.declared.Refusal.{Refusal}
use Rattle.tables.specs.Tables.{Tables}
use Rattle.plans.specs.Judging.{plan_refusal}
use Rattle.plans.specs.Accepted.{AcceptedPlan, BasicPlan}
use Rattle.trees.specs.Tree.{Alike}
use Rattle.trees.specs.Meaning.{tree}
use Rattle.forms.specs.InForm.{InForm}
use Rattle.fixing.specs.Outcome.{fixed_form, FormOutcome}

-- The trees of two basic plans are alike, each with its own tables.
abbrev pub AlikeTrees : {t t' : Tables} {v w : List ℕ} → BasicPlan t v → BasicPlan t' w → Type 0
AlikeTrees {t} {t'} b c = Alike (tree t b.plan.term) (tree t' c.plan.term)

-- The form of the plan ws with the tables t is not put into an area of so many bytes, and this is the refusal.
pub data NotFixed (t : Tables) (ws : List ℕ) (area : ℕ) : Refusal → Type 0 where
  -- tables and plan are judged first, by 1 to 8 and 11 to 14
  by_plan : (r : Refusal) → plan_refusal t ws ≡ some r → NotFixed t ws area r
  -- "A plan that isn't basic gets 70."
  not_basic : AcceptedPlan t ws → (BasicPlan t ws → ⊥) → NotFixed t ws area (record { number = 70; place = Nowhere })
  -- "After that an area shorter than the form gets 74"
  short_area : BasicPlan t ws → area < length (fixed_form t ws) → NotFixed t ws area (record { number = 74; place = Nowhere })

-- Of the tables t, the plan ws, the area a before, and the outcome o.
pub record FormClaims (t : Tables) (ws a : List ℕ) (o : FormOutcome) : Type 0 where
  -- a form is written exactly where the plan is basic and the area is not shorter than the form
  pub fixed_exactly : ((n : ℕ) × (o.answer ≡ Ok n)) ↔ (BasicPlan t ws × (length (fixed_form t ws) ≤ length a))
  -- else it is refused, for one of these three reasons
  pub refused_exactly : (r : Refusal) → (o.answer ≡ Err r) ↔ NotFixed t ws (length a) r
  -- "keeps its bytes", as under every refusal
  pub kept : (r : Refusal) → o.answer ≡ Err r → o.area ≡ a
  -- the form stands in front, and is as long as answered; "a longer one is zero past the form"
  pub form : (n : ℕ) → o.answer ≡ Ok n → take n o.area ≡ fixed_form t ws
  pub size : (n : ℕ) → o.answer ≡ Ok n → n ≡ length (fixed_form t ws)
  pub zeros : (n : ℕ) → o.answer ≡ Ok n → (j : ℕ) → n ≤ j → get_or o.area j 0 ≡ 0
  -- the form of a basic plan is never longer than the plan, so an area as long as the plan is enough
  pub no_longer : BasicPlan t ws → length (fixed_form t ws) ≤ length ws
  -- it is a basic plan itself, in the fixed form, and its tree is alike to the plan's
  pub basic : BasicPlan t ws → BasicPlan t (fixed_form t ws)
  pub in_form : BasicPlan t ws → (c : BasicPlan t (fixed_form t ws)) → InForm c.plan.term
  pub alike : (b : BasicPlan t ws) (c : BasicPlan t (fixed_form t ws)) → AlikeTrees c b
  -- and it is the only such plan: a plan in the fixed form whose tree is alike to the plan's is the form
  pub only : (b : BasicPlan t ws) (x : List ℕ) (c : BasicPlan t x) → InForm c.plan.term → AlikeTrees c b → x ≡ fixed_form t ws
  -- "Two basic plans have equal fixed forms exactly when their trees are alike", whichever tables each comes with
  pub equal_exactly : (b : BasicPlan t ws) (t' : Tables) (ws' : List ℕ) (c : BasicPlan t' ws') → (fixed_form t ws ≡ fixed_form t' ws') ↔ AlikeTrees b c
  -- "and the fixed form of a fixed form is itself"
  pub itself : BasicPlan t ws → fixed_form t (fixed_form t ws) ≡ fixed_form t ws

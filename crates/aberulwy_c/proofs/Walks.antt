-- What is claimed of the calls of a walk holds of the answer that the numbers tell: every refusal of them is 1 to 72.
use Rattle.std.specs.Prelude.{Result, Ok, Err, ⊤}
use Prim.Native.Nat.{ℕ}
use native.Mathlib.Omega.{arith}
use mathlib.Core.Path.{◌≡◌, sym, ap, subst}
use mathlib.Core.Bool.{Bool, not, ◌||◌}
use mathlib.Core.List.{List, [], ◌∷◌}
use mathlib.Core.Option.{Option, none, some}
use lib.Dec.{eqb}
use lib.ListN.{length}
use Rattle.refusals.specs.declared.Refusal.{Refusal}
use Rattle.refusals.specs.Refusal.{printed, refuse_if}
use Rattle.tables.specs.Tables.{Tables, actions, outside?}
use Rattle.plans.specs.Basic.{basic_words?}
use Rattle.plans.specs.Judging.{plan_refusal}
use Rattle.walks.specs.Progress.{Progress, fresh}
use Rattle.walks.specs.Pass.{take_message}
use Rattle.walks.specs.Outcome.{not_walkable_refusal, WalkOutcome, accepted_outcome, unless_refused, fresh_outcome, not_taken?, walk_refusal, or_keep, walk_outcome}
use Rattle.walks.specs.Claims.{FreshClaims, WalkClaims}
use Rattle.aberulwy_c.specs.Answers.{Returned, lent, of_walk}
use Rattle.aberulwy_c.specs.Handing.{WalkAnswered}
use Rattle.aberulwy_c.specs.Seen.{WalkedAs, accepted, refused, FreshSeen, WalkSeen}
use Rattle.aberulwy_c.proofs.Numbers.{plan_numbers}
use Rattle.aberulwy_c.proofs.Ranges.{Range, widened, Numbered, numbered_or, numbered-if}

-- the numbers of refusals of a walk
abbrev Number : ℕ → Type 0
Number = Range 72

walk_ranges : (t : Tables) (plan marks : List ℕ) → Numbered Number (not_walkable_refusal t plan marks)
unfolding not_walkable_refusal
walk_ranges t plan marks =
    numbered_or Number (plan_refusal t plan) _ (plan_numbers Number (widened 72 (omega arith)) t plan)
    (numbered-if Number (not (basic_words? (actions t) plan) || not (eqb (length marks) (length plan))) 70 (omega arith, omega arith))

-- of an answer
abbrev AnswerRange : Result ⊤ Refusal → Type 0
AnswerRange (Ok tt) = Unit
AnswerRange (Err f) = Number f.number

unless_range : (o : Option Refusal) (p : Progress) (x : WalkOutcome) → Numbered Number o → AnswerRange x.answer → AnswerRange (unless_refused o p x).answer
unless_range none p x r s = s
unless_range (some f) p x r s = r

fresh_range : (t : Tables) (plan : List ℕ) (p : Progress) → AnswerRange (fresh_outcome t plan p).answer
unfolding fresh_outcome
fresh_range t plan p = unless_range (not_walkable_refusal t plan p.marks) p (accepted_outcome (fresh plan)) (walk_ranges t plan p.marks) tt

walk_range : (t : Tables) (plan : List ℕ) (m : ℕ) (p : Progress) → AnswerRange (walk_outcome t plan m p).answer
unfolding walk_outcome walk_refusal
walk_range t plan m p =
    unless_range (walk_refusal t plan m p) p (accepted_outcome (or_keep (take_message (actions t) plan m p) p))
    (numbered_or Number (not_walkable_refusal t plan p.marks) _ (walk_ranges t plan p.marks)
    (numbered_or Number (refuse_if (outside? (actions t) m) 71) _ (numbered-if Number (outside? (actions t) m) 71 (omega arith, omega arith))
    (numbered-if Number (not_taken? (take_message (actions t) plan m p)) 72 (omega arith, omega arith)))) tt

walked_as : (x : Result ⊤ Refusal) → AnswerRange x → {b : Bool} {h n p f : ℕ} → WalkAnswered x b h n p f → WalkedAs x n p
walked_as (Ok tt) r a = rw (a.number, a.place) accepted
walked_as (Err g) r a = rw (a.number, a.place) (refused g r.0 r.1)

-- in the arm of a refusal
pub hand_refused : {x : Result ⊤ Refusal} (g : Refusal) {b : Bool} {h n p f : ℕ} → x ≡ Err g → f ≡ h → (n ≡ g.number) × (p ≡ printed g.place) → WalkAnswered x b h n p f
hand_refused g e q k = rw e (record { number = k.0; place = k.1; finish = q })

-- what is returned, by the outcome of the call below
pub walk_returned_as : {o : WalkOutcome} {x : Result ⊤ Refusal} {marks : List ℕ} {b : Bool} {h n p f : ℕ} → record { answer = x; progress = record { marks = marks; finish = b } } ≡ o
    → WalkAnswered x b h n p f → ◌≡◌ {A = Returned} (record { number = n; place = p; values = f ∷ []; areas = marks ∷ [] }) (of_walk h o)
walk_returned_as {h = h} e a = rw (a.number, a.place, a.finish) (ap (of_walk h) e)

module _ (t : Tables) (plan marks : List ℕ) where
  pub fresh-seen : {x : Result ⊤ Refusal} {left : List ℕ} {b : Bool} {h n p f : ℕ} → record { answer = x; progress = record { marks = left; finish = b } } ≡ fresh_outcome t plan (lent marks h)
      → FreshClaims t plan (lent marks h) (record { answer = x; progress = record { marks = left; finish = b } }) → WalkAnswered x b h n p f
      → FreshSeen t plan marks left h n p f
  fresh-seen {x} {b = b} {h = h} e k a =
      record {
        answer = x;
        finish = b;
        seen = walked_as x (subst AnswerRange (sym (ap (λ (o : WalkOutcome). o.answer) e)) (fresh_range t plan (lent marks h))) a;
        finish_seen = a.finish;
        claims = k;
      }

  pub walk-seen : (m : ℕ) {x : Result ⊤ Refusal} {left : List ℕ} {b : Bool} {h n p f : ℕ} → record { answer = x; progress = record { marks = left; finish = b } } ≡ walk_outcome t plan m (lent marks h)
      → WalkClaims t plan m (lent marks h) (record { answer = x; progress = record { marks = left; finish = b } }) → WalkAnswered x b h n p f
      → WalkSeen t plan marks left m h n p f
  walk-seen m {x} {b = b} {h = h} e k a =
      record {
        answer = x;
        finish = b;
        seen = walked_as x (subst AnswerRange (sym (ap (λ (o : WalkOutcome). o.answer) e)) (walk_range t plan m (lent marks h))) a;
        finish_seen = a.finish;
        claims = k;
      }

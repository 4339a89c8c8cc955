-- The claims of the calls below hold of what C and Rust see of them.
use Rattle.std.specs.Prelude.{Result, Ok, Err, Some, None, Option as Maybe}
use Prim.Native.Nat.{ℕ, ◌≤◌}
use native.Mathlib.Omega.{arith}
use mathlib.Core.Path.{◌≡◌, refl, sym, ◌∙◌, ap, subst}
use mathlib.Core.Bool.{Bool, true, false, cond}
use mathlib.Core.List.{List, [], ◌∷◌}
use mathlib.Core.Logic.{◌↔◌}
use mathlib.Core.Option.{Option, none, some}
use lib.ListN.{length, get_or}
use lib.Dec.{eqb}
use Rattle.refusals.specs.declared.Refusal.{Refusal}
use Rattle.refusals.specs.Refusal.{reported}
use Rattle.tables.specs.Tables.{Tables, actions}
use Rattle.tables.specs.Judging.{table_refusal}
use Rattle.tables.specs.Lawful.{Lawful}
use Rattle.tables.proofs.Lawful.{accepted_iff_lawful}
use Rattle.areas.specs.Reached.{capacity, even?, reached_part}
use Rattle.plans.specs.Judging.{plan_refusal}
use Rattle.plans.specs.Basic.{basic_words?}
use Rattle.plans.specs.Accepted.{AcceptedPlan, BasicPlan}
use Rattle.plans.proofs.Accepted.{accepted-plan, basic_plan}
use Rattle.paths.specs.Counts.{CountClaims}
use Rattle.paths.proofs.Counts.{counts-claimed}
use Rattle.unfolding.specs.declared.Unfolded.{Unfolded}
use Rattle.unfolding.specs.declared.Unfolded.TheVariants.{Finished, Stopped}
use Rattle.rewritings.specs.Runs.{Run, run_of}
use Rattle.unfolding.specs.Unfolding.{unfold_refusal, unfold_outcome, UnfoldOutcome}
use Rattle.unfolding.specs.Unfolding as unfolding_of
use Rattle.checking.specs.declared.Checked.{Checked}
use Rattle.checking.specs.declared.Checked.TheVariants.{Accepted, TurnedBack}
use Rattle.checking.specs.Checking.{Replay, replay_of, check_refusal, check_outcome, CheckOutcome}
use Rattle.checking.specs.Checking as checking_of
use Rattle.rewritings.specs.Records.{records_of}
use Rattle.demands.specs.Reports.{unfold_given, Stops, allowance_spent, list_full, next_too_long, own_rewriting}
use Rattle.demands.specs.Claims.{check_given, UnfoldClaims, CheckClaims, StepClaims}
use Rattle.aberulwy.specs.Judging.{bit, basic_reported, orders_reported}
use Rattle.aberulwy.specs.Rewriting.{unfold_report, check_report, own_report, check_own, both_outcome, BothOutcome, OwnAccepted}
use Rattle.aberulwy_c.specs.Answers.{Returned, returned}
use Rattle.aberulwy_c.specs.Handing.{Answered, MaybeAnswered}
use Rattle.aberulwy_c.specs.Seen.{RefusalNumber, UnfoldedAs, CheckedAs, OwnAs, made, not_made, OrdersSeen, UnfoldSeen, CheckSeen, BothNumbers, OwnSeen}
use Rattle.aberulwy_c.specs.Seen as seen_as
use Rattle.aberulwy_c.proofs.Answers.{returned_0, returned_1, returned_2}
use Rattle.aberulwy_c.proofs.Numbers.{table_numbers, plan_numbers, unfold_numbers, check_numbers, turned, turned_range, ends?, replay-ends}
use Rattle.aberulwy_c.proofs.Ranges.{Range, Numbered}

untrue : {A : Type 0} → false ≡ true → A
untrue e = absurd (cc)

refusing : {A : Type 0} {r : Refusal} → ◌≡◌ {A = Option Refusal} (some r) none → A
refusing e = absurd (cc)

-- 0 is answered exactly where nothing is refused
zero_accepts : (o : Option Refusal) (v : List ℕ) (P : Type 0) {n p x y : ℕ} → Numbered (Range 18) o → (o ≡ none) ↔ P → Answered (reported o v) n p x y → (n ≡ 0) ↔ P
zero_accepts none v P l h a = (λ e. h.0 refl, λ q. a.number)
zero_accepts (some r) v P l h a = (
  λ e. absurd (omega (arith, l.0, e, a.number)),
  λ q. refusing (h.1 q),
)

pub tables-seen : (t : Tables) {n p x y : ℕ} → Answered (reported (table_refusal t) []) n p x y
    → ◌≡◌ {A = Returned} (record { number = n; place = p; values = []; areas = [] }) (returned 0 (reported (table_refusal t) []) []) × ((n ≡ 0) ↔ Lawful t)
tables-seen t a = (returned_0 a, zero_accepts (table_refusal t) [] (Lawful t) (table_numbers (Range 18) (λ k h. h) t) (accepted_iff_lawful t) a)

pub plan-seen : (t : Tables) (ws : List ℕ) {n p x y : ℕ} → Answered (reported (plan_refusal t ws) []) n p x y
    → ◌≡◌ {A = Returned} (record { number = n; place = p; values = []; areas = [] }) (returned 0 (reported (plan_refusal t ws) []) [])
    × ((n ≡ 0) ↔ AcceptedPlan t ws)
plan-seen t ws a = (returned_0 a, zero_accepts (plan_refusal t ws) [] (AcceptedPlan t ws) (plan_numbers (Range 18) (λ k h. h) t ws) (accepted-plan t ws) a)

-- 1 is set exactly where the plan is basic
pub basic-seen : (t : Tables) (ws : List ℕ) {n p x y : ℕ} → Answered (basic_reported t ws) n p x y
    → ◌≡◌ {A = Returned} (record { number = n; place = p; values = x ∷ []; areas = [] }) (returned 1 (basic_reported t ws) []) × ((x ≡ 1) ↔ BasicPlan t ws)
basic-seen t ws {x} a = (returned_1 [] a, go (plan_refusal t ws) refl (basic_words? (actions t) ws) refl a.first)
  where
    go : (o : Option Refusal) → plan_refusal t ws ≡ o → (b : Bool) → basic_words? (actions t) ws ≡ b → x ≡ get_or (reported o (bit b ∷ [])).values 0 0
        → (x ≡ 1) ↔ BasicPlan t ws
    go none q true i e = (λ h. (basic_plan t ws).0 (q, i), λ h. e)
    go none q false i e = (λ h. absurd (omega (arith, h, e)), λ h. untrue (sym i ∙ ((basic_plan t ws).1 h).1))
    go (some r) q b i e = (λ h. absurd (omega (arith, h, e)), λ h. refusing (sym q ∙ ((basic_plan t ws).1 h).0))

-- the orders and the stuck paths of an accepted plan are set
pub orders_seen : (t : Tables) (ws : List ℕ) {n p x y : ℕ} → Answered (orders_reported t ws) n p x y
    → ◌≡◌ {A = Returned} (record { number = n; place = p; values = x ∷ y ∷ []; areas = [] }) (returned 2 (orders_reported t ws) []) × OrdersSeen t ws n x y
orders_seen t ws {n} {p} {x} {y} a = (returned_2 [] a, record { counted_exactly = exactly; counts = λ e. go ((accepted-plan t ws).1 (exactly.0 e)) })
  where
    exactly : (n ≡ 0) ↔ AcceptedPlan t ws
    exactly = zero_accepts (plan_refusal t ws) _ (AcceptedPlan t ws) (plan_numbers (Range 18) (λ k h. h) t ws) (accepted-plan t ws) a

    go : plan_refusal t ws ≡ none → CountClaims t ws (record { orders = x; stuck = y })
    go e = rw (a.first, a.second, e) (counts-claimed t ws e)

-- Unfoldings

ending_range : {t : Tables} {m room c : ℕ} {plan : List ℕ} {s k : ℕ} → Stops t m room c plan s k → (34 ≤ k) × (k ≤ 36)
ending_range (allowance_spent s e i) = (omega arith, omega arith)
ending_range (list_full s e i j) = (omega arith, omega arith)
ending_range (next_too_long s e i j l) = (omega arith, omega arith)

-- what an unfolding's answer can be
abbrev UnfoldRange : Result Unfolded Refusal → Type 0
UnfoldRange x =
    ((k s z : ℕ) → x ≡ Ok (Stopped k s z) → (34 ≤ k) × (k ≤ 36)) × ((f : Refusal) → x ≡ Err f → RefusalNumber f.number)

unfolded_as : (x : Result Unfolded Refusal) → UnfoldRange x → {n p v w : ℕ} → Answered (unfold_report x) n p v w → UnfoldedAs x n p v w
unfolded_as (Ok (Finished s z)) r a = rw (a.number, a.place, a.first, a.second) (seen_as.UnfoldedAs.finished s z)
unfolded_as (Ok (Stopped k s z)) r a =
    let i = r.0 k s z refl in
    rw (a.number, a.place, a.first, a.second) (seen_as.UnfoldedAs.stopped k s z i.0 i.1)
unfolded_as (Err f) r a = rw (a.number, a.place, a.first, a.second) (seen_as.UnfoldedAs.refused f (r.1 f refl))

module _ (t : Tables) (plan : List ℕ) (m : ℕ) (list a b : List ℕ) where
  run_not_refused : (c : Bool) (r : Run) (f : Refusal)
      → cond c (Ok (Finished r.steps (length r.plan))) (Ok (Stopped r.number r.steps (length r.plan))) ≡ Err f → ⊥
  run_not_refused true r f e = cc
  run_not_refused false r f e = cc

  refused-number : (f : Refusal) → (unfold_outcome t plan m list a b).answer ≡ Err f → RefusalNumber f.number
  unfolding unfold_outcome
  refused-number f = go (unfold_refusal t plan (capacity a b)) (run_of t plan m (length list) (capacity a b)) (unfold_numbers t plan (capacity a b))
    where
      go : (o : Option Refusal) (r : Run) → Numbered RefusalNumber o → (unfolding_of.unless_refused o r list a b).answer ≡ Err f → RefusalNumber f.number
      go none r l e = absurd (run_not_refused (eqb r.number 0) r f e)
      go (some g) r l e = let q : g ≡ f = cc in rw (← q) l

  unfold_range : (o : UnfoldOutcome) → o ≡ unfold_outcome t plan m list a b → UnfoldClaims (unfold_given t plan m list a b) o → UnfoldRange o.answer
  unfold_range o e k = (
    λ n s z q. ending_range (k.stopped_rightly n s z q),
    λ f q. refused-number f (sym (ap (λ (x : UnfoldOutcome). x.answer) e) ∙ q),
  )

  pub unfold_as : (o : UnfoldOutcome) {n p v w : ℕ} → o ≡ unfold_outcome t plan m list a b → UnfoldClaims (unfold_given t plan m list a b) o → Answered (unfold_report o.answer) n p v w
      → UnfoldedAs o.answer n p v w
  unfold_as o e k h = unfolded_as o.answer (unfold_range o e k) h

  pub unfold_seen : {x : Result Unfolded Refusal} {l y z : List ℕ} {n p v w : ℕ} → record { answer = x; list = l; a = y; b = z } ≡ unfold_outcome t plan m list a b
      → UnfoldClaims (unfold_given t plan m list a b) (record { answer = x; list = l; a = y; b = z }) → Answered (unfold_report x) n p v w → UnfoldSeen (unfold_given t plan m list a b) l y z n p v w
  unfold_seen {x} {l} {y} {z} e k h =
      record { answer = x; seen = unfold_as (record { answer = x; list = l; a = y; b = z }) e k h; claims = k }

-- Checks

-- what a check's answer can be
abbrev CheckRange : Result Checked Refusal → Type 0
CheckRange x =
    ((k s z : ℕ) → x ≡ Ok (TurnedBack k s z) → (31 ≤ k) × (k ≤ 33)) × ((f : Refusal) → x ≡ Err f → RefusalNumber f.number)

checked_as : (x : Result Checked Refusal) → CheckRange x → {n p v w : ℕ} → Answered (check_report x) n p v w → CheckedAs x n p v w
checked_as (Ok (Accepted s z)) r a = rw (a.number, a.place, a.first, a.second) (seen_as.CheckedAs.accepted s z)
checked_as (Ok (TurnedBack k s z)) r a =
    let i = r.0 k s z refl in
    rw (a.number, a.place, a.first, a.second) (seen_as.CheckedAs.turned_back k s z i.0 i.1)
checked_as (Err f) r a = rw (a.number, a.place, a.first, a.second) (seen_as.CheckedAs.refused f (r.1 f refl))

module _ (t : Tables) (start claimed rewriting a b : List ℕ) where
  replay_range : (c : Bool) (r : Replay) → eqb r.number 0 ≡ c → ends? r.number ≡ true
      → CheckRange (cond c (Ok (Accepted r.steps (length r.plan))) (Ok (TurnedBack r.number r.steps (length r.plan))))
  replay_range true r q l = (
    λ k s z e. absurd (cc),
    λ f e. absurd (cc),
  )
  replay_range false r q l =
      let h : turned r.number ≡ true = rw q at l in (
        λ k s z e. let i : r.number ≡ k = cc in rw (← i) (turned_range r.number h),
        λ f e. absurd (cc),
      )

  pub check_range : CheckRange (check_outcome t start claimed rewriting a b).answer
  unfolding check_outcome replay_of
  check_range =
      go (check_refusal t start claimed rewriting (capacity a b)) (replay_of t start claimed rewriting (capacity a b))
      (check_numbers t start claimed rewriting (capacity a b)) (replay-ends t (capacity a b) claimed (records_of rewriting) 0 start [])
    where
      go : (o : Option Refusal) (r : Replay) → Numbered RefusalNumber o → ends? r.number ≡ true → CheckRange (checking_of.unless_refused o r a b).answer
      go none r l h = replay_range (eqb r.number 0) r refl h
      go (some g) r l h = (
        λ k s z e. absurd (cc),
        λ f e. let q : g ≡ f = cc in rw (← q) l,
      )

  check_as : (o : CheckOutcome) {n p v w : ℕ} → o ≡ check_outcome t start claimed rewriting a b → Answered (check_report o.answer) n p v w → CheckedAs o.answer n p v w
  check_as o e h = checked_as o.answer (subst (λ (x : CheckOutcome). CheckRange x.answer) (sym e) check_range) h

  pub check_seen : {x : Result Checked Refusal} {y z : List ℕ} {n p v w : ℕ} → record { answer = x; a = y; b = z } ≡ check_outcome t start claimed rewriting a b
      → CheckClaims (check_given t start claimed rewriting a b) (record { answer = x; a = y; b = z })
      × StepClaims (check_given t start claimed rewriting a b) (record { answer = x; a = y; b = z }) → Answered (check_report x) n p v w
      → CheckSeen (check_given t start claimed rewriting a b) y z n p v w
  check_seen {x} {y} {z} e k h =
      record { answer = x; seen = check_as (record { answer = x; a = y; b = z }) e h; claims = k.0; single = k.1 }

-- Both

abbrev OwnRange : Maybe (Result Checked Refusal) → Type 0
OwnRange w = (x : Result Checked Refusal) → w ≡ Some x → CheckRange x

own_as : (w : Maybe (Result Checked Refusal)) → OwnRange w → {m n p x y : ℕ} → MaybeAnswered (own_report w) m n p x y → OwnAs w m n p x y
own_as (Some v) r {m} {n} {p} {x} {y} a = rw a.made (made v n p x y (checked_as v (r v refl) a.answered))
own_as None r a = rw (a.made, a.answered.number, a.answered.place, a.answered.first, a.answered.second) not_made

module _ (t : Tables) (plan : List ℕ) (m : ℕ) (list a b c d : List ℕ) where
  own_range : (o : UnfoldOutcome) (x : Result Unfolded Refusal) → OwnRange (check_own t plan o x c d).answer
  unfolding check_own
  own_range o (Ok (Finished s z)) v e =
      let q : (check_outcome t plan (reached_part (even? s) z o.a o.b) (own_rewriting s o.list) c d).answer ≡ v = cc in
      subst CheckRange q (check_range t plan (reached_part (even? s) z o.a o.b) (own_rewriting s o.list) c d)
  own_range o (Ok (Stopped k s z)) v e =
      let q : (check_outcome t plan (reached_part (even? s) z o.a o.b) (own_rewriting s o.list) c d).answer ≡ v = cc in
      subst CheckRange q (check_range t plan (reached_part (even? s) z o.a o.b) (own_rewriting s o.list) c d)
  own_range o (Err f) v e = absurd (cc)

  pub both_seen : (o : BothOutcome) (n : BothNumbers) → o ≡ both_outcome t plan m list a b c d
      → UnfoldClaims (unfold_given t plan m list a b) o.unfolded × OwnAccepted o.unfolded.answer o.own.answer a b c d
      → Answered (unfold_report o.unfolded.answer) n.number n.place n.steps n.size
      → MaybeAnswered (own_report o.own.answer) n.checked n.own_number n.own_place n.own_steps n.own_size
      → UnfoldSeen (unfold_given t plan m list a b) o.unfolded.list o.unfolded.a o.unfolded.b n.number n.place n.steps n.size
      × OwnSeen a b c d n
  unfolding both_outcome
  both_seen o n e k h i =
      let s = unfold_as t plan m list a b o.unfolded (ap (λ (x : BothOutcome). x.unfolded) e) k.0 h in (
        record { answer = o.unfolded.answer; seen = s; claims = k.0 },
        record {
          unfolded = o.unfolded.answer;
          own = o.own.answer;
          seen = s;
          own_seen =
              own_as o.own.answer
              (subst (λ (x : BothOutcome). OwnRange x.own.answer) (sym e)
              (own_range (unfold_outcome t plan m list a b) (unfold_outcome t plan m list a b).answer))
              i;
          accepts = k.1;
        },
      )

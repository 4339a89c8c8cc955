-- A step from right to left at a place: what it gives, by what the law makes of the left side and by the subplan at the last word read.
use Prim.Native.Nat.{ℕ, suc, ◌+◌, ◌-◌, ◌≤◌, ◌<◌}
use native.Mathlib.Omega.{arith}
use mathlib.Core.Path.{◌≡◌, refl, sym, ◌∙◌, ap}
use mathlib.Core.Bool.{Bool, true, false, cond, not}
use mathlib.Core.List.{List, [], ◌∷◌, ◌++◌}
use mathlib.Core.Option.{Option, none, some}
use lib.ListN.{length, take, drop, length-append, length-drop}
use lib.Seq.{length-take-le, take-take, take-append-le, take_all, drop_at, take-add}
use Rattle.tables.specs.Tables.{Tables, actions}
use Rattle.tables.specs.Lawful.{Lawful}
use Rattle.plans.specs.Term.{Term, words, read}
use Rattle.plans.specs.Place.{subterm, put}
use Rattle.plans.specs.Start.{begins, start_of}
use Rattle.plans.specs.Stack.{spell}
use Rattle.plans.specs.Judging.{words_refusal}
use Rattle.plans.proofs.Reading.{read-said}
use Rattle.plans.proofs.Place.{stack_at, subterm-stack, stack-subterm, cut}
use Rattle.plans.proofs.Start.{subterm-prefix}
use Rattle.plans.proofs.Accepted.{accepted-term}
use Rattle.laws.specs.Step.{step_back}
use Rattle.laws.proofs.Tables.{Proper, lawful_proper}
use Rattle.rewritings.specs.Roots.{law_term}
use Rattle.matching.specs.Tried.{gives}
use Rattle.matching.proofs.Giving.{back_by_law}
use Rattle.buffer.specs.declared.State.{State}
use Rattle.buffer.specs.Buffer.{whole}
use Rattle.steps.specs.Working.{plan_in, Working, Same, start_here, words_here, next_with}
use Rattle.steps.proofs.Making.{plan_split, gap, read-long, start_is, start-before}

-- an accepted plan has a subplan at each of its places
some_waits : (n : ℕ) (ws : List ℕ) (s : List Term) → 1 ≤ length ws → read n ws [] ≡ some s → (u : Term) × (r : List Term) × (s ≡ u ∷ r)
unfolding spell
some_waits n ws [] h e = absurd (omega (arith, ap length (read-said n ws [] [] tt e).0))
some_waits n ws (u ∷ r) h e = (u, r, refl)

pub subplan_at : (n : ℕ) → n ≤ 31 → (w : List ℕ) (p : ℕ) → words_refusal n w ≡ none → p < length w → (u : Term) × (subterm n w p ≡ some u)
subplan_at n few w p a h =
    let x = accepted-term n few w a in
    let r = stack_at n w x.0 x.1 (suc p) in
    let k = some_waits n (take (suc p) w) r.0 (rw (length-take-le (suc p) w h) (omega arith)) r.1 in
    (k.0, stack-subterm n w p k.0 k.1 h (r.1 ∙ ap some k.2))

-- the subplan at the last word read: its words, and the plan with others in their place
module _ (t : Tables) (left starts right : List ℕ) (s : State) (work : Working t left starts right s) (place : ℕ) (there : s.read ≡ place + 1) (u : Term)
    (sub : subterm (actions t) (plan_in left right s) place ≡ some u) where
  abbrev pre : List ℕ
  pre = take s.read left

  abbrev start : ℕ
  start = start_here starts s

  some_read : 1 ≤ s.read
  some_read = omega arith

  long : length pre ≡ s.read
  long = read-long t left starts right s work

  is_place : s.read - 1 ≡ place
  is_place = omega arith

  sub_read : subterm (actions t) pre place ≡ some u
  sub_read =
      sym (subterm-prefix (actions t) pre (drop s.rest right) place (omega (arith, long)))
      ∙ (ap (λ (l : List ℕ). subterm (actions t) l place) (sym (plan_split left right s)) ∙ sub)

  start-there : start ≡ suc place - length (words u)
  unfolding start_of
  start-there =
      start_is t left starts right s work some_read
      ∙ (ap (λ (p : ℕ). start_of (actions t) pre p) is_place ∙ ap (λ (o : Option Term). begins o place) sub_read)

  -- the words read are those of terms that wait and then those of the subplan
  pub words-read : words_here left starts s ≡ words u
  unfolding spell
  words-read =
      let c = subterm-stack (actions t) pre place u sub_read in
      let k = cut (actions t) pre place u c.1.0 c.0 c.1.1 in
      let all : take (suc place) pre ≡ pre = take_all (suc place) pre (omega (arith, long)) in
      let laid : spell c.1.0 ++ words u ≡ pre = k.0 ∙ all in
      let size : length (spell c.1.0) + length (words u) ≡ s.read = sym (length-append (spell c.1.0) (words u)) ∙ (ap length laid ∙ long) in
      let front : length (spell c.1.0) ≡ start = omega (arith, start-there) in
      let h = gap t left starts right s work in
      let sum : s.read ≡ start + (s.read - start) = omega (arith, start-before t left starts right s work some_read) in
      let two : pre ≡ take start left ++ take (s.read - start) (drop start left) = ap (λ (m : ℕ). take m left) sum ∙ take-add start (s.read - start) left in
      let e : drop start pre ≡ take (s.read - start) (drop start left) =
      rw two (drop_at (take start left) (take (s.read - start) (drop start left)) start (length-take-le start left (omega (arith, start-before t left starts right s work some_read, h.left_long, h.apart, h.rest_in)))) in
      sym e ∙ rw (← laid) (drop_at (spell c.1.0) (words u) start front)

  pub put-here : (x : List ℕ) → put (plan_in left right s) place (length (words u)) x ≡ next_with x left starts right s
  put-here x =
      let l = start-before t left starts right s work some_read in
      let a : suc place ≡ s.read = omega arith in
      let d : drop s.read (plan_in left right s) ≡ drop s.rest right = rw (plan_split left right s) (drop_at pre (drop s.rest right) s.read long) in
      let f : take start (plan_in left right s) ≡ take start left =
      rw (plan_split left right s) (take-append-le start pre (drop s.rest right) (omega (arith, long)) ∙ take-take start s.read left (omega arith)) in
      rw (← start-there, f, a, d)

-- the state s₀ at entry, and s with the word at the place read last
module _ (t : Tables) (lawful : Lawful t) (law place : ℕ) (carried left₀ starts₀ right₀ : List ℕ) (s₀ : State) (n : ℕ) (count : n ≡ actions t)
    (pass : words_refusal n carried ≡ none) (left starts right : List ℕ) (s : State) (m : Same t left₀ starts₀ right₀ left starts right s₀ s)
    (at_place : s.read ≡ place + 1) (inside : place < length (plan_in left₀ right₀ s₀)) where
  ok : Proper t
  ok = lawful_proper t lawful

  said : step_back t law place carried (plan_in left right s)
      ≡ cond (gives (law_term t (actions t) law carried) (words_here left starts s)) (some (next_with carried left starts right s)) none
  said =
      let u = subplan_at (actions t) ok.few (plan_in left right s) place m.working.accepted (rw m.same_plan inside) in
      let w = words-read t left starts right s m.working place at_place u.0 u.1 in
      let p = put-here t left starts right s m.working place at_place u.0 u.1 carried in
      rw (w, ← p) (back_by_law t ok law place carried (plan_in left right s) (rw (← count) pass) u.0 u.1)

  answer_by : (b : Bool) → b ≡ gives (law_term t n law carried) (words_here left starts s)
      → step_back t law place carried (plan_in left₀ right₀ s₀) ≡ cond b (some (next_with carried left starts right s)) none
  answer_by b e = rw (← m.same_plan, e, count) said

  pub back_none : (b : Bool) → b ≡ gives (law_term t n law carried) (words_here left starts s) → not b ≡ true
      → step_back t law place carried (plan_in left₀ right₀ s₀) ≡ none
  back_none true e q = let z : ◌≡◌ {A = ℕ} 0 1 = cc in absurd (omega (arith, z))
  back_none false e q = answer_by false e

  pub back_some : (b : Bool) → b ≡ gives (law_term t n law carried) (words_here left starts s) → not b ≡ false
      → step_back t law place carried (plan_in left₀ right₀ s₀) ≡ some (next_with carried left starts right s)
  back_some true e q = answer_by true e
  back_some false e q = let z : ◌≡◌ {A = ℕ} 0 1 = cc in absurd (omega (arith, z))

-- what stands before the rest is free
pub same_before : (t : Tables) (left₀ starts₀ right₀ left starts right side : List ℕ) (s₀ s : State) → Same t left₀ starts₀ right₀ left starts right s₀ s
    → length side ≡ s.rest → Same t left₀ starts₀ right₀ left starts (side ++ drop s.rest right) s₀ s
unfolding whole
same_before t left₀ starts₀ right₀ left starts right side s₀ s m as_long =
    let h = m.working.held in
    let behind : drop s.rest (side ++ drop s.rest right) ≡ drop s.rest right = drop_at side (drop s.rest right) s.rest as_long in
    record {
      working =
          record {
            held =
                record {
                  left_long = h.left_long;
                  starts_long = h.starts_long;
                  right_long = omega (arith, length-append side (drop s.rest right), length-drop s.rest right, h.right_long, h.rest_in);
                  rest_in = h.rest_in;
                  apart = h.apart;
                  starts_right = h.starts_right;
                };
            accepted = rw behind m.working.accepted;
          };
      same_plan = rw behind m.same_plan;
      same_step = m.same_step;
    }

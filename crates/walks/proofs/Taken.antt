-- One message from any set of marks: it is taken exactly when the tree of some marked subplan has a branch with it, and what stands
-- afterwards is what these branches lead to.
use Prim.Native.Nat.{ℕ, zero, suc, ◌+◌, ◌≤◌, ◌<◌}
use native.Mathlib.Omega.{arith}
use mathlib.Core.Path.{◌≡◌, refl, ap, sym, ◌∙◌, subst}
use mathlib.Core.Bool.{Bool, true, false, cond, ◌||◌, false≢true}
use mathlib.Core.List.{List, [], ◌∷◌}
use mathlib.Core.Logic.{◌↔◌, ◌⊎◌, inl, inr}
use mathlib.Core.Option.{Option, none, some, some-injective}
use lib.Dec.{ltb}
use lib.ListN.{length, replicate, length-replicate, get_or-replicate, get_or-eq_default}
use borrow.Author.Tests.{ltb-true, ltb-false, lt-ltb}
use Rattle.tables.specs.Tables.{Tables, outside?}
use Rattle.tables.proofs.Actions.{not_outside, within}
use Rattle.plans.specs.Term.{Term, words, Over, term_of}
use Rattle.plans.specs.Basic.{Basic, dead_stop, sum_plan, SumPlan, action, prefix, sum}
use Rattle.plans.proofs.Place.{subterm-over}
use Rattle.plans.proofs.Options.{never}
use Rattle.trees.specs.Tree.{Rest}
use Rattle.paths.specs.Subplans.{place_of, Target, at_finish, subplan, Transition, ends, goes, left, right, Transitions, stay, go, rest_of}
use Rattle.walks.specs.Progress.{Progress, Marked}
use Rattle.walks.specs.Pass.{marked?, Pass, pass, passed, some_mark, progress_after, take_message}
use Rattle.walks.specs.Reached.{FromMark, FromMarkTo, MarkedBranch}
use Rattle.paths.proofs.Standing.{standing_whole}
use Rattle.walks.proofs.Covering.{target_place, Seen, Goes, Covered, cover}
use Rattle.paths.proofs.Parts.{part-subterm, subterm-part, subterm-part_at, part-basic, plan_size}
use Rattle.paths.proofs.Subplans.{transition_has, has_transition}

-- no mark in a list of zeros
pub blank : (n k : ℕ) → Marked (replicate n 0) k → ⊥
blank n k h = go (ltb k n) refl
  where
    go : (b : Bool) → ltb k n ≡ b → ⊥
    go true e = let z = get_or-replicate {A = ℕ} n k 0 0 (ltb-true k n e) in omega arith
    go false e = let l = ltb-false k n e in let z = get_or-eq_default {A = ℕ} (replicate n 0) 0 {n = k} (omega (arith, length-replicate {A = ℕ} n 0)) in omega arith

pub some_mark_found : (l : List ℕ) → some_mark l ≡ true → (k : ℕ) × Marked l k
unfolding some_mark
some_mark_found [] e = absurd (false≢true e)
some_mark_found (b ∷ l) e = go (marked? b) refl (some_mark_found l) e
  where
    go : (c : Bool) → marked? b ≡ c → (some_mark l ≡ true → (k : ℕ) × Marked l k) → c || some_mark l ≡ true → (k : ℕ) × Marked (b ∷ l) k
    go true d f e = (0, ltb-true 0 b d)
    go false d f e = let r = f e in (suc r.0, r.1)

pub mark_some : (l : List ℕ) (k : ℕ) → Marked l k → some_mark l ≡ true
unfolding some_mark
mark_some [] k h = absurd (omega arith)
mark_some (b ∷ l) zero h = rw (lt-ltb 0 b h) refl
mark_some (b ∷ l) (suc k) h = or_right (marked? b) (mark_some l k h)
  where
    or_right : (c : Bool) → some_mark l ≡ true → c || some_mark l ≡ true
    or_right true e = refl
    or_right false e = e

-- messages that lead somewhere are actions, from 1 to n
mutual
  transition_range : {n m s : ℕ} {v : Term} {g : Target} → Basic v → Over n v → Transition m s v g → (0 < m) × (m ≤ n)
  transition_range dead_stop o (ends h) = absurd (omega arith)
  transition_range (sum_plan b) o i = sum_range b o i

  sum_range : {n m s : ℕ} {v : Term} {g : Target} → SumPlan v → Over n v → Transition m s v g → (0 < m) × (m ≤ n)
  sum_range (action l) o (ends h) = (h, o)
  sum_range (prefix l b) o goes = (l, o.0)
  sum_range (sum b c) o (left i) = sum_range b o.0 i
  sum_range (sum b c) o (right i) = sum_range c o.1 i

-- the beginning of a pass
abbrev blank-pass : List ℕ → List ℕ → Pass
blank-pass plan marks = record { left = marks; next = replicate (length plan) 0; ending = false }

blank_unseen : (plan marks : List ℕ) (o : Option ℕ) → Seen (blank-pass plan marks) o → ⊥
blank_unseen plan marks none h = false≢true h
blank_unseen plan marks (some k) h = blank (length plan) k h

pub transition_once : {m s : ℕ} {v : Term} {g : Target} → Transitions (subplan s v) (m ∷ []) g → Transition m s v g
transition_once (go i stay) = i

module _ (n : ℕ) (few : n ≤ 31) (plan : List ℕ) (u : Term) (basic : Basic u) (e : term_of n plan ≡ some u) (marks : List ℕ) (fits : length marks ≡ length plan) where
  -- what a pass finds
  module _ (m : ℕ) (above_zero : 0 < m) where
    covered_plan : (p' : Pass) × (passed n plan m marks ≡ p') × Covered m 0 u (blank-pass plan marks) p'
    unfolding passed pass
    covered_plan =
        let w = cover n few plan m above_zero basic (standing_whole n plan u e) (blank-pass plan marks) (fits, length-replicate (length plan) 0) in
        (w.0, ap (λ i. pass n plan m i (blank-pass plan marks)) all ∙ w.1, w.2)
      where
        all : length plan ≡ 0 + length (words u)
        all = omega (arith, plan_size n few plan u basic e)

    pub pass-length : length (passed n plan m marks).next ≡ length plan
    pass-length = rw covered_plan.1 (covered_plan.2.next-length ∙ length-replicate (length plan) 0)

    pub pass_found : (o : Option ℕ) → Seen (passed n plan m marks) o ↔ Goes m marks 0 u o
    pass_found o = (λ h. only (covered_plan.2.sound o (subst (λ p. Seen p o) covered_plan.1 h)), λ h. subst (λ p. Seen p o) (sym covered_plan.1) (covered_plan.2.made o h))
      where
        only : Seen (blank-pass plan marks) o ⊎ Goes m marks 0 u o → Goes m marks 0 u o
        only (inl h) = absurd (blank_unseen plan marks o h)
        only (inr h) = h

    -- in the words of the request
    goes-from : (o : Option ℕ) → Goes m marks 0 u o ↔ ((g : Target) × (target_place g ≡ o) × FromMark n plan marks (m ∷ []) g)
    goes-from o = (to, from)
      where
        to : Goes m marks 0 u o → (g : Target) × (target_place g ≡ o) × FromMark n plan marks (m ∷ []) g
        to (r, v, g, p, h, i, q) = (g, q, record { start = r; part = v; stands = part-subterm n few plan u basic e p; mark = h; way = go i stay })

        from : ((g : Target) × (target_place g ≡ o) × FromMark n plan marks (m ∷ []) g) → Goes m marks 0 u o
        from (g, q, f) = (f.start, f.part, g, subterm-part_at n few plan u basic e f.start f.part f.stands, f.mark, transition_once f.way, q)

  -- a message taken
  from_range : (m : ℕ) (g : Target) → FromMark n plan marks (m ∷ []) g → (0 < m) × (m ≤ n)
  from_range m g f =
      transition_range (part-basic (subterm-part_at n few plan u basic e f.start f.part f.stands) basic)
      (subterm-over n plan (place_of f.start f.part) f.part f.stands) (transition_once f.way)

  -- what stands after a message
  pub record Led (m : ℕ) (q : Progress) : Type 0 where
    pub fits_too : length q.marks ≡ length plan
    pub marks_iff : (k : ℕ) → Marked q.marks k ↔ FromMarkTo n plan marks (m ∷ []) k
    pub finish_iff : (q.finish ≡ true) ↔ FromMark n plan marks (m ∷ []) at_finish

  module _ (m : ℕ) (above_zero : 0 < m) where
    pub led : Led m (record { marks = (passed n plan m marks).next; finish = (passed n plan m marks).ending })
    led = record { fits_too = pass-length m above_zero; marks_iff = λ k. (marks-to k, marks-from k); finish_iff = (finish-to, finish-from) }
      where
        at_target : (k : ℕ) (g : Target) → target_place g ≡ some k → FromMark n plan marks (m ∷ []) g → FromMarkTo n plan marks (m ∷ []) k
        at_target k at_finish q f = never q
        at_target k (subplan r w) q f = (r, w, some-injective _ _ q, f)

        only-finish : (g : Target) → target_place g ≡ none → FromMark n plan marks (m ∷ []) g → FromMark n plan marks (m ∷ []) at_finish
        only-finish at_finish q f = f
        only-finish (subplan r w) q f = never (sym q)

        marks-to : (k : ℕ) → Marked (passed n plan m marks).next k → FromMarkTo n plan marks (m ∷ []) k
        marks-to k h = let w = (goes-from m above_zero (some k)).0 ((pass_found m above_zero (some k)).0 h) in at_target k w.0 w.1 w.2

        marks-from : (k : ℕ) → FromMarkTo n plan marks (m ∷ []) k → Marked (passed n plan m marks).next k
        marks-from k (r, w, q, f) = (pass_found m above_zero (some k)).1 ((goes-from m above_zero (some k)).1 (subplan r w, ap some q, f))

        finish-to : (passed n plan m marks).ending ≡ true → FromMark n plan marks (m ∷ []) at_finish
        finish-to h = let w = (goes-from m above_zero none).0 ((pass_found m above_zero none).0 h) in only-finish w.0 w.1 w.2

        finish-from : FromMark n plan marks (m ∷ []) at_finish → (passed n plan m marks).ending ≡ true
        finish-from f = (pass_found m above_zero none).1 ((goes-from m above_zero none).1 (at_finish, refl, f))

-- what a pass leaves
data Answered (p : Pass) : Option Progress → Type 0 where
  taken : Seen p none ⊎ ((k : ℕ) × Marked p.next k) → Answered p (some (record { marks = p.next; finish = p.ending }))
  refused : ((o : Option ℕ) → Seen p o → ⊥) → Answered p none

answered : (p : Pass) → Answered p (progress_after p)
unfolding progress_after
answered p = go p.ending refl (some_mark p.next) refl
  where
    none_of : (p.ending ≡ false) → some_mark p.next ≡ false → (o : Option ℕ) → Seen p o → ⊥
    none_of e f none h = false≢true (sym e ∙ h)
    none_of e f (some k) h = false≢true (sym f ∙ mark_some p.next k h)

    go : (b : Bool) → p.ending ≡ b → (c : Bool) → some_mark p.next ≡ c → Answered p (cond (b || c) (some (record { marks = p.next; finish = p.ending })) none)
    go true e c f = taken (inl e)
    go false e true f = taken (inr (some_mark_found p.next f))
    go false e false f = refused (none_of e f)

-- a message, from any set of marks
data Message (n : ℕ) (plan : List ℕ) (m : ℕ) (marks : List ℕ) : Option Progress → Type 0 where
  off : outside? n m ≡ true → Message n plan m marks none
  on : {a : Option Progress} → outside? n m ≡ false → Answered (passed n plan m marks) a → Message n plan m marks a

message : (n : ℕ) (plan : List ℕ) (m : ℕ) (p : Progress) → Message n plan m p.marks (take_message n plan m p)
unfolding take_message
message n plan m p = go (outside? n m) refl
  where
    go : (b : Bool) → outside? n m ≡ b → Message n plan m p.marks (cond b none (progress_after (passed n plan m p.marks)))
    go true e = off e
    go false e = on e (answered (passed n plan m p.marks))

module _ (n : ℕ) (few : n ≤ 31) (plan : List ℕ) (u : Term) (basic : Basic u) (e : term_of n plan ≡ some u) (m : ℕ) (p : Progress) (fits : length p.marks ≡ length plan) where
  abbrev Now : Target → Type 0
  Now g = FromMark n plan p.marks (m ∷ []) g

  seen_now : 0 < m → (o : Option ℕ) → Seen (passed n plan m p.marks) o → (g : Target) × Now g
  seen_now above_zero o h = let w = (goes-from n few plan u basic e p.marks fits m above_zero o).0 ((pass_found n few plan u basic e p.marks fits m above_zero o).0 h) in (w.0, w.2)

  now_seen : 0 < m → (g : Target) → Now g → Seen (passed n plan m p.marks) (target_place g)
  now_seen above_zero g f = (pass_found n few plan u basic e p.marks fits m above_zero (target_place g)).1 ((goes-from n few plan u basic e p.marks fits m above_zero (target_place g)).1 (g, refl, f))

  -- what stands afterwards is what the message leads to
  pub taken_led : (q : Progress) → take_message n plan m p ≡ some q → Led n few plan u basic e p.marks fits m q
  taken_led q d = go (message n plan m p) d
    where
      go : {a : Option Progress} → Message n plan m p.marks a → a ≡ some q → Led n few plan u basic e p.marks fits m q
      go (off f) d = never d
      go (on f (taken h)) d = subst (Led n few plan u basic e p.marks fits m) (some-injective _ _ d) (led n few plan u basic e p.marks fits m (within n m f).0)
      go (on f (refused h)) d = never d

  -- and it is taken exactly when it leads somewhere
  pub taken_iff_leads : ((q : Progress) × (take_message n plan m p ≡ some q)) ↔ ((g : Target) × Now g)
  taken_iff_leads = (to, from)
    where
      found : 0 < m → Seen (passed n plan m p.marks) none ⊎ ((k : ℕ) × Marked (passed n plan m p.marks).next k) → (g : Target) × Now g
      found above_zero (inl h) = seen_now above_zero none h
      found above_zero (inr (k, h)) = seen_now above_zero (some k) h

      yes_to : {a : Option Progress} (q : Progress) → Message n plan m p.marks a → a ≡ some q → (g : Target) × Now g
      yes_to q (off f) d = never d
      yes_to q (on f (taken h)) d = found (within n m f).0 h
      yes_to q (on f (refused h)) d = never d

      to : ((q : Progress) × (take_message n plan m p ≡ some q)) → (g : Target) × Now g
      to (q, d) = yes_to q (message n plan m p) d

      yes_from : {a : Option Progress} (g : Target) → Now g → Message n plan m p.marks a → (q : Progress) × (a ≡ some q)
      yes_from g w (off f) = let r = from_range n few plan u basic e p.marks fits m g w in absurd (false≢true (sym (not_outside n m r.0 r.1) ∙ f))
      yes_from g w (on f (taken h)) = (_, refl)
      yes_from g w (on f (refused h)) = absurd (h (target_place g) (now_seen (within n m f).0 g w))

      from : ((g : Target) × Now g) → (q : Progress) × (take_message n plan m p ≡ some q)
      from (g, w) = yes_from g w (message n plan m p)

  -- what the message leads to is what the branches of the marked subplans' trees leave
  module _ (t : Tables) where
    pub leads-branch : (g : Target) → Now g → MarkedBranch n plan p.marks t m (rest_of t g)
    leads-branch g f =
        record {
          place = place_of f.start f.part;
          part = f.part;
          stands = f.stands;
          mark = f.mark;
          has = transition_has t (part-basic (subterm-part_at n few plan u basic e f.start f.part f.stands) basic) (transition_once f.way);
        }

    pub branch_leads : (r : Rest) → MarkedBranch n plan p.marks t m r → (g : Target) × (r ≡ rest_of t g) × Now g
    branch_leads r b =
        let w = subterm-part n few plan u basic e b.place b.part b.stands in
        let c = has_transition t w.0 (part-basic w.1 basic) b.has in
        (c.0, c.2, record { start = w.0; part = b.part; stands = rw w.2 b.stands; mark = rw w.2 b.mark; way = go c.1 stay })

    -- "taken exactly when the tree of some marked subplan has a branch with it"
    pub taken_iff_branch : ((q : Progress) × (take_message n plan m p ≡ some q)) ↔ ((r : Rest) × MarkedBranch n plan p.marks t m r)
    taken_iff_branch =
        (λ h. let w = taken_iff_leads.0 h in (rest_of t w.0, leads-branch w.0 w.1), λ h. let c = branch_leads h.0 h.1 in taken_iff_leads.1 (c.0, c.2))

-- Alike trees have the same paths, and a list of actions begins a path exactly when it leads somewhere.
use Prim.Native.Nat.{ℕ}
use mathlib.Core.Path.{◌≡◌, refl}
use mathlib.Core.List.{List, [], ◌∷◌, ◌++◌}
use mathlib.Core.Logic.{◌↔◌, ◌⊎◌, inl, inr}
use Rattle.trees.specs.Tree.{Tree, stop, branch, Rest, finish, further, Has, here, Alike, alike, Matched, matched, AlikeRest, both_finish, both_lead}
use Rattle.trees.proofs.Alike.{alike_sym}
use Rattle.paths.specs.Paths.{Leads, stay, go, Begins, Finishes, Sticks, Whole}

-- alike trees
alike-has : {s t : Tree} {a : ℕ} {n : Rest} → Alike s t → Has a n s → Matched a n t
alike-has (alike f g) h = f _ _ h

pub leads-alike : {n m n' : Rest} {ms : List ℕ} → Leads n ms m → AlikeRest n n' → (m' : Rest) × Leads n' ms m' × AlikeRest m m'
leads-alike {n' = n'} stay e = (n', stay, e)
leads-alike (go h l) (both_lead e) = turn (alike-has e h) (λ k f. leads-alike l f)
  where
    turn : {a : ℕ} {ms : List ℕ} {t : Tree} {n m : Rest} → Matched a n t → ((k : Rest) → AlikeRest n k → (m' : Rest) × Leads k ms m' × AlikeRest m m')
        → (m' : Rest) × Leads (further t) (a ∷ ms) m' × AlikeRest m m'
    turn (matched {m = k} i f) more = let r = more k f in (r.0, go i r.1, r.2)

no_branch : {a : ℕ} {n : Rest} → Matched a n stop → ⊥
no_branch (matched h e) = elim h [ ]

only-stop : (k : Tree) → Alike stop k → k ≡ stop
only-stop stop e = refl
only-stop (branch a n k) (alike f g) = absurd (no_branch (g a n here))

module _ {s t : Tree} (e : Alike s t) (ms : List ℕ) where
  finishes-over : Finishes s ms → Finishes t ms
  finishes-over l = let r = leads-alike l (both_lead e) in last r.1 r.2
    where
      last : {m' : Rest} → Leads (further t) ms m' → AlikeRest finish m' → Leads (further t) ms finish
      last l both_finish = l

  sticks_over : Sticks s ms → Sticks t ms
  sticks_over l = let r = leads-alike l (both_lead e) in last r.1 r.2
    where
      last : {m' : Rest} → Leads (further t) ms m' → AlikeRest (further stop) m' → Leads (further t) ms (further stop)
      last l (both_lead {m = k} f) = rw (← only-stop k f) l

module _ {s t : Tree} (e : Alike s t) (ms : List ℕ) where
  pub finishes-alike : Finishes s ms ↔ Finishes t ms
  finishes-alike = (finishes-over e ms, finishes-over (alike_sym e) ms)

  pub sticks_alike : Sticks s ms ↔ Sticks t ms
  sticks_alike = (sticks_over e ms, sticks_over (alike_sym e) ms)

-- paths in two parts
pub leads-append : {n m k : Rest} {ms ks : List ℕ} → Leads n ms m → Leads m ks k → Leads n (ms ++ ks) k
leads-append stay l = l
leads-append (go h i) l = go h (leads-append i l)

pub leads_split : {n k : Rest} (ms : List ℕ) {ks : List ℕ} → Leads n (ms ++ ks) k → (m : Rest) × Leads n ms m × Leads m ks k
leads_split {n} [] l = (n, stay, l)
leads_split (a ∷ ms) (go h l) = let r = leads_split ms l in (r.0, go h r.1, r.2)

-- every beginning goes on to a whole path
abbrev EndsIn : Rest → List ℕ → Type 0
EndsIn n ms = Leads n ms finish ⊎ Leads n ms (further stop)

mutual
  goes_on : (t : Tree) → (ms : List ℕ) × EndsIn (further t) ms
  goes_on stop = ([], inr stay)
  goes_on (branch a n t) = let r = rest-goes-on n in (a ∷ r.0, onto r.1)
    where
      onto : {ms : List ℕ} → EndsIn n ms → EndsIn (further (branch a n t)) (a ∷ ms)
      onto (inl l) = inl (go here l)
      onto (inr l) = inr (go here l)

  rest-goes-on : (n : Rest) → (ms : List ℕ) × EndsIn n ms
  rest-goes-on finish = ([], inl stay)
  rest-goes-on (further t) = goes_on t

-- and so a list of actions begins a path exactly when it leads somewhere
abbrev pub LeadsOn : Tree → List ℕ → Type 0
LeadsOn t ms = (n : Rest) × Leads (further t) ms n

pub begins_exactly : (t : Tree) (ms : List ℕ) → Begins t ms ↔ LeadsOn t ms
begins_exactly t ms = (to, from)
  where
    cut : {n : Rest} (ks : List ℕ) → Leads (further t) (ms ++ ks) n → LeadsOn t ms
    cut ks l = let r = leads_split ms l in (r.0, r.1)

    to : Begins t ms → LeadsOn t ms
    to (ks, inl l) = cut ks l
    to (ks, inr l) = cut ks l

    both : {n : Rest} {ks : List ℕ} → Leads (further t) ms n → EndsIn n ks → Whole t (ms ++ ks)
    both l (inl i) = inl (leads-append l i)
    both l (inr i) = inr (leads-append l i)

    from : LeadsOn t ms → Begins t ms
    from (n, l) = let r = rest-goes-on n in (r.0, both l r.1)

begins-over : {s t : Tree} → Alike s t → (ms : List ℕ) → Begins s ms → Begins t ms
begins-over e ms (ks, inl l) = (ks, inl ((finishes-alike e (ms ++ ks)).0 l))
begins-over e ms (ks, inr l) = (ks, inr ((sticks_alike e (ms ++ ks)).0 l))

pub begins-alike : {s t : Tree} → Alike s t → (ms : List ℕ) → Begins s ms ↔ Begins t ms
begins-alike e ms = (begins-over e ms, begins-over (alike_sym e) ms)

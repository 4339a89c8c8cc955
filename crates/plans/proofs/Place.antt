-- A plan cut at a place, and read again after the subplan there is replaced.
use Prim.Native.Nat.{ℕ, suc, ◌-◌, ◌≤◌, ◌<◌}
use native.Mathlib.Omega.{arith}
use mathlib.Core.Path.{◌≡◌, refl, ap, sym, ◌∙◌, subst}
use mathlib.Core.Bool.{Bool, true, false, cond}
use mathlib.Core.List.{List, [], ◌∷◌, ◌++◌, append_assoc}
use mathlib.Core.Option.{Option, none, some, some-injective}
use lib.ListN.{length, take, drop, length-append, take-append-drop}
use lib.Seq.{take_at, length-take-le}
use lib.Dec.{ltb}
use borrow.Author.Tests.{ltb-true, lt-ltb}
use Rattle.plans.specs.declared.Binary.{Binary}
use Rattle.plans.specs.declared.Unary.{Unary}
use Rattle.plans.specs.declared.Word.{Word}
use Rattle.plans.specs.declared.Word.TheVariants.{Action, One, Two, NoWord}
use Rattle.plans.specs.Word.{word_of}
use Rattle.plans.specs.Term.{Term, act, un, bin, words, Over, push, read, and_then, sole, term_of}
use Rattle.plans.specs.Place.{top, subterm, replace}
use Rattle.plans.proofs.Options.{never, and_then_some}
use Rattle.plans.specs.Stack.{spell}
use Rattle.plans.proofs.Reading.{OverAll, read-append, read-on, sole_some, read-words, read-spell, read-said}

top_some : (s : List Term) (u : Term) → top s ≡ some u → (r : List Term) × (s ≡ u ∷ r)
top_some [] u e = never e
top_some (x ∷ r) u e = (r, ap (λ v. v ∷ r) (some-injective _ _ e))

module _ (n : ℕ) (w : List ℕ) (p : ℕ) (u : Term) where
  -- the subplan at a place is the last of the terms that wait there
  pub subterm-stack : subterm n w p ≡ some u → (p < length w) × ((s : List Term) × (read n (take (suc p) w) [] ≡ some (u ∷ s)))
  unfolding subterm
  subterm-stack = inner (ltb p (length w)) refl
    where
      inner : (b : Bool) → ltb p (length w) ≡ b → cond b (and_then (read n (take (suc p) w) []) top) none ≡ some u
          → (p < length w) × ((s : List Term) × (read n (take (suc p) w) [] ≡ some (u ∷ s)))
      inner false i e = never e
      inner true i e =
          let c = and_then_some (read n (take (suc p) w) []) top e in
          let d = top_some c.0 u c.2 in
          (ltb-true p (length w) i, (d.0, c.1 ∙ ap some d.1))

  pub stack-subterm : (s : List Term) → p < length w → read n (take (suc p) w) [] ≡ some (u ∷ s) → subterm n w p ≡ some u
  unfolding subterm
  stack-subterm s h e = rw (lt-ltb p (length w) h, e) refl

  pub subterm-inside : subterm n w p ≡ some u → p < length w
  subterm-inside e = (subterm-stack e).0

  pub subterm-over : subterm n w p ≡ some u → Over n u
  subterm-over e = let c = (subterm-stack e).1 in (read-said n (take (suc p) w) [] (u ∷ c.0) tt c.1).1.0

  -- what is read up to a place, and on from there
  pub halves : (v : Term) → subterm n w p ≡ some u → term_of n w ≡ some v
      → (s : List Term) × (read n (take (suc p) w) [] ≡ some (u ∷ s)) × (read n (drop (suc p) w) (u ∷ s) ≡ some (v ∷ []))
  unfolding term_of
  halves v e i =
      let c = (subterm-stack e).1 in
      let g = and_then_some (read n w []) sole i in (
        c.0,
        c.1,
        sym (read-on n (take (suc p) w) (drop (suc p) w) [] (u ∷ c.0) c.1)
            ∙ (ap (λ l. read n l []) (take-append-drop (suc p) w) ∙ (g.1 ∙ ap some (sole_some g.0 v g.2))),
      )

  -- the plan as the words of the terms that wait, the subplan's words and the rest
  pub cut : (s : List Term) → p < length w → read n (take (suc p) w) [] ≡ some (u ∷ s)
      → (spell s ++ words u ≡ take (suc p) w) × OverAll n (u ∷ s) × (take (suc p - length (words u)) w ≡ spell s)
  unfolding spell
  cut s inside e =
      let r = read-said n (take (suc p) w) [] (u ∷ s) tt e in
      let i = ap length r.0 in
      let l : suc p - length (words u) ≡ length (spell s) = omega (arith, simp length-append at i, length-take-le (suc p) w inside) in
      (r.0, r.1, rw l (rw (← take-append-drop (suc p) w, ← r.0) (rw append_assoc (take_at (spell s) _ (length (spell s)) refl))))

  -- the plan with another subplan at the place is read as before, with that one waiting
  pub read_replaced : n ≤ 31 → (s : List Term) (v : Term) → Over n v → p < length w → read n (take (suc p) w) [] ≡ some (u ∷ s)
      → read n (replace w p u v) [] ≡ read n (drop (suc p) w) (v ∷ s)
  unfolding replace
  read_replaced few s v over inside e =
      let k = cut s inside e in
      let rest = drop (suc p) w in
      rw k.2
      (read-on n (spell s) (words v ++ rest) [] s (read-spell n few s k.1.1) ∙ read-on n (words v) rest s (v ∷ s) (read-words n few v s over))

-- a plan that is one term has terms that wait at each place
pub stack_at : (n : ℕ) (w : List ℕ) (v : Term) → term_of n w ≡ some v → (i : ℕ) → (s : List Term) × (read n (take i w) [] ≡ some s)
unfolding term_of
stack_at n w v e i =
    let c = and_then_some (read n w []) sole e in
    let d = and_then_some (read n (take i w) []) (λ s. read n (drop i w) s) (sym (read-append n (take i w) (drop i w) []) ∙ (ap (λ l. read n l []) (take-append-drop i w) ∙ c.1)) in
    (d.0, d.1)

-- Terms related by a relation that every operator keeps: replacing a subplan by a related one leaves the plan readable, and its term related.
module _ (R : Term → Term → Type 0) (same : (u : Term) → R u u) (keep_un : (o : Unary) (u v : Term) → R u v → R (un o u) (un o v))
    (keep_bin : (o : Binary) (u v x y : Term) → R u v → R x y → R (bin o u x) (bin o v y)) where
  data Stacks : List Term → List Term → Type 0 where
    bare : Stacks [] []
    on : {x y : Term} {s r : List Term} → R x y → Stacks s r → Stacks (x ∷ s) (y ∷ r)

  stacks_refl : (s : List Term) → Stacks s s
  stacks_refl [] = bare
  stacks_refl (x ∷ s) = on (same x) (stacks_refl s)

  -- an answer is there too, with terms related to those
  abbrev Follows : Option (List Term) → List Term → Type 0
  Follows m s = (r : List Term) × (m ≡ some r) × Stacks s r

  push_follows : (k : Word) (s r s' : List Term) → Stacks s r → push k s ≡ some s' → Follows (push k r) s'
  unfolding push
  push_follows (Action a) s r s' p e = (act a ∷ r, refl, subst (λ l. Stacks l (act a ∷ r)) (some-injective _ _ e) (on (same (act a)) p))
  push_follows (One o) s r s' bare e = never e
  push_follows (One o) s r s' (on {y = y} {r = l} h p) e =
      (un o y ∷ l, refl, subst (λ i. Stacks i (un o y ∷ l)) (some-injective _ _ e) (on (keep_un o _ _ h) p))
  push_follows (Two o) s r s' bare e = never e
  push_follows (Two o) s r s' (on h bare) e = never e
  push_follows (Two o) s r s' (on {y = y} h (on {y = x} {r = l} i p)) e =
      (bin o x y ∷ l, refl, subst (λ j. Stacks j (bin o x y ∷ l)) (some-injective _ _ e) (on (keep_bin o _ _ _ _ i h) p))
  push_follows NoWord s r s' p e = never e

  read_follows : (n : ℕ) (ws : List ℕ) (s r s' : List Term) → Stacks s r → read n ws s ≡ some s' → Follows (read n ws r) s'
  unfolding read
  read_follows n [] s r s' p e = (r, refl, subst (λ l. Stacks l r) (some-injective _ _ e) p)
  read_follows n (w ∷ ws) s r s' p e =
      let c = and_then_some (push (word_of n w) s) _ e in
      let f = push_follows (word_of n w) s r c.0 p c.1 in
      let g = read_follows n ws c.0 f.0 s' f.2 c.2 in
      (g.0, rw f.1 g.1, g.2)

  alone : (u : Term) (r : List Term) → Stacks (u ∷ []) r → (v : Term) × (r ≡ v ∷ []) × R u v
  alone u r (on {y = v} h bare) = (v, refl, h)

  pub replaced_related : (n : ℕ) → n ≤ 31 → (w : List ℕ) (p : ℕ) (t u v : Term) → Over n v → R u v → subterm n w p ≡ some u → term_of n w ≡ some t
      → (t' : Term) × (term_of n (replace w p u v) ≡ some t') × R t t'
  unfolding term_of
  replaced_related n few w p t u v over h e i =
      let c = halves n w p u t e i in
      let s = c.0 in
      let f = read_follows n (drop (suc p) w) (u ∷ s) (v ∷ s) (t ∷ []) (on h (stacks_refl s)) c.2 in
      let a = alone t f.0 f.2 in
      let r : read n (replace w p u v) [] ≡ some (a.0 ∷ []) = read_replaced n w p u few s v over (subterm-inside n w p u e) c.1 ∙ (f.1 ∙ ap some a.1) in
      (a.0, ap (λ o. and_then o sole) r, a.2)

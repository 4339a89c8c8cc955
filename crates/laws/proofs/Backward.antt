-- Steps from right to left: when one is made, that it leaves the tree alike, and how a step of either direction is undone. (Request 108.)
use Prim.Native.Nat.{ℕ, pred, ◌+◌, ◌-◌, ◌≤◌}
use mathlib.Core.Path.{◌≡◌, refl, ap, sym, ◌∙◌, subst}
use mathlib.Core.Bool.{Bool, true, false, cond}
use mathlib.Core.List.{List}
use mathlib.Core.Option.{none, some, some-injective}
use mathlib.Core.Logic.{◌↔◌}
use lib.ListN.{length}
use borrow.Author.Tests.{le-ltb}
use Rattle.areas.specs.Area.{most_words}
use Rattle.tables.specs.Tables.{Tables, actions}
use Rattle.tables.specs.Lawful.{Lawful}
use Rattle.plans.specs.Judging.{words_refusal}
use Rattle.plans.specs.Term.{Term, words, Over, term_of}
use Rattle.plans.specs.Place.{subterm, put, replace}
use Rattle.plans.proofs.Options.{never, and_then_some}
use Rattle.plans.proofs.Reading.{term-said, words_injective}
use Rattle.plans.proofs.Place.{subterm-over, replaced_related}
use Rattle.plans.proofs.Accepted.{accepted-term}
use Rattle.plans.proofs.Put.{whole-subterm, whole-put, swapped}
use Rattle.trees.specs.Meaning.{tree}
use Rattle.trees.proofs.Alike.{Like, alike_refl, alike_sym, like_un, like_bin}
use Rattle.laws.specs.Laws.{law_at, rewrite, same_bytes, highest_law}
use Rattle.laws.specs.Step.{step, step_back}
use Rattle.laws.specs.Fits.{FitsBackAt}
use Rattle.laws.proofs.Tables.{Proper, lawful_proper}
use Rattle.laws.proofs.Sound.{same_list, same_itself, law_keeps}
use Rattle.laws.proofs.Stepping.{step-made, step_fits, Reads, reads-accepted}
use Rattle.laws.proofs.Fits.{rewrite_iff}

-- "or the place is past the end"
pub back-past : (t : Tables) (k p : ℕ) (left w : List ℕ) → length w ≤ p → step_back t k p left w ≡ none
unfolding step_back subterm
back-past t k p left w h = rw (le-ltb p (length w) h) refl

-- a step from the subplan u at a place of w: another subplan put there gives the plan next
pub record Puts (n : ℕ) (w : List ℕ) (p : ℕ) (u v : Term) (next : List ℕ) : Type 0 where
  pub there : subterm n w p ≡ some u
  pub over : Over n v
  pub given : put w p (length (words u)) (words v) ≡ next

module _ (t : Tables) (ok : Proper t) where
  abbrev n : ℕ
  n = actions t

  -- a law at the last word of a plan
  pub at_last : (k : ℕ) (x y : Term) → Over n x → rewrite t (law_at k) x ≡ some y → step t k (pred (length (words x))) (words x) ≡ some (words y)
  unfolding replace
  at_last k x y over e =
      step_fits t k (pred (length (words x))) (words x) x y (whole-subterm n ok.few x over) e ∙ ap some (whole-put n ok.few x over (words y))

  pub not_last : (k : ℕ) (x : Term) → Over n x → rewrite t (law_at k) x ≡ none → step t k (pred (length (words x))) (words x) ≡ none
  unfolding step
  not_last k x over e = rw (whole-subterm n ok.few x over, e)

  pub last_at : (k : ℕ) (x : Term) (v : List ℕ) → Over n x → step t k (pred (length (words x))) (words x) ≡ some v
      → (y : Term) × (rewrite t (law_at k) x ≡ some y) × (words y ≡ v)
  unfolding replace
  last_at k x v over e =
      let c = step-made t k (pred (length (words x))) (words x) v e in go c.0 c.1 c.2 c.3 c.4
    where
      go : (z y : Term) → subterm n (words x) (pred (length (words x))) ≡ some z → rewrite t (law_at k) z ≡ some y
          → put (words x) (pred (length (words x))) (length (words z)) (words y) ≡ v → (y : Term) × (rewrite t (law_at k) x ≡ some y) × (words y ≡ v)
      go z y i j e =
          let same : z ≡ x = some-injective _ _ (sym i ∙ whole-subterm n ok.few x over) in
          (y, rw same at j, sym (whole-put n ok.few x over (words y)) ∙ rw same at e)

  -- "It fits when that law, applied at the last of those words, gives exactly the subplan at the place. The whole left side then replaces it."
  pub back_fits : (k p : ℕ) (w : List ℕ) (u x : Term) → subterm n w p ≡ some u → Over n x → rewrite t (law_at k) x ≡ some u
      → step_back t k p (words x) w ≡ some (put w p (length (words u)) (words x))
  unfolding step_back
  back_fits k p w u x there over e = rw (there, at_last k x u over e, same_itself (words u)) refl

  pub back-made : (k p : ℕ) (left w next : List ℕ) (x : Term) → term_of n left ≡ some x → step_back t k p left w ≡ some next
      → (u : Term) × (rewrite t (law_at k) x ≡ some u) × Puts n w p u x next
  unfolding step_back
  back-made k p left w next x reads e =
      let s = term-said n left x reads in
      let c = and_then_some (subterm n w p) _ e in
      let d = and_then_some (step t k (pred (length left)) left) _ c.2 in
      let f = last_at k x d.0 s.1 (rw s.0 d.1) in
      pick c.0 d.0 f.0 c.1 f.1 f.2 s.0 s.1 (same_bytes d.0 (words c.0)) refl d.2
    where
      pick : (u : Term) (v : List ℕ) (y : Term) → subterm n w p ≡ some u → rewrite t (law_at k) x ≡ some y → words y ≡ v → words x ≡ left → Over n x
          → (b : Bool) → same_bytes v (words u) ≡ b → cond b (some (put w p (length (words u)) left)) none ≡ some next
          → (u : Term) × (rewrite t (law_at k) x ≡ some u) × Puts n w p u x next
      pick u v y there law is_v is_left over true q i =
          let same : y ≡ u = words_injective n ok.few y u (law_keeps t ok k x y law over).0 (subterm-over n w p u there) (is_v ∙ same_list v (words u) q) in
          (u, law ∙ ap some same, record { there = there; over = over; given = rw is_left (some-injective _ _ i) })
      pick u v y there law is_v is_left over false q i = never i

  put_keeps : (w : List ℕ) (p : ℕ) (u x y : Term) → Over n x → Like t u x → subterm n w p ≡ some u → term_of n w ≡ some y
      → Reads t y (put w p (length (words u)) (words x))
  unfolding replace
  put_keeps w p u x y over like there i =
      replaced_related (Like t) (λ u. alike_refl (tree t u)) (like_un t) (like_bin t) n ok.few w p y u x over like there i

  -- a step backwards leaves the tree alike
  pub back_keeps : (k p : ℕ) (left w next : List ℕ) (x y : Term) → term_of n left ≡ some x → term_of n w ≡ some y → step_back t k p left w ≡ some next
      → Reads t y next
  back_keeps k p left w next x y reads i e =
      let b = back-made k p left w next x reads e in
      let f = law_keeps t ok k x b.0 b.1 b.2.over in
      subst (Reads t y) b.2.given (put_keeps w p b.0 x y b.2.over (alike_sym f.1) b.2.there i)

  -- A step of either direction is undone at the place to which the end of its subplan has moved.
  abbrev moved : ℕ → List ℕ → List ℕ → ℕ
  moved p w next = (p + length next) - length w

  undone_forward : (k p : ℕ) (w next : List ℕ) (u v : Term) → rewrite t (law_at k) u ≡ some v → Puts n w p u v next
      → step_back t k (moved p w next) (words u) next ≡ some w
  undone_forward k p w next u v law made =
      subst (λ (z : List ℕ). step_back t k (moved p w z) (words u) z ≡ some w) made.given
      (let s = swapped n ok.few w p u v made.there made.over in
      back_fits k _ _ v u s.0 (subterm-over n w p u made.there) law ∙ ap some s.1)

  undone_backward : (k p : ℕ) (w next : List ℕ) (u x : Term) → rewrite t (law_at k) x ≡ some u → Puts n w p u x next → step t k (moved p w next) next ≡ some w
  unfolding replace
  undone_backward k p w next u x law made =
      subst (λ (z : List ℕ). step t k (moved p w z) z ≡ some w) made.given
      (let s = swapped n ok.few w p u x made.there made.over in step_fits t k _ _ x u s.0 law ∙ ap some s.1)

  -- a step from left to right, as it is made
  pub forward-made : (k p : ℕ) (w next : List ℕ) → step t k p w ≡ some next → (u : Term) × (v : Term) × (rewrite t (law_at k) u ≡ some v) × Puts n w p u v next
  unfolding replace
  forward-made k p w next e =
      let c = step-made t k p w next e in
      let f = law_keeps t ok k c.0 c.1 c.3 (subterm-over n w p c.0 c.2) in
      (c.0, c.1, c.3, record { there = c.2; over = f.0; given = c.4 })

  pub forward_undone : (k p : ℕ) (w next : List ℕ) (u : Term) → subterm n w p ≡ some u → step t k p w ≡ some next
      → step_back t k (moved p w next) (words u) next ≡ some w
  forward_undone k p w next u there e =
      let c = forward-made k p w next e in
      let same : c.0 ≡ u = some-injective _ _ (sym c.3.there ∙ there) in
      rw (← same) (undone_forward k p w next c.0 c.1 c.2 c.3)

  pub back_undone : (k p : ℕ) (left w next : List ℕ) (x : Term) → term_of n left ≡ some x → step_back t k p left w ≡ some next
      → step t k (moved p w next) next ≡ some w
  back_undone k p left w next x reads e =
      let b = back-made k p left w next x reads e in undone_backward k p w next b.0 x b.1 b.2

-- The plan that a step backwards gives is accepted, where it is not too long.
pub back-accepted : (t : Tables) → Lawful t → (k p : ℕ) (left w next : List ℕ) → words_refusal (actions t) left ≡ none → words_refusal (actions t) w ≡ none
    → step_back t k p left w ≡ some next → length next ≤ most_words → words_refusal (actions t) next ≡ none
back-accepted t lawful k p left w next pass a e l =
    let ok = lawful_proper t lawful in
    let x = accepted-term (actions t) ok.few left pass in
    let y = accepted-term (actions t) ok.few w a in
    let r = back_keeps t ok k p left w next x.0 y.0 x.1 y.1 e in
    reads-accepted t lawful next r.0 r.1 l

-- A step backwards by an accepted left side is made exactly when it fits, as people read it.
pub back_iff : (t : Tables) → Lawful t → (k : ℕ) → 1 ≤ k → k ≤ highest_law → (p : ℕ) (left w next : List ℕ) → words_refusal (actions t) left ≡ none
    → (step_back t k p left w ≡ some next) ↔ FitsBackAt t k p left w next
unfolding replace
back_iff t lawful k low high p left w next pass = (to, from)
  where
    ok : Proper t
    ok = lawful_proper t lawful

    read : (x : Term) × (term_of (actions t) left ≡ some x)
    read = accepted-term (actions t) ok.few left pass

    to : step_back t k p left w ≡ some next → FitsBackAt t k p left w next
    to e =
        let b = back-made t ok k p left w next read.0 read.1 e in
        record {
          first = low;
          last = high;
          carried = read.0;
          subplan = b.0;
          reads = read.1;
          there = b.2.there;
          fits = (rewrite_iff t k low high read.0 b.0).0 b.1;
          put_in = b.2.given;
        }

    from : FitsBackAt t k p left w next → step_back t k p left w ≡ some next
    from f =
        let s = term-said (actions t) left f.carried f.reads in
        let law = (rewrite_iff t k low high f.carried f.subplan).1 f.fits in
        subst (λ (l : List ℕ). step_back t k p l w ≡ some next) s.0
        (back_fits t ok k p w f.subplan f.carried f.there s.1 law ∙ ap some f.put_in)

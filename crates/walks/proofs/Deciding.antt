-- Trees alone decide: walks of plans with alike trees take the same messages and finish alike at every point.
use Rattle.std.specs.Prelude.{Result, Ok, Err, ⊤}
use Prim.Native.Nat.{ℕ}
use native.Mathlib.Omega.{arith}
use mathlib.Core.Path.{◌≡◌, refl, ap, ap₂, sym, ◌∙◌, subst}
use mathlib.Core.Bool.{Bool, true, false}
use mathlib.Core.List.{List, [], ◌∷◌, ◌++◌}
use Rattle.refusals.specs.declared.Refusal.{Refusal}
use Rattle.tables.specs.Tables.{Tables}
use Rattle.plans.specs.Accepted.{BasicPlan}
use Rattle.trees.specs.Tree.{Alike}
use Rattle.trees.specs.Meaning.{tree}
use Rattle.paths.specs.Paths.{Begins, Finishes}
use Rattle.paths.proofs.Paths.{begins-alike, finishes-alike}
use Rattle.walks.specs.Progress.{Progress, fresh}
use Rattle.walks.specs.Outcome.{walk_outcome}
use Rattle.walks.specs.Claims.{walked, if_taken, messages_taken, Reply, accepted?, replies}
use Rattle.walks.proofs.Walked.{walk_takes, walk-finish}

-- one message more behind
module _ (t : Tables) (plan : List ℕ) (m : ℕ) where
  walked_more : (ms : List ℕ) (p : Progress) → walked t plan p (ms ++ (m ∷ [])) ≡ (walk_outcome t plan m (walked t plan p ms)).progress
  unfolding walked
  walked_more [] p = refl
  walked_more (k ∷ ms) p = walked_more ms (walk_outcome t plan k p).progress

  taken_more : (ms : List ℕ) (p : Progress) → messages_taken t plan p (ms ++ (m ∷ [])) ≡ messages_taken t plan p ms ++ if_taken (walk_outcome t plan m (walked t plan p ms)).answer m []
  unfolding walked messages_taken
  taken_more [] p = refl
  taken_more (k ∷ ms) p = onto (walk_outcome t plan k p).answer _ (taken_more ms (walk_outcome t plan k p).progress)
    where
      onto : {l : List ℕ} (a : Result ⊤ Refusal) (r : List ℕ) → l ≡ messages_taken t plan (walk_outcome t plan k p).progress ms ++ r
          → if_taken a k l ≡ if_taken a k (messages_taken t plan (walk_outcome t plan k p).progress ms) ++ r
      onto (Ok tt) r e = ap (λ l. k ∷ l) e
      onto (Err f) r e = e

pub same_truth : (b c : Bool) → (b ≡ true → c ≡ true) → (c ≡ true → b ≡ true) → b ≡ c
same_truth true c f g = sym (f refl)
same_truth false true f g = g refl
same_truth false false f g = refl

-- both accepted, or both refused
data Both : Result ⊤ Refusal → Result ⊤ Refusal → Type 0 where
  both_accepted : Both (Ok tt) (Ok tt)
  both_refused : {f g : Refusal} → Both (Err f) (Err g)

both : (a b : Result ⊤ Refusal) → (a ≡ Ok tt → b ≡ Ok tt) → (b ≡ Ok tt → a ≡ Ok tt) → Both a b
both (Ok u) (Ok v) f g = both_accepted
both (Ok u) (Err r) f g = let e = f refl in let z : ◌≡◌ {A = ℕ} 0 1 = cc in absurd (omega arith)
both (Err r) (Ok u) f g = let e = g refl in let z : ◌≡◌ {A = ℕ} 0 1 = cc in absurd (omega arith)
both (Err r) (Err s) f g = both_refused

module _ (t t' : Tables) (v w : List ℕ) (b : BasicPlan t v) (c : BasicPlan t' w) (like : Alike (tree t b.plan.term) (tree t' c.plan.term)) where
  abbrev one : List ℕ → Progress
  one ms = walked t v (fresh v) ms

  abbrev other : List ℕ → Progress
  other ms = walked t' w (fresh w) ms

  abbrev Same : List ℕ → Type 0
  Same ms = messages_taken t v (fresh v) ms ≡ messages_taken t' w (fresh w) ms

  both_answer : (ms : List ℕ) → Same ms → (m : ℕ) → Both (walk_outcome t v m (one ms)).answer (walk_outcome t' w m (other ms)).answer
  both_answer ms s m = both _ _ to from
    where
      to : (walk_outcome t v m (one ms)).answer ≡ Ok tt → (walk_outcome t' w m (other ms)).answer ≡ Ok tt
      to h = (walk_takes t' w c ms m).1 (subst (λ l. Begins (tree t' c.plan.term) (l ++ (m ∷ []))) s ((begins-alike like (messages_taken t v (fresh v) ms ++ (m ∷ []))).0 ((walk_takes t v b ms m).0 h)))

      from : (walk_outcome t' w m (other ms)).answer ≡ Ok tt → (walk_outcome t v m (one ms)).answer ≡ Ok tt
      from h = (walk_takes t v b ms m).1 (subst (λ l. Begins (tree t b.plan.term) (l ++ (m ∷ []))) (sym s) ((begins-alike like (messages_taken t' w (fresh w) ms ++ (m ∷ []))).1 ((walk_takes t' w c ms m).0 h)))

  same_finish : (ms : List ℕ) → Same ms → (one ms).finish ≡ (other ms).finish
  same_finish ms s = same_truth _ _
      (λ h. (walk-finish t' w c ms).1 (subst (Finishes (tree t' c.plan.term)) s ((finishes-alike like _).0 ((walk-finish t v b ms).0 h))))
      (λ h. (walk-finish t v b ms).1 (subst (Finishes (tree t b.plan.term)) (sym s) ((finishes-alike like _).1 ((walk-finish t' w c ms).0 h))))

  same_more : (ms : List ℕ) → Same ms → (m : ℕ) → Same (ms ++ (m ∷ []))
  same_more ms s m = taken_more t v m ms (fresh v) ∙ (ap₂ ◌++◌ s (onto (both_answer ms s m)) ∙ sym (taken_more t' w m ms (fresh w)))
    where
      onto : {a b : Result ⊤ Refusal} → Both a b → if_taken a m [] ≡ if_taken b m []
      onto both_accepted = refl
      onto both_refused = refl

  replies-after : (ms ks : List ℕ) → Same ms → replies t v (one ms) ks ≡ replies t' w (other ms) ks
  unfolding replies
  replies-after ms [] s = refl
  replies-after ms (k ∷ ks) s =
      rw (← walked_more t v k ms (fresh v), ← walked_more t' w k ms (fresh w))
      (ap₂ {C = List Reply} (λ a l. a ∷ l) (λ i. record { taken = onto (both_answer ms s k) i; finish = same_finish (ms ++ (k ∷ [])) (same_more ms s k) i })
      (replies-after (ms ++ (k ∷ [])) ks (same_more ms s k)))
    where
      onto : {a b : Result ⊤ Refusal} → Both a b → accepted? a ≡ accepted? b
      onto both_accepted = refl
      onto both_refused = refl

  pub same_replies : (ms : List ℕ) → replies t v (fresh v) ms ≡ replies t' w (fresh w) ms
  unfolding walked messages_taken
  same_replies ms = replies-after [] ms refl

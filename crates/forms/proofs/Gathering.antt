-- The form of a basic plan is gathered from its words in one run, each sum sorted once.
use Prim.Native.Nat.{ℕ, ◌≤◌}
use native.Mathlib.Omega.{arith}
use mathlib.Core.Path.{◌≡◌, refl, sym, ap, ◌∙◌}
use mathlib.Core.List.{List, [], ◌∷◌, ◌++◌, map, append_assoc, append-nil}
use borrow.Author.Tests.{ne_eqb}
use Rattle.plans.specs.declared.Binary.TheVariants.{Choice, Sequence}
use Rattle.plans.specs.Term.{Term, act, bin, words, Over}
use Rattle.plans.specs.Basic.{Basic, dead_stop, sum_plan, SumPlan, action, prefix, sum}
use Rattle.forms.specs.Form.{summands, form}
use Rattle.forms.specs.Gathering.{join, sorted, gather, form_by_sorting}
use Rattle.forms.proofs.Same.{form-join}
use Rattle.forms.proofs.Sorting.{map-append, sorted-in_order}

product-words : (a : ℕ) (u : Term) (ws : List ℕ) → words (bin Sequence (act a) u) ++ ws ≡ a ∷ (words u ++ (65 ∷ ws))
unfolding words
product-words a u ws = simp append_assoc

sum-words : (u v : Term) (ws : List ℕ) → words (bin Choice u v) ++ ws ≡ words u ++ (words v ++ (64 ∷ ws))
unfolding words
sum-words u v ws = simp append_assoc

-- the part of a plan: its summands as they come
abbrev part : Term → List (List ℕ)
part u = map words (summands u)

spell-form : (u : Term) → join (sorted (part u)) ≡ words (form u)
spell-form u = ap join (sorted-in_order (summands u)) ∙ sym (form-join u)

gather-action : (a : ℕ) (ws : List ℕ) (parts : List (List (List ℕ))) → a ≤ 31 → gather (a ∷ ws) parts ≡ gather ws (((a ∷ []) ∷ []) ∷ parts)
unfolding gather
gather-action a ws parts h = rw (ne_eqb a 64 (λ e. omega arith), ne_eqb a 65 (λ e. omega arith)) refl

gather-alone : (a : ℕ) (ws : List ℕ) (parts : List (List (List ℕ))) → a ≤ 31 → gather (words (act a) ++ ws) parts ≡ gather ws (part (act a) ∷ parts)
unfolding words summands
gather-alone a ws parts h = gather-action a ws parts h

gather-product : (a : ℕ) (u : Term) (ws : List ℕ) (parts : List (List (List ℕ)))
    → gather (65 ∷ ws) (part u ∷ (((a ∷ []) ∷ []) ∷ parts)) ≡ gather ws (part (bin Sequence (act a) u) ∷ parts)
unfolding gather words summands form
gather-product a u ws parts = rw (spell-form u) refl

gather-sum : (u v : Term) (ws : List ℕ) (parts : List (List (List ℕ))) → gather (64 ∷ ws) (part v ∷ (part u ∷ parts)) ≡ gather ws (part (bin Choice u v) ∷ parts)
unfolding gather summands
gather-sum u v ws parts = rw (map-append (summands u) (summands v)) refl

-- the words of a subplan leave its part
mutual
  gather-plan : {u : Term} → SumPlan u → Over 31 u → (ws : List ℕ) (parts : List (List (List ℕ))) → gather (words u ++ ws) parts ≡ gather ws (part u ∷ parts)
  gather-plan (action {a = a} p) o ws parts = gather-alone a ws parts o
  gather-plan (prefix {a = a} {u = u} p b) o ws parts =
      ap (λ l. gather l parts) (product-words a u ws)
      ∙ (gather-action a (words u ++ (65 ∷ ws)) parts o.0 ∙ (gather-basic b o.1 (65 ∷ ws) (((a ∷ []) ∷ []) ∷ parts) ∙ gather-product a u ws parts))
  gather-plan (sum {u = u} {v = v} p q) o ws parts =
      ap (λ l. gather l parts) (sum-words u v ws)
      ∙ (gather-plan p o.0 (words v ++ (64 ∷ ws)) parts ∙ (gather-plan q o.1 (64 ∷ ws) (part u ∷ parts) ∙ gather-sum u v ws parts))

  gather-basic : {u : Term} → Basic u → Over 31 u → (ws : List ℕ) (parts : List (List (List ℕ))) → gather (words u ++ ws) parts ≡ gather ws (part u ∷ parts)
  gather-basic dead_stop o ws parts = gather-alone 0 ws parts o
  gather-basic (sum_plan p) o ws parts = gather-plan p o ws parts

pub form-sorted : (u : Term) → Basic u → Over 31 u → form_by_sorting (words u) ≡ words (form u)
unfolding form_by_sorting
form-sorted u b o = rw (← append-nil (words u), gather-basic b o [] []) (spell-form u)

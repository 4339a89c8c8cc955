-- What a left side fits, computed from it: whatever holds for all values of its letters holds of each plan that it fits.
use Prim.Native.Nat.{ℕ}
use mathlib.Core.Path.{◌≡◌, refl, sym, subst}
use mathlib.Core.Bool.{Bool, true, false, cond}
use mathlib.Core.Option.{none, some, some-injective}
use lib.Dec.{eqb}
use native.Mathlib.Omega.{arith}
use borrow.Author.Tests.{eqb-true}
use Rattle.tables.specs.Tables.{Tables}
use Rattle.plans.specs.declared.Binary.{Binary}
use Rattle.plans.specs.declared.Unary.TheVariants.{Priority, Encapsulation}
use Rattle.plans.specs.Word.{binary_word}
use Rattle.plans.specs.Term.{Term, act, un, bin, and_then}
use Rattle.plans.proofs.Options.{never, and_then_some}
use Rattle.plans.proofs.Words.{word_binary}
use Rattle.laws.specs.Laws.{Pattern, any, any_action, δ, entry, node, θ, ∂, Law, Binding, unbound, bind, fit, holds, build, rewrite}

-- Q holds of every term that the pattern fits, with the binding that fitting gives; right operands are bound first
abbrev pub Need : Pattern → Binding → (Term → Binding → Type 0) → Type 0
Need (any k) s Q = (u : Term) → Q u (bind s k u)
Need (any_action k) s Q = (c : ℕ) → Q (act c) (bind s k (act c))
Need δ s Q = Q (act 0) s
Need entry s Q = Unit
Need (node o p q) s Q = Need q s (λ m r. Need p r (λ l w. Q (bin o l m) w))
Need (θ p) s Q = Need p s (λ l r. Q (un Priority l) r)
Need (∂ p) s Q = (h : ℕ) → Need p (bind s 5 (act h)) (λ l r. Q (un (Encapsulation h) l) r)

same_binary : (o p : Binary) → eqb (binary_word o) (binary_word p) ≡ true → o ≡ p
same_binary o p e = cc (word_binary 0 (omega arith) o, word_binary 0 (omega arith) p, eqb-true (binary_word o) (binary_word p) e)

-- that it suffices
abbrev pub Meets : Pattern → Type 1
Meets p = (u : Term) (s r : Binding) (Q : Term → Binding → Type 0) → Need p s Q → fit p u s ≡ some r → Q u r

pub meets : (p : Pattern) → Meets p
unfolding fit
meets (any k) u s r Q n e = subst (Q u) (some-injective _ _ e) (n u)
meets (any_action k) (act c) s r Q n e = subst (Q (act c)) (some-injective _ _ e) (n c)
meets (any_action k) (un o l) s r Q n e = never e
meets (any_action k) (bin o l m) s r Q n e = never e
meets δ (act c) s r Q n e = pick (eqb c 0) refl e
  where
    pick : (d : Bool) → eqb c 0 ≡ d → cond d (some s) none ≡ some r → Q (act c) r
    pick true h i = subst (λ c. Q (act c) r) (sym (eqb-true c 0 h)) (subst (Q (act 0)) (some-injective _ _ i) n)
    pick false h i = never i
meets δ (un o l) s r Q n e = never e
meets δ (bin o l m) s r Q n e = never e
meets entry u s r Q n e = never e
meets (node o p q) (act c) s r Q n e = never e
meets (node o p q) (un o' l) s r Q n e = never e
meets (node o p q) (bin o' l m) s r Q n e = pick (eqb (binary_word o') (binary_word o)) refl e (meets p) (meets q)
  where
    pick : (d : Bool) → eqb (binary_word o') (binary_word o) ≡ d → cond d (and_then (fit q m s) (λ w. fit p l w)) none ≡ some r → Meets p → Meets q → Q (bin o' l m) r
    pick true h i f g =
        let c = and_then_some (fit q m s) _ i in
        subst (λ b. Q (bin b l m) r) (sym (same_binary o' o h))
        (f l c.0 r (λ l v. Q (bin o l m) v) (g m s c.0 (λ m w. Need p w (λ l v. Q (bin o l m) v)) n c.1) c.2)
    pick false h i f g = never i
meets (θ p) (act c) s r Q n e = never e
meets (θ p) (un Priority l) s r Q n e = meets p l s r (λ l v. Q (un Priority l) v) n e
meets (θ p) (un (Encapsulation h) l) s r Q n e = never e
meets (θ p) (bin o l m) s r Q n e = never e
meets (∂ p) (act c) s r Q n e = never e
meets (∂ p) (un Priority l) s r Q n e = never e
meets (∂ p) (un (Encapsulation h) l) s r Q n e = meets p l (bind s 5 (act h)) r (λ l v. Q (un (Encapsulation h) l) v) (n h) e
meets (∂ p) (bin o l m) s r Q n e = never e

-- so of what a law rewrites, with what it rewrites it to
pub rewritten : (t : Tables) (l : Law) (Q : Term → Term → Type 0)
    → Need l.lhs unbound (λ u s. holds t l.when s ≡ true → Q u (build t s l.rhs))
    → (u v : Term) → rewrite t l u ≡ some v → Q u v
unfolding rewrite
rewritten t l Q n u v e =
    let c = and_then_some (fit l.lhs u unbound) _ e in
    pick c.0 (holds t l.when c.0) (meets l.lhs u unbound c.0 _ n c.1) c.2
  where
    pick : (s : Binding) (h : Bool) → (h ≡ true → Q u (build t s l.rhs)) → cond h (some (build t s l.rhs)) none ≡ some v → Q u v
    pick s true f i = subst (Q u) (some-injective _ _ i) (f refl)
    pick s false f i = never i

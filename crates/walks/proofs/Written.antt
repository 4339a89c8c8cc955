-- "a mark is written as 1": after a message each mark byte is 0 or 1.
use Prim.Native.Nat.{ℕ, zero, suc, ◌-◌, ◌≤◌}
use native.Mathlib.Omega.{arith}
use mathlib.Core.Path.{◌≡◌, refl, subst}
use mathlib.Core.Bool.{Bool, true, false, cond, ◌||◌}
use mathlib.Core.List.{List}
use mathlib.Core.Option.{none, some, some-injective}
use lib.Dec.{eqb, ltb}
use lib.ListN.{length, get_or, set, replicate, length-replicate, get_or-replicate, get_or-eq_default}
use lib.Seq.{get_or-set_same, get_or-set_other, set_out}
use borrow.Author.Tests.{eqb-true, eqb-false, ltb-true, ltb-false}
use Rattle.tables.specs.Tables.{outside?}
use Rattle.plans.proofs.Options.{never}
use Rattle.paths.specs.Operands.{first_operand}
use Rattle.walks.specs.Progress.{Progress}
use Rattle.walks.specs.Pass.{Pass, marked?, turn, pass, passed, some_mark, progress_after, take_message}

abbrev pub Written : List ℕ → Type 0
Written marks = (k : ℕ) → get_or marks k 0 ≤ 1

pub set-written : (l : List ℕ) (i : ℕ) → Written l → Written (set l i 1)
set-written l i w k = go (eqb k i) refl (ltb i (length l)) refl
  where
    go : (b : Bool) → eqb k i ≡ b → (c : Bool) → ltb i (length l) ≡ c → get_or (set l i 1) k 0 ≤ 1
    go true e true d = rw (eqb-true k i e, get_or-set_same l i 1 0 (ltb-true i (length l) d)) (omega arith)
    go true e false d = rw (set_out l i 1 (ltb-false i (length l) d)) (w k)
    go false e c d = rw (get_or-set_other l i k 1 0 (eqb-false k i e)) (w k)

pub zeros-written : (n : ℕ) → Written (replicate n 0)
zeros-written n k = go (ltb k n) refl
  where
    go : (b : Bool) → ltb k n ≡ b → get_or (replicate n 0) k 0 ≤ 1
    go true e = rw (get_or-replicate {A = ℕ} n k 0 0 (ltb-true k n e)) (omega arith)
    go false e = let l = ltb-false k n e in rw (get_or-eq_default {A = ℕ} (replicate n 0) 0 {n = k} (omega (arith, length-replicate {A = ℕ} n 0))) (omega arith)

module _ (n : ℕ) (plan : List ℕ) (m : ℕ) where
  turn-written : (i : ℕ) (p : Pass) → Written p.next → Written (turn n plan m i p).next
  unfolding turn
  turn-written i p w = go (marked? (get_or p.left i 0)) (eqb (get_or plan i 0) 64) (eqb (get_or plan i 0) 65) (eqb (get_or plan (first_operand n plan i) 0) m) (eqb (get_or plan i 0) m)
    where
      summed : Pass
      summed = record { left = set (set p.left (i - 1) 1) (first_operand n plan i) 1; next = p.next; ending = p.ending }

      forward : Pass
      forward = record { left = p.left; next = set p.next (i - 1) 1; ending = p.ending }

      ended : Pass
      ended = record { left = p.left; next = p.next; ending = true }

      go : (a b c d e : Bool) → Written (cond a (cond b summed (cond c (cond d forward p) (cond e ended p))) p).next
      go false b c d e = w
      go true true c d e = w
      go true false true true e = set-written p.next (i - 1) w
      go true false true false e = w
      go true false false d true = w
      go true false false d false = w

  pass-written : (i : ℕ) (p : Pass) → Written p.next → Written (pass n plan m i p).next
  unfolding pass
  pass-written zero p w = w
  pass-written (suc i) p w = pass-written i (turn n plan m i p) (turn-written i p w)

  pub taken-written : (p q : Progress) → take_message n plan m p ≡ some q → Written q.marks
  unfolding take_message passed progress_after
  taken-written p q e = go (outside? n m) (end.ending || some_mark end.next) e
    where
      end : Pass
      end = pass n plan m (length plan) (record { left = p.marks; next = replicate (length plan) 0; ending = false })

      go : (a b : Bool) → cond a none (cond b (some (record { marks = end.next; finish = end.ending })) none) ≡ some q → Written q.marks
      go true b e = never e
      go false true e = subst (λ r. Written r.marks) (some-injective _ _ e) (pass-written (length plan) (record { left = p.marks; next = replicate (length plan) 0; ending = false }) (zeros-written (length plan)))
      go false false e = never e

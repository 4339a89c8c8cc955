-- Nobody need believe this: `Taken` of the claims fixes what a message leaves. How one pass over a plan's words finds it.
use Prim.Native.Nat.{ℕ, zero, suc}
use Rattle.std.specs.Prelude.{Bool, true, ◌||◌, List, [], ◌∷◌, length, get_or, set, eqb, ltb}
use Rattle.std.proofs.Math.Bool.{false, cond}
use Rattle.std.proofs.Math.Option.{Option, none, some}
use Rattle.std.proofs.Math.ListN.{replicate}
use Rattle.tables.specs.Tables.{outside?}
use Rattle.paths.specs.Operands.{first_operand, second_operand}
use Rattle.walks.specs.Progress.{Progress}

-- A pass over the words, from the last to the first: the marks that are left to look at, the marks of what the message leads to, and
-- whether it finishes.
pub record Pass : Type 0 where
  pub left : List ℕ
  pub next : List ℕ
  pub ending : Bool

-- a byte that is a mark
abbrev pub marked? : ℕ → Bool
marked? b = ltb 0 b

module _ (n : ℕ) (plan : List ℕ) (m : ℕ) where
  -- at a marked word: a sum (64) hands its mark to both operands; a product (65) whose first factor is the message marks its second factor; an
  -- action that is the message finishes
  unfoldable pub look : ℕ → Pass → Pass
  look i p =
      cond (eqb (get_or plan i 0) 64)
      (record { left = set (set p.left (second_operand i) 1) (first_operand n plan i) 1; next = p.next; ending = p.ending })
      (cond (eqb (get_or plan i 0) 65)
      (cond (eqb (get_or plan (first_operand n plan i) 0) m) (record { left = p.left; next = set p.next (second_operand i) 1; ending = p.ending }) p)
      (cond (eqb (get_or plan i 0) m) (record { left = p.left; next = p.next; ending = true }) p))

  unfoldable pub turn : ℕ → Pass → Pass
  unfolding look
  turn i p = cond (marked? (get_or p.left i 0)) (look i p) p

  -- the first i words, the last of them first
  unfoldable pub pass : ℕ → Pass → Pass
  unfolding turn
  pass zero p = p
  pass (suc i) p = pass i (turn i p)

  -- the whole plan
  unfoldable pub passed : List ℕ → Pass
  unfolding pass
  passed marks = pass (length plan) (record { left = marks; next = replicate (length plan) 0; ending = false })

-- some word is marked
unfoldable pub some_mark : List ℕ → Bool
some_mark [] = false
some_mark (b ∷ bs) = marked? b || some_mark bs

-- what stands after a pass; none where the message led nowhere
unfoldable pub progress_after : Pass → Option Progress
unfolding some_mark
progress_after p = cond (p.ending || some_mark p.next) (some (record { marks = p.next; finish = p.ending })) none

-- one message: the progress after it, or none where it is not taken
unfoldable pub take_message : ℕ → List ℕ → ℕ → Progress → Option Progress
unfolding passed progress_after
take_message n plan m p = cond (outside? n m) none (progress_after (passed n plan m p.marks))

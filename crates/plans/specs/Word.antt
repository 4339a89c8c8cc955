-- The words of plans. (01, "Plans".)
use Rattle.std.specs.Prelude.{ℕ, ◌+◌, ◌-◌, Bool, cond, ◌&&◌, eqb, leb}
use Rattle.plans.specs.declared.Binary.{Binary}
use Rattle.plans.specs.declared.Binary.TheVariants.{Choice, Sequence, Merge, LeftMerge, CommunicationMerge, Unless}
use Rattle.plans.specs.declared.Unary.{Unary}
use Rattle.plans.specs.declared.Unary.TheVariants.{Priority, Encapsulation}
use Rattle.plans.specs.declared.Word.{Word}
use Rattle.plans.specs.declared.Word.TheVariants.{Action, One, Two, NoWord}

-- "64 +, 65 ·, 66 merge ‖, 67 left merge ⌊, 68 communication merge |, 69 unless ◁, each of two operands"
unfoldable pub binary_word : Binary → ℕ
binary_word Choice = 64
binary_word Sequence = 65
binary_word Merge = 66
binary_word LeftMerge = 67
binary_word CommunicationMerge = 68
binary_word Unless = 69

-- "70 priority θ, 80 to 87 encapsulation ∂ by set 0 to 7, each of one"
unfoldable pub unary_word : Unary → ℕ
unary_word Priority = 70
unary_word (Encapsulation h) = 80 + h

-- "A word is read by its value": the operator that a byte stands for
unfoldable pub sign_of : ℕ → Word
sign_of w =
    cond (eqb w 64) (Two Choice)
    (cond (eqb w 65) (Two Sequence)
    (cond (eqb w 66) (Two Merge)
    (cond (eqb w 67) (Two LeftMerge)
    (cond (eqb w 68) (Two CommunicationMerge)
    (cond (eqb w 69) (Two Unless)
    (cond (eqb w 70) (One Priority) (cond (leb 80 w && leb w 87) (One (Encapsulation (w - 80))) NoWord)))))))

-- "0 to n an action"; "Any other value is no word." (n is at most 31.)
unfoldable pub word_of : ℕ → ℕ → Word
unfolding sign_of
word_of n w = cond (leb w n) (Action w) (sign_of w)

-- "how many operands each byte takes: 0 for 0 to 31, 2 or 1 for the signs, 3 for any other byte";
-- "Work the count out by a formula over the ranges of words." (Request 104.)
unfoldable pub operands_of : ℕ → ℕ
operands_of w = cond (leb w 31) 0 (cond (leb 64 w && leb w 69) 2 (cond (eqb w 70) 1 (cond (leb 80 w && leb w 87) 1 3)))

-- whether a byte is a sign of two operands
unfoldable pub takes_two? : ℕ → Bool
takes_two? w = eqb (operands_of w) 2

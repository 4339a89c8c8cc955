-- How plans are judged: the tables (1 to 8), then refusals 11 to 14. (01, "Turned back by what was handed in".)
use Rattle.std.specs.Prelude.{ℕ, suc, ◌-◌, Bool, true, false, cond, ◌||◌, List, [], ◌∷◌, length, eqb, ltb, Result, Ok, Err}
use Rattle.std.proofs.Math.Option.{Option, none}
use Rattle.refusals.specs.declared.Place.TheVariants.{Nowhere, Byte}
use Rattle.refusals.specs.declared.Reason.{Reason}
use Rattle.refusals.specs.declared.Reason.TheVariants.{UnknownWord, TooFewOperands}
use Rattle.refusals.specs.declared.Refusal.{Refusal}
use Rattle.refusals.specs.Refusal.{number_of, refuse, or_else}
use Rattle.tables.specs.Tables.{Tables, actions}
use Rattle.tables.specs.Judging.{table_refusal}
use Rattle.plans.specs.declared.Word.{Word}
use Rattle.plans.specs.declared.Word.TheVariants.{Action, One, Two, NoWord}
use Rattle.plans.specs.Word.{word_of, operands_of}
use Rattle.areas.specs.Area.{most_words}

abbrev pub no_word? : Word → Bool
no_word? (Action a) = false
no_word? (One o) = false
no_word? (Two o) = false
no_word? NoWord = true

-- "12 no word, 13 too few operands: the first such byte, 12 before 13": byte w read where d subplans wait, and how many wait then
unfoldable pub turn_of : ℕ → ℕ → ℕ → Result ℕ Reason
unfolding word_of operands_of
turn_of n w d = cond (no_word? (word_of n w)) (Err UnknownWord) (cond (ltb d (operands_of w)) (Err TooFewOperands) (Ok (suc (d - operands_of w))))

abbrev pub on_turn : {A : Type 0} → Result ℕ Reason → (ℕ → A) → (Reason → A) → A
on_turn (Ok d) go stop = go d
on_turn (Err r) go stop = stop r

-- the words from place p on, where d subplans wait; "14 more than one plan left over"
unfoldable pub refusal_from : ℕ → ℕ → ℕ → List ℕ → Option Refusal
unfolding turn_of
refusal_from n p d [] = cond (eqb d 1) none (refuse 14 Nowhere)
refusal_from n p d (w ∷ ws) = on_turn (turn_of n w d) (λ e. refusal_from n (suc p) e ws) (λ r. refuse (number_of r) (Byte p))

-- "11 plan empty or above 16,384"
unfoldable pub words_refusal : ℕ → List ℕ → Option Refusal
unfolding refusal_from
words_refusal n ws = cond (eqb (length ws) 0 || ltb most_words (length ws)) (refuse 11 Nowhere) (refusal_from n 0 0 ws)

-- "Every call handed tables or a plan … judges the tables (1 to 8), then the plan (11 to 14), before its other refusals."
unfoldable pub plan_refusal : Tables → List ℕ → Option Refusal
plan_refusal t ws = or_else (table_refusal t) (words_refusal (actions t) ws)

-- `plans::judge_words` meets its contract. The invariant: the words left, where so many subplans wait, are refused as the plan is.
use Prim.Native.Nat.{◌≤◌}
use mathlib.Core.Path.{◌≡◌}
use lib.ListN.{length, drop}
use Rattle.plans.specs.Judging.{refusal_from, words_refusal}
use Rattle.areas.specs.Area.{most_words}
use Rattle.plans.proofs.judge_words.Given as goal

abbrev pub invariant-loop-i : goal.invariant-loop-i
invariant-loop-i l = (length l.plan ≤ most_words) × (l.depth ≤ l.i-counter) × (refusal_from l.n l.i-counter l.depth (drop l.i-counter l.plan) ≡ words_refusal l.n l.plan)

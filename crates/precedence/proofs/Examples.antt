-- Small plans, by computation.
use mathlib.Core.Path.{◌≡◌, refl}
use mathlib.Core.List.{[], ◌∷◌}
use mathlib.Core.Option.{none, some}
use Rattle.plans.specs.Term.{words, term_of}
use Rattle.paths.specs.Appearances.{actions_before}
use Rattle.precedence.specs.Overtaking.{among?, least, overtakes?, overtaking}

-- 2 + 1·2: on the path of the first summand alone 2 has no 1 before it
least-place : overtaking 3 (2 ∷ 1 ∷ 2 ∷ 65 ∷ 64 ∷ []) 1 2 ≡ some 0
unfolding overtaking least overtakes? among? actions_before term_of words
least-place = refl

-- 1·2 + 2: the first 2 has 1 before it, and the second has not
other_summand : overtaking 3 (1 ∷ 2 ∷ 65 ∷ 2 ∷ 64 ∷ []) 1 2 ≡ some 3
unfolding overtaking least overtakes? among? actions_before term_of words
other_summand = refl

-- 1·(3·2): somewhere before is enough
somewhere : overtaking 3 (1 ∷ 3 ∷ 2 ∷ 65 ∷ 65 ∷ []) 1 2 ≡ none
unfolding overtaking least overtakes? among? actions_before term_of words
somewhere = refl

-- 2·1: behind is not before
behind : overtaking 3 (2 ∷ 1 ∷ 65 ∷ []) 1 2 ≡ some 0
unfolding overtaking least overtakes? among? actions_before term_of words
behind = refl

-- 1·δ + 3·(2·δ): a path into a dead stop counts
into_dead_stop : overtaking 3 (1 ∷ 0 ∷ 65 ∷ 3 ∷ 2 ∷ 0 ∷ 65 ∷ 65 ∷ 64 ∷ []) 1 2 ≡ some 4
unfolding overtaking least overtakes? among? actions_before term_of words
into_dead_stop = refl

-- a plan without the second action
absent : overtaking 3 (3 ∷ 1 ∷ 65 ∷ []) 1 2 ≡ none
unfolding overtaking least overtakes? among? actions_before term_of words
absent = refl

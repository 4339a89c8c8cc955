-- Trees that are not alike, by computation: two more of the wrong ways that document 01 names.
use Prim.Native.Nat.{ℕ}
use mathlib.Core.Path.{◌≡◌, refl}
use mathlib.Core.Bool.{true, not, ◌&&◌}
use Rattle.trees.specs.Tree.{Tree, stop, finish}
use Rattle.trees.specs.Operators.{one, ◌⊕◌, ◌⊙◌}
use Rattle.trees.proofs.Decision.{alike?}

abbrev act : ℕ → Tree
act a = one a finish

-- a first action is not shared out over a choice (case 12)
not_shared_out : not (alike? (act 1 ⊙ (act 2 ⊕ act 3)) ((act 1 ⊙ act 2) ⊕ (act 1 ⊙ act 3))) ≡ true
unfolding alike? ◌⊕◌ ◌⊙◌
not_shared_out = refl

-- a·δ is neither δ nor a
dead_stop-after : not (alike? (act 1 ⊙ stop) stop) && not (alike? (act 1 ⊙ stop) (act 1)) ≡ true
unfolding alike? ◌⊙◌
dead_stop-after = refl

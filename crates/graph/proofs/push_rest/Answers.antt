-- Entries are put on a stack: copied behind its last one, they are on it one after another.
use Prim.Native.Nat.{ℕ, ◌+◌, ◌-◌, ◌≤◌}
use native.Mathlib.Omega.{arith}
use mathlib.Core.Path.{◌≡◌, refl, ◌∙◌}
use mathlib.Core.List.{List, [], ◌∷◌}
use lib.ListN.{length, set, take, drop, length-set, length-drop}
use lib.Seq.{take_all}
use Rattle.areas.specs.Area.{overwrite}
use Rattle.areas.proofs.Area.{overwrite-one, overwrite_none, overwrite-two}
use Rattle.plans.specs.Stack.{stacked}
use Rattle.plans.proofs.Stack.{stacked-push}
use Rattle.graph.specs.Graph.{onto}
use Rattle.graph.proofs.Parts.{put_mid-overwrite}
use Rattle.graph.proofs.push_rest.Goals as goal

-- entries written behind a stack are put on it
stacked-overwrite : (vs a : List ℕ) (h : ℕ) → h + length vs ≤ length a → stacked (overwrite a h vs) (h + length vs) ≡ onto vs (stacked a h)
unfolding onto
stacked-overwrite [] a h l =
    let e : h + 0 ≡ h = omega arith in
    rw (e, overwrite_none a h)
stacked-overwrite (v ∷ vs) a h l =
    let e : h + length (v ∷ vs) ≡ h + 1 + length vs = omega arith in
    let o : overwrite (set a h v) (h + 1) vs ≡ overwrite a h (v ∷ vs) = rw (overwrite-one a h v (omega arith)) (overwrite-two a h (v ∷ []) vs (omega arith)) in
    rw (e, ← o, ← stacked-push a h v (omega arith)) (stacked-overwrite vs (set a h v) (h + 1) (omega (arith, length-set {A = ℕ})))

pub returns : goal.returns
returns c =
    let a = c.args in
    let left = drop a.rest a.todo.now in
    let long : length left ≡ length a.todo.now - a.rest = length-drop a.rest a.todo.now in
    let all : take (length a.todo.now - a.rest) left ≡ left = take_all (length a.todo.now - a.rest) left (omega arith) in
    let new : c.copy_from_slice.new.self ≡ left = c.copy_from_slice.ensures.after ∙ all in
    let here : a.height + length left - a.height ≡ length left = omega arith in
    rw (all, new, here) (omega arith, rw (put_mid-overwrite a.height (length left) a.stack.now left refl) (stacked-overwrite left a.stack.now a.height (omega arith)))

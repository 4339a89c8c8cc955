-- The law that fits is told by what one operand is: · ⌊ θ ∂; for + by whether an operand is dead stop, and ‖ has one law.
use Rattle.std.specs.Prelude.{Some}
use Prim.Native.Nat.{ℕ, ◌+◌, ◌-◌, ◌≤◌}
use mathlib.Core.Path.{◌≡◌, refl}
use mathlib.Core.Bool.{Bool, true, false, cond}
use mathlib.Core.Option.{none, some}
use native.Mathlib.Omega.{arith}
use lib.Dec.{eqb}
use borrow.Author.Tests.{ne_eqb, lt-ltb, le-ltb}
use Rattle.tables.specs.Tables.{Tables, blocked}
use Rattle.plans.specs.declared.Binary.TheVariants.{Choice, Sequence, Merge, LeftMerge}
use Rattle.plans.specs.declared.Unary.TheVariants.{Priority, Encapsulation}
use Rattle.plans.specs.Word.{binary_word}
use Rattle.plans.specs.Term.{Term, act, un, bin}
use Rattle.graph.specs.Graph.{Graph, Holds, leaf, one, two}
use Rattle.laws.specs.Laws.{δ, Binding, bind, fit, holds, build, rewrite, laws, law_at, highest_law, first_choice, choices}
use Rattle.rewritings.specs.Roots.{first_law}
use Rattle.redexes.specs.Redexes.{on_plans, on_actions, on_set, choice_redex, sequence_redex, left_merge_redex, priority_redex, encapsulation_redex}
use Rattle.redexes.specs.declared.root.Operand.{Operand}
use Rattle.redexes.specs.declared.root.Operand.TheVariants.{Action}
use Rattle.redexes.proofs.Operands.{Seen, seen-action, seen-sum, seen-product, seen_one, seen-two}
use Rattle.redexes.proofs.Letters.{Told, told, told_none, letters}

-- a letter that a law does not have stands for dead stop
pub stop-held : {n : ℕ} {g : Graph} → Holds n g 0 (act 0)
stop-held = leaf {a = 0} (omega arith)

-- δ fits dead stop alone, the entry 0
fit-stop : {n : ℕ} {g : Graph} {v : ℕ} {u : Term} → Holds n g v u → (s : Binding) → fit δ u s ≡ cond (eqb v 0) (some s) none
unfolding fit
fit-stop (leaf h) s = refl
fit-stop (one {v} i j e k h) s = rw (ne_eqb v 0 (λ q. omega arith))
fit-stop (two {v} i j e h l) s = rw (ne_eqb v 0 (λ q. omega arith))

module _ (t : Tables) {n : ℕ} {g : Graph} where
  -- a law of plans, of actions and plans, or of ∂
  pub plans_told : (k : ℕ) → (first_choice ≤ k) × (k ≤ highest_law) → {i j l : ℕ} {x y z : Term} → Holds n g i x → Holds n g j y → Holds n g l z
      → Told t n g (Some (on_plans k i j l)) (some (k, build t (letters x y z 0 0 0) (law_at k).rhs))
  plans_told k m p q r = told k m.0 m.1 {a = 0} {b = 0} {h = 0} p q r (omega arith) (omega arith) (omega arith)

  pub actions_told : (k : ℕ) → (first_choice ≤ k) × (k ≤ highest_law) → {a b i j : ℕ} {x y : Term} → a ≤ n → b ≤ n → Holds n g i x → Holds n g j y
      → Told t n g (Some (on_actions k a b i j)) (some (k, build t (letters x y (act 0) a b 0) (law_at k).rhs))
  actions_told k m d e p q = told k m.0 m.1 {h = 0} p q stop-held d e (omega arith)

  set_told : (k : ℕ) → (first_choice ≤ k) × (k ≤ highest_law) → {h a i j : ℕ} {x y : Term} → h ≤ 7 → a ≤ n → Holds n g i x → Holds n g j y
      → Told t n g (Some (on_set k (80 + h) a i j)) (some (k, build t (letters x y (act 0) a 0 h) (law_at k).rhs))
  set_told k m f d p q = told k m.0 m.1 {b = 0} p q stop-held d (omega arith) f

  -- x + y, by whether y and x are dead stop
  choice_by : {a b : ℕ} {x y : Term} → Holds n g a x → Holds n g b y → (c d : Bool) → eqb b 0 ≡ c → eqb a 0 ≡ d
      → Told t n g (choice_redex a b) (first_law t first_choice choices (bin Choice x y))
  unfolding choice_redex first_law rewrite law_at laws fit holds build bind binary_word
  choice_by p q true d e f = rw (fit-stop q, e) (plans_told 7 (omega arith) p stop-held stop-held)
  choice_by p q false true e f = rw (fit-stop q, e, fit-stop p, f) (plans_told 8 (omega arith) q stop-held stop-held)
  choice_by p q false false e f = rw (fit-stop q, e, fit-stop p, f) told_none

  pub choice_told : {a b : ℕ} {x y : Term} → Holds n g a x → Holds n g b y → Told t n g (choice_redex a b) (first_law t first_choice choices (bin Choice x y))
  choice_told {a} {b} p q = choice_by p q (eqb b 0) (eqb a 0) refl refl

  -- x ‖ y
  pub merge_told : {a b : ℕ} {x y : Term} → Holds n g a x → Holds n g b y → Told t n g (Some (on_plans 11 a b 0)) (first_law t first_choice choices (bin Merge x y))
  unfolding first_law rewrite law_at laws fit holds build bind binary_word
  merge_told p q = plans_told 11 (omega arith) p q stop-held

  -- x·y, for an action by whether it is dead stop
  stop_by : (a : ℕ) {b : ℕ} {y : Term} → Holds n g b y → (c : Bool) → eqb a 0 ≡ c → Told t n g (sequence_redex b (Action a)) (first_law t first_choice choices (bin Sequence (act a) y))
  unfolding sequence_redex first_law rewrite law_at laws fit holds build bind binary_word
  stop_by a q true e = rw e (plans_told 9 (omega arith) q stop-held stop-held)
  stop_by a q false e = rw e told_none

  pub sequence_told : {a b : ℕ} {p : Operand} {x y : Term} → Seen n g a p x → Holds n g b y → Told t n g (sequence_redex b p) (first_law t first_choice choices (bin Sequence x y))
  unfolding sequence_redex first_law rewrite law_at laws fit holds build bind binary_word
  sequence_told {a} (seen-action h) q = stop_by a q (eqb a 0) refl
  sequence_told (seen-sum h l) q = plans_told 5 (omega arith) h l q
  sequence_told (seen-product h l) q = plans_told 6 (omega arith) h l q
  sequence_told seen_one q = told_none
  sequence_told (seen-two f d) q = rw (f, d) told_none

  -- x ⌊ y
  pub left_merge_told : {a b : ℕ} {p : Operand} {x y : Term} → n ≤ 31 → Seen n g a p x → Holds n g b y
      → Told t n g (left_merge_redex b p) (first_law t first_choice choices (bin LeftMerge x y))
  unfolding left_merge_redex first_law rewrite law_at laws fit holds build bind binary_word
  left_merge_told few (seen-action h) q = actions_told 12 (omega arith) {b = 0} h (omega arith) q stop-held
  left_merge_told few (seen-sum h l) q = plans_told 14 (omega arith) h l q
  left_merge_told few (seen-product (leaf {a} h) l) q = rw (lt-ltb a 256 (omega arith)) (actions_told 13 (omega arith) {b = 0} h (omega arith) l q)
  left_merge_told few (seen-product (one {v} i j e k h) l) q = rw (le-ltb v 256 i) told_none
  left_merge_told few (seen-product (two {v} i j e k h) l) q = rw (le-ltb v 256 i) told_none
  left_merge_told few seen_one q = told_none
  left_merge_told few (seen-two f d) q = rw (f, d) told_none

  -- θ(x)
  pub priority_told : {a : ℕ} {p : Operand} {x : Term} → Seen n g a p x → Told t n g (priority_redex p) (first_law t first_choice choices (un Priority x))
  unfolding priority_redex first_law rewrite law_at laws fit holds build bind binary_word
  priority_told (seen-action h) = actions_told 30 (omega arith) {b = 0} h (omega arith) stop-held stop-held
  priority_told (seen-sum h l) = plans_told 32 (omega arith) h l stop-held
  priority_told (seen-product h l) = plans_told 31 (omega arith) h l stop-held
  priority_told seen_one = told_none
  priority_told (seen-two f d) = rw (d, f) told_none

  -- ∂(x), for an action by whether it is in the set
  blocked_by : (h a : ℕ) → h ≤ 7 → a ≤ n → (c : Bool) → blocked t h a ≡ c
      → Told t n g (encapsulation_redex t (80 + h) (Action a)) (first_law t first_choice choices (un (Encapsulation h) (act a)))
  unfolding encapsulation_redex first_law rewrite law_at laws fit holds build bind
  blocked_by h a f d true e = let m : 80 + h - 80 ≡ h = omega arith in rw (m, e) (set_told 21 (omega arith) f d stop-held stop-held)
  blocked_by h a f d false e = let m : 80 + h - 80 ≡ h = omega arith in rw (m, e) (set_told 20 (omega arith) f d stop-held stop-held)

  pub encapsulation_told : (h : ℕ) → h ≤ 7 → {a : ℕ} {p : Operand} {x : Term} → Seen n g a p x
      → Told t n g (encapsulation_redex t (80 + h) p) (first_law t first_choice choices (un (Encapsulation h) x))
  unfolding encapsulation_redex first_law rewrite law_at laws fit holds build bind binary_word
  encapsulation_told h f {a} (seen-action d) = blocked_by h a f d (blocked t h a) refl
  encapsulation_told h f (seen-sum p q) = set_told 22 (omega arith) {a = 0} f (omega arith) p q
  encapsulation_told h f (seen-product p q) = set_told 23 (omega arith) {a = 0} f (omega arith) p q
  encapsulation_told h f seen_one = told_none
  encapsulation_told h f (seen-two c d) = rw (c, d) told_none

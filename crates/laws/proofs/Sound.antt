-- Each of the thirty-two laws leaves the tree alike.
use Prim.Native.Nat.{ℕ, suc, zero, ◌≤◌}
use native.Mathlib.Omega.{arith}
use mathlib.Core.Path.{◌≡◌, refl, sym, subst}
use mathlib.Core.Bool.{true, false≢true, and-eq-true_iff}
use mathlib.Core.List.{List, [], ◌∷◌}
use mathlib.Core.Option.{some}
use lib.Dec.{eqb}
use borrow.Author.Tests.{eqb-true, eq-eqb, not-true}
use Rattle.tables.specs.Tables.{Tables, actions, communication, below, blocked}
use Rattle.tables.specs.Lawful.{Lawful}
use Rattle.plans.specs.Term.{Term, Over}
use Rattle.plans.proofs.Reading.{words_injective}
use Rattle.trees.specs.Tree.{Tree, Alike, finish, further}
use Rattle.trees.specs.Operators.{◌⊕◌, together, merge_trees}
use Rattle.trees.specs.Meaning.{tree}
use Rattle.trees.proofs.Operators.{choice_stop, choice_assoc, merge-choices}
use Rattle.trees.proofs.Alike.{alike_refl, alike-path}
use Rattle.trees.proofs.Equations.{choice_comm, choice_same, sequence_choice, sequence_assoc, atom_sequence, left_atom, left-prefix, left_choice, communication_atoms, communication-prefix, communication_choice, communication_choice_right, encapsulation-kept, encapsulation_dropped, encapsulation_choice, encapsulation_sequence, unless-kept, unless_dropped, unless_sequence_right, unless_choice_right, unless_sequence, unless_choice, priority_atom, priority_sequence, priority_choice}
use Rattle.laws.specs.Laws.{Law, laws, no_law, nth, law_at, unbound, bind, same_bytes, holds, build, rewrite}
use Rattle.laws.proofs.Fitting.{Need, rewritten}
use Rattle.laws.proofs.Tables.{Proper, lawful_proper}

-- operands equal in their words
pub same_list : (l m : List ℕ) → same_bytes l m ≡ true → l ≡ m
unfolding same_bytes
same_list [] [] e = refl
same_list [] (c ∷ m) e = absurd (false≢true e)
same_list (c ∷ l) [] e = absurd (false≢true e)
same_list (c ∷ l) (d ∷ m) e = cc (eqb-true c d ((and-eq-true_iff (eqb c d) _).0 e).0, same_list l m ((and-eq-true_iff (eqb c d) _).0 e).1)

pub same_itself : (l : List ℕ) → same_bytes l l ≡ true
unfolding same_bytes
same_itself [] = refl
same_itself (c ∷ l) = rw (eq-eqb c c refl, same_itself l)

-- a property of every law of a list, and of law k
abbrev All : (Law → Type 0) → List Law → Type 0
All P [] = Unit
All P (l ∷ ls) = P l × All P ls

all_nth : (P : Law → Type 0) → P no_law → (ls : List Law) → All P ls → (k : ℕ) → P (nth ls k)
all_nth P z [] a k = z
all_nth P z (l ∷ ls) a zero = a.0
all_nth P z (l ∷ ls) a (suc k) = all_nth P z ls a.1 k

all_at : (P : Law → Type 0) → P no_law → All P laws → (k : ℕ) → P (law_at k)
unfolding law_at
all_at P z a zero = z
all_at P z a (suc k) = all_nth P z laws a k

infixr 2 ◌▹◌
abbrev ◌▹◌ : {A B : Type 0} → A → B → A × B
a ▹ b = (a, b)

module _ (t : Tables) (ok : Proper t) where
  -- from a term over the tables' actions to another, with an alike tree
  abbrev SafeStep : Term → Term → Type 0
  SafeStep u v = Over (actions t) u → Over (actions t) v × Alike (tree t u) (tree t v)

  abbrev Keeps : Law → Type 0
  Keeps l = Need l.lhs unbound (λ u s. holds t l.when s ≡ true → SafeStep u (build t s l.rhs))

  abbrev γ : ℕ → ℕ → ℕ
  γ = communication t

  abbrev τ : Term → Tree
  τ u = tree t u

  -- the entry of a dead action
  dead : (a b : ℕ) → a ≤ actions t → b ≤ actions t → (eqb a 0 ≡ true → γ a b ≡ 0) × (eqb b 0 ≡ true → γ a b ≡ 0)
  dead a b f g = (λ e. rw (eqb-true a 0 e) (ok.dead_left b g), λ e. rw (eqb-true b 0 e) (ok.dead_right a f))

  -- the laws in order; letters come from right to left, after ∂'s set
  all_keep : All Keeps laws
  unfolding laws tree bind holds build together ◌⊕◌
  all_keep =
      -- 1 to 4
      (λ y x h f. (search, choice_comm (τ x) (τ y)))
      ▹ (λ z y x h f. (search, alike-path (sym (choice_assoc (τ x) (τ y) (τ z)))))
      ▹ (λ z y x h f. (search, alike-path (choice_assoc (τ x) (τ y) (τ z))))
      ▹ (λ y x h f. (search, subst (λ u. Alike (τ x ⊕ τ u) (τ x)) (words_injective (actions t) ok.few x y f.0 f.1 (same_list _ _ h)) (choice_same (τ x))))
      -- 5 to 10
      ▹ (λ z y x h f. (search, alike-path (sequence_choice (τ x) (τ y) (τ z))))
      ▹ (λ z y x h f. (search, alike-path (sequence_assoc (τ x) (τ y) (τ z))))
      ▹ (λ x h f. (search, alike-path (choice_stop (τ x))))
      ▹ (λ x h f. (search, alike_refl (τ x)))
      ▹ (λ x h f. (search arith, alike-path (atom_sequence true 0 (τ x))))
      ▹ (λ b a h f. (search ok.range, alike-path (communication_atoms γ (eqb a 0) (eqb b 0) a b (dead a b f.0 f.1).0 (dead a b f.0 f.1).1)))
      -- 11 to 19
      ▹ (λ y x h f. (search, alike-path (merge-choices γ (τ x) (τ y))))
      ▹ (λ x a h f. (search, alike-path (left_atom γ (eqb a 0) a (τ x))))
      ▹ (λ y x a h f. (search, alike-path (left-prefix γ (eqb a 0) a (τ x) (τ y))))
      ▹ (λ z y x h f. (search, alike-path (left_choice γ (τ x) (τ y) (τ z))))
      ▹ (λ b x a h f. (search, alike-path (rw (atom_sequence (eqb a 0) a (τ x)) (communication-prefix γ (eqb a 0) (eqb b 0) a b (further (τ x)) finish (τ x) refl))))
      ▹ (λ x b a h f. (search, alike-path (rw (atom_sequence (eqb b 0) b (τ x)) (communication-prefix γ (eqb a 0) (eqb b 0) a b finish (further (τ x)) (τ x) refl))))
      ▹ (λ y b x a h f. (search, alike-path (rw (atom_sequence (eqb a 0) a (τ x), atom_sequence (eqb b 0) b (τ y)) (communication-prefix γ (eqb a 0) (eqb b 0) a b (further (τ x)) (further (τ y)) (merge_trees γ (τ x) (τ y)) refl))))
      ▹ (λ z y x h f. (search, alike-path (communication_choice γ (τ x) (τ y) (τ z))))
      ▹ (λ z y x h f. (search, communication_choice_right γ (τ x) (τ y) (τ z)))
      -- 20 to 23
      ▹ (λ s a h f. (search arith, alike-path (encapsulation-kept (blocked t s) (eqb a 0) a (not-true _ h))))
      ▹ (λ s a h f. (search arith, alike-path (encapsulation_dropped (blocked t s) (eqb a 0) a h)))
      ▹ (λ s y x h f. (search, alike-path (encapsulation_choice (blocked t s) (τ x) (τ y))))
      ▹ (λ s y x h f. (search, alike-path (encapsulation_sequence (blocked t s) (τ x) (τ y))))
      -- 24 to 32
      ▹ (λ b a h f. (search arith, alike-path (unless-kept (below t) (eqb a 0) (eqb b 0) a b (not-true _ h))))
      ▹ (λ b a h f. (search arith, alike-path (unless_dropped (below t) (eqb a 0) (eqb b 0) a b h (λ e. rw (eqb-true b 0 e) (ok.least a f.0)))))
      ▹ (λ z y x h f. (search, alike-path (unless_sequence_right (below t) (τ x) (τ y) (τ z))))
      ▹ (λ z y x h f. (search, alike-path (unless_choice_right (below t) (τ x) (τ y) (τ z))))
      ▹ (λ z y x h f. (search, alike-path (unless_sequence (below t) (τ x) (τ y) (τ z))))
      ▹ (λ z y x h f. (search, alike-path (unless_choice (below t) (τ x) (τ y) (τ z))))
      ▹ (λ a h f. (search arith, alike-path (priority_atom (below t) (eqb a 0) a (ok.irreflexive a f.1))))
      ▹ (λ y x h f. (search, alike-path (priority_sequence (below t) (τ x) (τ y))))
      ▹ (λ y x h f. (search, alike-path (priority_choice (below t) (τ x) (τ y))))
      ▹ tt

  pub law_keeps : (k : ℕ) (u v : Term) → rewrite t (law_at k) u ≡ some v → SafeStep u v
  law_keeps k = rewritten t (law_at k) SafeStep (all_at Keeps tt all_keep k)

-- a law that fits at the root of a plan leaves its tree alike, and its actions and sets those of the tables
pub law_sound : (t : Tables) → Lawful t → (k : ℕ) (u v : Term) → Over (actions t) u → rewrite t (law_at k) u ≡ some v
    → Over (actions t) v × Alike (tree t u) (tree t v)
law_sound t ok k u v f e = law_keeps t (lawful_proper t ok) k u v e f

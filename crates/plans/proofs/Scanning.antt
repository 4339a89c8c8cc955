-- One scan of a plan's words, with a kind for each subplan that waits, tells whether the plan is basic.
use Prim.Native.Nat.{ℕ, suc, zero, ◌+◌, ◌-◌, ◌≤◌, ◌<◌}
use native.Mathlib.Numerals.{add-one}
use native.Mathlib.Omega.{arith}
use mathlib.Core.Path.{◌≡◌, refl, sym, ◌∙◌}
use mathlib.Core.Bool.{Bool, true, false, cond, ◌&&◌}
use mathlib.Core.List.{List, [], ◌∷◌}
use mathlib.Core.Option.{Option, none, some}
use lib.ListN.{length, get_or, set, drop, length-set, drop_of_length-le}
use lib.Seq.{drop-cons, get_or-set_same, get_or-set_other}
use lib.Dec.{eqb}
use Rattle.plans.specs.declared.Binary.{Binary}
use Rattle.plans.specs.declared.Binary.TheVariants.{Choice, Sequence, Merge, LeftMerge, CommunicationMerge, Unless}
use Rattle.plans.specs.declared.Unary.{Unary}
use Rattle.plans.specs.declared.Word.{Word}
use Rattle.plans.specs.declared.Word.TheVariants.{Action, One, Two, NoWord}
use Rattle.plans.specs.Word.{word_of}
use Rattle.plans.specs.Term.{Term, act, un, bin, push, read, and_then, sole, term_of}
use Rattle.plans.specs.Basic.{dead_stop?, live_action?, sum_plan?, basic?, basic_term?, basic_words?}
use Rattle.plans.specs.declared.scan.Kind.{Kind}
use Rattle.plans.specs.declared.scan.Kind.TheVariants.{NotBasic, DeadStop, LiveAction, SumPlan}
use Rattle.plans.specs.Kinds.{basic_kind?, sum_kind?, live_kind?, action_kind, joined_kind}
use Rattle.areas.specs.Area.{most_words}

-- the kind of a term
unfoldable pub kind : Term → Kind
unfolding action_kind joined_kind
kind (act a) = action_kind a
kind (un o u) = NotBasic
kind (bin o u v) = joined_kind o (kind u) (kind v)

-- what a kind says of its term
record Says (u : Term) (k : Kind) : Type 0 where
  live : live_action? u ≡ live_kind? k
  sums : sum_plan? u ≡ sum_kind? k
  basic : basic? u ≡ basic_kind? k

mixed : (u : Term) (b : Bool) → live_action? u ≡ false → dead_stop? u ≡ false → sum_plan? u ≡ b → Says u (cond b SumPlan NotBasic)
unfolding basic?
mixed u true l d e = record { live = l; sums = e; basic = rw (d, e) refl }
mixed u false l d e = record { live = l; sums = e; basic = rw (d, e) refl }

says : (u : Term) → Says u (kind u)
unfolding kind sum_plan? basic? action_kind joined_kind
says (act a) = inner (eqb a 0) refl
  where
    inner : (b : Bool) → eqb a 0 ≡ b → Says (act a) (cond (eqb a 0) DeadStop LiveAction)
    inner true e = record { live = rw e refl; sums = rw e refl; basic = rw e refl }
    inner false e = record { live = rw e refl; sums = rw e refl; basic = rw e refl }
says (un o u) = record { live = refl; sums = refl; basic = refl }
says (bin Choice u v) = mixed (bin Choice u v) (sum_kind? (kind u) && sum_kind? (kind v)) refl refl (rw ((says u).sums, (says v).sums) refl)
says (bin Sequence u v) = mixed (bin Sequence u v) (live_kind? (kind u) && basic_kind? (kind v)) refl refl (rw ((says u).live, ← (says v).basic) refl)
says (bin Merge u v) = record { live = refl; sums = refl; basic = refl }
says (bin LeftMerge u v) = record { live = refl; sums = refl; basic = refl }
says (bin CommunicationMerge u v) = record { live = refl; sums = refl; basic = refl }
says (bin Unless u v) = record { live = refl; sums = refl; basic = refl }

-- a word read where only the kinds of the waiting subplans are kept, the last first
unfoldable pub push_kind : Word → List Kind → Option (List Kind)
push_kind (Action a) s = some (action_kind a ∷ s)
push_kind (One o) [] = none
push_kind (One o) (x ∷ s) = some (NotBasic ∷ s)
push_kind (Two o) [] = none
push_kind (Two o) (y ∷ []) = none
push_kind (Two o) (y ∷ (x ∷ s)) = some (joined_kind o x y ∷ s)
push_kind NoWord s = none

abbrev pub on_kinds : Option (List Kind) → (List Kind → Bool) → Bool
on_kinds none f = false
on_kinds (some s) f = f s

abbrev pub sole-basic : List Kind → Bool
sole-basic [] = false
sole-basic (k ∷ []) = basic_kind? k
sole-basic (k ∷ (l ∷ s)) = false

unfoldable pub scan : ℕ → List ℕ → List Kind → Bool
unfolding push_kind
scan n [] s = sole-basic s
scan n (w ∷ ws) s = on_kinds (push_kind (word_of n w) s) (λ r. scan n ws r)

-- the kinds are those of the terms that reading makes
kinds : List Term → List Kind
kinds [] = []
kinds (u ∷ s) = kind u ∷ kinds s

data Pushed : Option (List Term) → Option (List Kind) → Type 0 where
  pushed : (s : List Term) → Pushed (some s) (some (kinds s))
  short : Pushed none none

push_kinds : (k : Word) (s : List Term) → Pushed (push k s) (push_kind k (kinds s))
unfolding push push_kind kinds kind
push_kinds (Action a) s = pushed (act a ∷ s)
push_kinds (One o) [] = short
push_kinds (One o) (x ∷ s) = pushed (un o x ∷ s)
push_kinds (Two o) [] = short
push_kinds (Two o) (y ∷ []) = short
push_kinds (Two o) (y ∷ (x ∷ s)) = pushed (bin o x y ∷ s)
push_kinds NoWord s = short

scan_reads : (n : ℕ) (ws : List ℕ) (s : List Term) → scan n ws (kinds s) ≡ basic_term? (and_then (read n ws s) sole)
unfolding scan read kinds
scan_reads n [] [] = refl
scan_reads n [] (u ∷ []) = sym (says u).basic
scan_reads n [] (u ∷ (v ∷ s)) = refl
scan_reads n (w ∷ ws) s = inner (push_kinds (word_of n w) s) (λ r. scan_reads n ws r)
  where
    inner : {m : Option (List Term)} {k : Option (List Kind)} → Pushed m k
        → ((r : List Term) → scan n ws (kinds r) ≡ basic_term? (and_then (read n ws r) sole))
        → on_kinds k (λ r. scan n ws r) ≡ basic_term? (and_then (and_then m (λ r. read n ws r)) sole)
    inner (pushed r) f = f r
    inner short f = refl

pub scan_basic : (n : ℕ) (ws : List ℕ) → scan n ws [] ≡ basic_words? n ws
unfolding basic_words? term_of kinds
scan_basic n ws = scan_reads n ws []

-- the first d entries of an array of kinds, the last first; an entry above them is none of theirs; and one put on top
unfoldable pub stacked : List Kind → ℕ → List Kind
stacked ks zero = []
stacked ks (suc d) = get_or ks d NotBasic ∷ stacked ks d

stacked-set : (ks : List Kind) (i : ℕ) (k : Kind) (d : ℕ) → d ≤ i → stacked (set ks i k) d ≡ stacked ks d
unfolding stacked
stacked-set ks i k zero h = refl
stacked-set ks i k (suc d) h = rw (get_or-set_other ks i d k NotBasic (λ e. omega arith), stacked-set ks i k d (omega arith)) refl

stacked-onto : (ks : List Kind) (d e : ℕ) (k : Kind) → e ≡ suc d → d < length ks → stacked (set ks d k) e ≡ k ∷ stacked ks d
unfolding stacked
stacked-onto ks d e k i h = rw (i, get_or-set_same ks d k NotBasic h, stacked-set ks d k d (omega arith)) refl

-- what an operator makes of them
module _ (ks : List Kind) where
  one_pushed : (o : Unary) (d e : ℕ) → d ≡ suc e → e < length ks → push_kind (One o) (stacked ks d) ≡ some (stacked (set ks e NotBasic) d)
  unfolding push_kind stacked
  one_pushed o d e p h = rw (p, stacked-onto ks e (suc e) NotBasic refl h) refl

  two_pushed : (o : Binary) (d e f : ℕ) (v : Kind) → d ≡ suc e → e ≡ suc f → f < length ks → v ≡ joined_kind o (get_or ks f NotBasic) (get_or ks e NotBasic)
      → push_kind (Two o) (stacked ks d) ≡ some (stacked (set ks f v) e)
  unfolding push_kind stacked
  two_pushed o d e f v p q h j = rw (p, q, stacked-onto ks f (suc f) v refl h, j, q) refl

  none_for_two : (o : Binary) (d : ℕ) → d < 2 → push_kind (Two o) (stacked ks d) ≡ none
  unfolding push_kind stacked
  none_for_two o zero h = refl
  none_for_two o (suc zero) h = refl
  none_for_two o (suc (suc d)) h = absurd (omega arith)

  not_sole : (d : ℕ) → (d ≡ 1 → ⊥) → sole-basic (stacked ks d) ≡ false
  unfolding stacked
  not_sole zero f = refl
  not_sole (suc zero) f = absurd (f refl)
  not_sole (suc (suc d)) f = refl

-- Scanning the words of a plan from place i on, with the kinds of d subplans in an array, answers for the plan.
pub record Scanned (n : ℕ) (plan : List ℕ) (ks : List Kind) (d i : ℕ) : Type 0 where
  pub inside : i ≤ length plan
  pub short : length plan ≤ most_words
  pub low : d ≤ i
  pub room : length ks ≡ most_words
  pub same : scan n (drop i plan) (stacked ks d) ≡ basic_words? n plan

module _ {n : ℕ} {plan : List ℕ} {ks : List Kind} {d i : ℕ} (s : Scanned n plan ks d i) (more : i < length plan) where
  goes_on : (r : List Kind) → push_kind (word_of n (get_or plan i 0)) (stacked ks d) ≡ some r → scan n (drop (i + 1) plan) r ≡ basic_words? n plan
  unfolding scan
  goes_on r e = rw (add-one i) (sym (rw (drop-cons plan i 0 more, e) refl) ∙ s.same)

  stops : push_kind (word_of n (get_or plan i 0)) (stacked ks d) ≡ none → false ≡ basic_words? n plan
  unfolding scan
  stops e = sym (rw (drop-cons plan i 0 more, e) refl) ∙ s.same

  pub took_action : {a : ℕ} {v : Kind} → word_of n (get_or plan i 0) ≡ Action a → v ≡ action_kind a → Scanned n plan (set ks d v) (d + 1) (i + 1)
  unfolding push_kind
  took_action {a} {v} e q =
      record {
        inside = omega arith;
        short = s.short;
        low = omega arith;
        room = simp length-set s.room;
        same = goes_on _ (rw (e, stacked-onto ks d (d + 1) v (add-one d) (omega arith), q) refl);
      }

  pub took_one : {o : Unary} → 1 ≤ d → word_of n (get_or plan i 0) ≡ One o → Scanned n plan (set ks (d - 1) NotBasic) d (i + 1)
  took_one {o} h e =
      record { inside = omega arith; short = s.short; low = omega arith; room = simp length-set s.room; same = goes_on _ (rw e (one_pushed ks o d (d - 1) (omega arith) (omega arith))) }

  pub took_two : {o : Binary} {v : Kind} → 2 ≤ d → word_of n (get_or plan i 0) ≡ Two o → v ≡ joined_kind o (get_or ks (d - 1 - 1) NotBasic) (get_or ks (d - 1) NotBasic)
      → Scanned n plan (set ks (d - 1 - 1) v) (d - 1) (i + 1)
  took_two {o} {v} h e q =
      record { inside = omega arith; short = s.short; low = omega arith; room = simp length-set s.room; same = goes_on _ (rw e (two_pushed ks o d (d - 1) (d - 1 - 1) v (omega arith) (omega arith) (omega arith) q)) }

  pub too_few_for_one : {o : Unary} → d < 1 → word_of n (get_or plan i 0) ≡ One o → false ≡ basic_words? n plan
  unfolding push_kind stacked
  too_few_for_one h e = let z : d ≡ 0 = omega arith in stops (rw (e, z) refl)

  pub too_few_for_two : {o : Binary} → d < 2 → word_of n (get_or plan i 0) ≡ Two o → false ≡ basic_words? n plan
  too_few_for_two {o} h e = stops (rw e (none_for_two ks o d h))

  pub at_no_word : word_of n (get_or plan i 0) ≡ NoWord → false ≡ basic_words? n plan
  unfolding push_kind
  at_no_word e = stops (rw e refl)

-- and its end
module _ {n : ℕ} {plan : List ℕ} {ks : List Kind} {d i : ℕ} (s : Scanned n plan ks d i) (over : length plan ≤ i) where
  pub ends-basic : d ≡ 1 → basic_kind? (get_or ks 0 NotBasic) ≡ basic_words? n plan
  unfolding scan stacked
  ends-basic e = sym (rw (drop_of_length-le plan over, e) refl) ∙ s.same

  pub ends_other : (d ≡ 1 → ⊥) → false ≡ basic_words? n plan
  unfolding scan
  ends_other f = sym (rw (drop_of_length-le plan over) (not_sole ks d f)) ∙ s.same

pub scan_starts : (n : ℕ) (plan : List ℕ) (ks : List Kind) → length plan ≤ most_words → length ks ≡ most_words → Scanned n plan ks 0 0
unfolding stacked
scan_starts n plan ks h e = record { inside = omega arith; short = h; low = omega arith; room = e; same = scan_basic n plan }

-- "A list of forward steps is answered as before": where no step has the first byte of a step backwards, the outcome is the former one.
use Prim.Native.Nat.{ℕ, suc, ◌+◌, ◌*◌, ◌%◌, ◌≤◌, ◌<◌}
use native.Mathlib.Omega.{arith}
use mathlib.Core.Path.{◌≡◌, refl, ap}
use mathlib.Core.Bool.{false}
use mathlib.Core.List.{List, [], ◌∷◌}
use mathlib.Core.Option.{Option, none, some}
use mathlib.Core.Logic.{◌⊎◌, inl, inr}
use lib.ListN.{length}
use lib.Dec.{eqb, ltb}
use borrow.Author.Tests.{le-leb, lt-leb}
use Rattle.refusals.specs.declared.Refusal.{Refusal}
use Rattle.refusals.specs.Refusal.{or_else}
use Rattle.areas.specs.Reached.{capacity}
use Rattle.tables.specs.Tables.{Tables, actions}
use Rattle.laws.specs.Laws.{highest_law}
use Rattle.laws.specs.Step.{step}
use Rattle.rewritings.specs.Moves.{Move, moves_of}
use Rattle.rewritings.specs.Records.{forward, backward?, first_with, first_record, Cut, one_more, cut_from, records_of, whole?}
use Rattle.rewritings.proofs.Bytes.{forwards}
use Rattle.checking.specs.Checking.{on_step, stop_if, step_of, unknown_law, records_refusal, rewriting_refusal, check_refusal, replay, replay_of, check_outcome}
use Rattle.demands.specs.Former.{ForwardList, former_outcome}
use Rattle.demands.specs.Former as former
use Rattle.demands.proofs.Running.{left_none}

-- 16: a record is cut short exactly if the length is no multiple of 3
three_more : (n : ℕ) → eqb (n % 3) 0 ≡ eqb (suc (suc (suc n)) % 3) 0
three_more n = let e : n % 3 ≡ suc (suc (suc n)) % 3 = omega arith in ap (λ (k : ℕ). eqb k 0) e

not_back : (k : ℕ) → (k ≤ 128) ⊎ (128 + highest_law < k) → backward? k ≡ false
unfolding backward?
not_back k (inl h) = rw (lt-leb 129 k (omega arith)) refl
not_back k (inr h) = rw (le-leb 129 k (omega arith), lt-leb k (128 + highest_law) h) refl

cut_same : (r : List ℕ) → ForwardList r → cut_from 0 r ≡ record { records = forwards (moves_of r); whole = eqb (length r % 3) 0 }
unfolding cut_from first_record first_with moves_of forwards
cut_same [] f = refl
cut_same (k ∷ []) f = refl
cut_same (k ∷ (l ∷ [])) f = refl
cut_same (k ∷ (l ∷ (h ∷ r))) f =
    rw (not_back k f.0, ← three_more (length r))
    (ap (one_more (forward (record { law = k; place = l + 256 * h }))) (cut_same r f.1))

-- 17
unknown_same : (i : ℕ) (ms : List Move) → unknown_law i (forwards ms) ≡ former.unknown_law i ms
unfolding unknown_law former.unknown_law forwards
unknown_same i [] = refl
unknown_same i (m ∷ ms) = rw (unknown_same (suc i) ms)

or_none : (o : Option Refusal) → or_else o none ≡ o
or_none none = refl
or_none (some f) = refl

-- the steps
replay_same : (t : Tables) (c : ℕ) (claimed : List ℕ) (ms : List Move) (k : ℕ) (w v : List ℕ)
    → replay t c claimed (forwards ms) k w v ≡ former.replay t c claimed ms k w v
unfolding replay former.replay step_of forwards
replay_same t c claimed [] k w v = refl
replay_same t c claimed (m ∷ ms) k w v = go (step t m.law m.place w) (λ next. replay_same t c claimed ms (suc k) next w)
  where
    go : (o : Option (List ℕ)) → ((next : List ℕ) → replay t c claimed (forwards ms) (suc k) next w ≡ former.replay t c claimed ms (suc k) next w)
        → on_step o (record { number = 31; steps = k; plan = w; before = v })
        (λ next. stop_if (ltb c (length next)) (record { number = 32; steps = k; plan = w; before = v }) (λ u. replay t c claimed (forwards ms) (suc k) next w))
        ≡ on_step o (record { number = 31; steps = k; plan = w; before = v })
        (λ next. stop_if (ltb c (length next)) (record { number = 32; steps = k; plan = w; before = v }) (λ u. former.replay t c claimed ms (suc k) next w))
    go none f = refl
    go (some next) f = rw (f next)

module _ (t : Tables) (start claimed rewriting : List ℕ) (only : ForwardList rewriting) where
  records_same : records_of rewriting ≡ forwards (moves_of rewriting)
  unfolding records_of
  records_same = ap (λ (c : Cut). c.records) (cut_same rewriting only)

  whole_same : whole? rewriting ≡ eqb (length rewriting % 3) 0
  unfolding whole?
  whole_same = ap (λ (c : Cut). c.whole) (cut_same rewriting only)

  refusal_same : (c : ℕ) → check_refusal t start claimed rewriting c ≡ former.check_refusal t start claimed rewriting c
  unfolding check_refusal rewriting_refusal records_refusal former.check_refusal former.rewriting_refusal
  refusal_same c =
      let ms = moves_of rewriting in
      rw (whole_same, records_same, unknown_same 0 ms, left_none (actions t) 0 ms, or_none (former.unknown_law 0 ms))

  pub forward_as_before : (a b : List ℕ) → check_outcome t start claimed rewriting a b ≡ former_outcome t start claimed rewriting a b
  unfolding check_outcome former_outcome replay_of
  forward_as_before a b =
      let c = capacity a b in
      rw (refusal_same c, records_same, replay_same t c claimed (moves_of rewriting) 0 start [])

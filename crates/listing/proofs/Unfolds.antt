-- What is printed of a plan, from what the unfolding answers and leaves.
use Rattle.std.specs.Prelude.{Result, Ok, Err}
use Prim.Native.Nat.{ℕ, ◌*◌, ◌≤◌, min}
use native.Mathlib.Omega.{arith}
use mathlib.Core.Path.{◌≡◌, refl, sym, ◌∙◌, ap}
use mathlib.Core.Bool.{Bool, true, false, cond}
use mathlib.Core.List.{List}
use mathlib.Core.Option.{Option, none, some}
use lib.ListN.{length}
use lib.Dec.{eqb}
use borrow.Author.Tests.{eqb-true}
use Rattle.refusals.specs.declared.Refusal.{Refusal}
use Rattle.areas.specs.Area.{padded, most_words}
use Rattle.tables.specs.Tables.{Tables, actions}
use Rattle.areas.specs.Reached.{capacity, even?, area_a, area_b, reached_part}
use Rattle.rewritings.specs.Moves.{Move, bytes_of, moves_of}
use Rattle.rewritings.proofs.Moves.{moves_bytes}
use Rattle.unfolding.specs.declared.Unfolded.{Unfolded}
use Rattle.unfolding.specs.declared.Unfolded.TheVariants.{Finished, Stopped}
use Rattle.rewritings.specs.Runs.{Run, run_of}
use Rattle.unfolding.specs.Unfolding.{unfold_refusal, unfold_outcome, UnfoldOutcome}
use Rattle.unfolding.specs.Unfolding as unfolding_of
use Rattle.demands.specs.Reports.{own_rewriting}
use Rattle.demands.proofs.Running.{run-records-long, run-held}
use Rattle.demands.proofs.Reports.{take-padded, reached_is, unfold_accepts}
use Rattle.listing.specs.Ended.{Ended, finished, stopped}
use Rattle.listing.specs.Listing as listing_of
use Rattle.listing.specs.Listing.{ending, refused_line, plan_listing}

-- it is that of the run
record Same (r : Run) (n s k : ℕ) : Type 0 where
  number : n ≡ r.number
  steps : s ≡ r.steps
  size : k ≡ length r.plan

same_by : (r : Run) (b : Bool) → eqb r.number 0 ≡ b → {x : Unfolded} {n s k : ℕ} → Ended x n s k
    → ◌≡◌ {A = Result Unfolded Refusal} (Ok x) (cond b (Ok (Finished r.steps (length r.plan))) (Ok (Stopped r.number r.steps (length r.plan)))) → Same r n s k
same_by r true q finished e = record { number = sym (eqb-true r.number 0 q); steps = cc; size = cc }
same_by r true q stopped e = let z : ◌≡◌ {A = ℕ} 0 1 = cc in absurd (omega arith)
same_by r false q finished e = let z : ◌≡◌ {A = ℕ} 0 1 = cc in absurd (omega arith)
same_by r false q stopped e = record { number = cc; steps = cc; size = cc }

not_refused : (r : Run) (f : Refusal) (b : Bool) → Err f ≡ cond b (Ok (Finished r.steps (length r.plan))) (Ok (Stopped r.number r.steps (length r.plan))) → ⊥
not_refused r f true e = let z : ◌≡◌ {A = ℕ} 0 1 = cc in omega arith
not_refused r f false e = let z : ◌≡◌ {A = ℕ} 0 1 = cc in omega arith

not_ended : (g : Refusal) (x : Unfolded) → Ok x ≡ Err g → ⊥
not_ended g x e = let z : ◌≡◌ {A = ℕ} 0 1 = cc in omega arith

-- what is printed of a plan whose unfolding ended with number n after s steps, and left the list l, the areas y and z, and k words reached
pub record Prints (t : Tables) (plan l y z : List ℕ) (n s k : ℕ) : Type 0 where
  pub few : actions t ≤ 31
  pub long : 3 * s ≤ 15000
  pub text : plan_listing t plan ≡ ending (actions t) n s (reached_part (even? s) k y z) (moves_of (own_rewriting s l))

module _ (t : Tables) (plan list a b : List ℕ) (hl : length list ≡ 15000) (ha : length a ≡ 8192) (hb : length b ≡ 8192) where
  abbrev R : Run
  R = run_of t plan 5000 15000 8192

  -- what an unfolding in areas of these lengths comes to
  cap : capacity a b ≡ 8192
  unfolding capacity
  cap = ap (λ (m : ℕ). min (min m (length b)) most_words) ha ∙ ap (λ (m : ℕ). min (min 8192 m) most_words) hb

  in_areas : unfold_outcome t plan 5000 list a b ≡ unfolding_of.unless_refused (unfold_refusal t plan 8192) R list a b
  unfolding unfold_outcome
  in_areas =
      ap (λ (c : ℕ). unfolding_of.unless_refused (unfold_refusal t plan c) (run_of t plan 5000 (length list) c) list a b) cap
      ∙ ap (λ (m : ℕ). unfolding_of.unless_refused (unfold_refusal t plan 8192) (run_of t plan 5000 m 8192) list a b) hl

  -- refused
  pub refused-listing : {f : Refusal} (x : Result Unfolded Refusal) (l y z : List ℕ) → x ≡ Err f → record { answer = x; list = l; a = y; b = z } ≡ unfold_outcome t plan 5000 list a b
      → plan_listing t plan ≡ refused_line f
  unfolding plan_listing
  refused-listing {f} x l y z q e = go (unfold_refusal t plan 8192) (ap (λ (o : UnfoldOutcome). o.answer) (e ∙ in_areas))
    where
      go : (o : Option Refusal) → x ≡ (unfolding_of.unless_refused o R list a b).answer → listing_of.unless_refused o (listing_of.run_listing t R) ≡ refused_line f
      go (some g) h = ap refused_line (cc)
      go none h = absurd (not_refused R f (eqb R.number 0) (sym q ∙ h))

  few_of : unfold_refusal t plan 8192 ≡ none → actions t ≤ 31
  few_of h = ((unfold_accepts t plan 8192).0 h).0.lawful.well_formed.few_actions

  -- three bytes are recorded for each step
  own_is : own_rewriting R.steps (padded (bytes_of R.moves) (length list)) ≡ bytes_of R.moves
  unfolding own_rewriting
  own_is = rw (← run-records-long t plan 5000 15000 8192) (take-padded (bytes_of R.moves) (length list))

  settled-listing : {l y z : List ℕ} {n s k : ℕ} → unfold_refusal t plan 8192 ≡ none → Same R n s k → l ≡ padded (bytes_of R.moves) (length list)
      → y ≡ area_a (even? R.steps) R.plan R.before (length a) → z ≡ area_b (even? R.steps) R.plan R.before (length b) → Prints t plan l y z n s k
  unfolding plan_listing
  settled-listing {l} {y} {z} {n} {s} {k} h m el ey ez =
      let o : moves_of (own_rewriting s l) ≡ R.moves =
      ap (λ (j : ℕ). moves_of (own_rewriting j l)) m.steps
      ∙ ap (λ (j : List ℕ). moves_of (own_rewriting R.steps j)) el
      ∙ ap moves_of own_is
      ∙ moves_bytes R.moves in
      let p : reached_part (even? s) k y z ≡ R.plan =
      ap (λ (j : ℕ). reached_part (even? j) k y z) m.steps
      ∙ ap (λ (j : ℕ). reached_part (even? R.steps) j y z) m.size
      ∙ ap (λ (j : List ℕ). reached_part (even? R.steps) (length R.plan) j z) ey
      ∙ ap (λ (j : List ℕ). reached_part (even? R.steps) (length R.plan) (area_a (even? R.steps) R.plan R.before (length a)) j) ez
      ∙ reached_is (even? R.steps) R.plan R.before (length a) (length b) in
      record {
        few = few_of h;
        long = omega (arith, run-held t plan 5000 15000 8192, m.steps);
        text = ap (λ (j : Option Refusal). listing_of.unless_refused j (listing_of.run_listing t R)) h
            ∙ ap (λ (j : ℕ). ending (actions t) j R.steps R.plan R.moves) (sym m.number)
            ∙ ap (λ (j : ℕ). ending (actions t) n j R.plan R.moves) (sym m.steps)
            ∙ ap (λ (j : List ℕ). ending (actions t) n s j R.moves) (sym p)
            ∙ ap (λ (j : List Move). ending (actions t) n s (reached_part (even? s) k y z) j) (sym o);
      }

  pub ended-listing : {x : Unfolded} {n s k : ℕ} (x' : Result Unfolded Refusal) (l y z : List ℕ) → Ended x n s k → x' ≡ Ok x
      → record { answer = x'; list = l; a = y; b = z } ≡ unfold_outcome t plan 5000 list a b → Prints t plan l y z n s k
  ended-listing {x} {n} {s} {k} x' l y z d q e = go (unfold_refusal t plan 8192) refl (e ∙ in_areas)
    where
      go : (o : Option Refusal) → unfold_refusal t plan 8192 ≡ o → record { answer = x'; list = l; a = y; b = z } ≡ unfolding_of.unless_refused o R list a b → Prints t plan l y z n s k
      go (some g) h i = absurd (not_ended g x (sym q ∙ ap (λ (o : UnfoldOutcome). o.answer) i))
      go none h i =
          settled-listing h (same_by R (eqb R.number 0) refl d (sym q ∙ ap (λ (o : UnfoldOutcome). o.answer) i)) (ap (λ (o : UnfoldOutcome). o.list) i)
          (ap (λ (o : UnfoldOutcome). o.a) i) (ap (λ (o : UnfoldOutcome). o.b) i)

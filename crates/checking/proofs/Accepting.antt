-- What a check that accepts says: nothing is refused, and the records lead from the start plan to the claimed one; so the trees are alike.
use Rattle.std.specs.Prelude.{Result, Ok}
use Prim.Native.Nat.{ℕ, suc, ◌+◌, ◌≤◌}
use native.Mathlib.Omega.{arith}
use mathlib.Core.Path.{◌≡◌, refl, ap, sym, ◌∙◌, subst}
use mathlib.Core.Bool.{Bool, true, false, cond}
use mathlib.Core.List.{List, [], ◌∷◌, ◌++◌}
use mathlib.Core.Option.{Option, none, some}
use lib.ListN.{length}
use lib.Dec.{eqb, ltb}
use borrow.Author.Tests.{eqb-true, ltb-false, le-ltb}
use Rattle.refusals.specs.declared.Place.TheVariants.{Nowhere, Step}
use Rattle.refusals.specs.declared.Refusal.{Refusal}
use Rattle.refusals.specs.Refusal.{refuse}
use Rattle.refusals.proofs.Judging.{none_of_both}
use Rattle.tables.specs.Tables.{Tables, actions}
use Rattle.tables.specs.Judging.{table_refusal}
use Rattle.tables.proofs.Lawful.{accepted_iff_lawful}
use Rattle.plans.specs.Term.{Term, term_of}
use Rattle.plans.specs.Judging.{plan_refusal, words_refusal}
use Rattle.plans.proofs.Options.{never}
use Rattle.plans.proofs.Accepted.{accepted-term}
use Rattle.trees.specs.Meaning.{tree, AlikePlans}
use Rattle.trees.proofs.Alike.{alike_refl, alike_trans, alike_plans}
use Rattle.laws.specs.Laws.{same_bytes}
use Rattle.laws.proofs.Tables.{Proper, lawful_proper}
use Rattle.laws.proofs.Sound.{same_list, same_itself}
use Rattle.laws.proofs.Stepping.{Reads}
use Rattle.areas.specs.Reached.{capacity}
use Rattle.checking.specs.declared.Checked.{Checked}
use Rattle.checking.specs.declared.Checked.TheVariants.{Accepted, TurnedBack}
use Rattle.checking.specs.Checking.{Replay, on_step, stop_if, if_refused, checked, unless_refused, step_of, unknown_law, left_refusal, records_refusal, rewriting_refusal, check_refusal, replay, replay_of, check_outcome}
use Rattle.rewritings.specs.Records.{Recorded, forward, backward, records_of, whole?}
use Rattle.checking.proofs.Fitting.{Fine, keeps}

-- Records that lead from one plan to another, each step made and no plan longer than c words.
pub data Trail (t : Tables) (c : ℕ) : List Recorded → List ℕ → List ℕ → Type 0 where
  arrived : {w : List ℕ} → Trail t c [] w w
  onward : {r : Recorded} {rs : List Recorded} {w z : List ℕ} (next : List ℕ) → step_of t r w ≡ some next → length next ≤ c → Trail t c rs next z → Trail t c (r ∷ rs) w z

module _ (t : Tables) (c : ℕ) where
  pub replay_trail : (claimed : List ℕ) (rs : List Recorded) (k : ℕ) (w v : List ℕ) → (replay t c claimed rs k w v).number ≡ 0 → Trail t c rs w claimed
  unfolding replay
  replay_trail claimed [] k w v e = go (same_bytes w claimed) refl e
    where
      go : (b : Bool) → same_bytes w claimed ≡ b → ◌≡◌ {A = ℕ} (cond b 0 33) 0 → Trail t c [] w claimed
      go true q e = subst (λ (z : List ℕ). Trail t c [] w z) (same_list w claimed q) arrived
      go false q e = absurd (omega arith)
  replay_trail claimed (r ∷ rs) k w v e = go (step_of t r w) refl e (λ next. replay_trail claimed rs (suc k) next w)
    where
      go : (o : Option (List ℕ)) → step_of t r w ≡ o
          → (on_step o (record { number = 31; steps = k; plan = w; before = v })
          (λ next. stop_if (ltb c (length next)) (record { number = 32; steps = k; plan = w; before = v }) (λ u. replay t c claimed rs (suc k) next w))).number ≡ 0
          → ((next : List ℕ) → (replay t c claimed rs (suc k) next w).number ≡ 0 → Trail t c rs next claimed)
          → Trail t c (r ∷ rs) w claimed
      go none q e f = absurd (omega arith)
      go (some next) q e f = pick (ltb c (length next)) refl e
        where
          pick : (b : Bool) → ltb c (length next) ≡ b
              → (stop_if b (record { number = 32; steps = k; plan = w; before = v }) (λ u. replay t c claimed rs (suc k) next w)).number ≡ 0 → Trail t c (r ∷ rs) w claimed
          pick true i e = absurd (omega arith)
          pick false i e = onward next q (ltb-false c (length next) i) (f next e)

  -- the replay of records that lead to z, where z is claimed
  abbrev pub Ends : Replay → List ℕ → ℕ → Type 0
  Ends r z k = (r.number ≡ 0) × (r.plan ≡ z) × (r.steps ≡ k)

  pub trail_replay : {rs : List Recorded} {w z : List ℕ} → Trail t c rs w z → (k : ℕ) (v : List ℕ) → Ends (replay t c z rs k w v) z (length rs + k)
  unfolding replay
  trail_replay (arrived {w}) k v = rw (same_itself w) (refl, refl, omega arith)
  trail_replay (onward {rs = rs} {w = w} {z = z} next e h tr) k v =
      rw (e, le-ltb c (length next) h)
      (let i = trail_replay tr (suc k) w in (i.0, i.1, i.2 ∙ omega arith))

  pub trail_append : {rs ss : List Recorded} {w x z : List ℕ} → Trail t c rs w x → Trail t c ss x z → Trail t c (rs ++ ss) w z
  trail_append arrived q = q
  trail_append (onward next e h p) q = onward next e h (trail_append p q)

-- the carried left sides of all records are read as plans
module _ (t : Tables) (ok : Proper t) where
  abbrev pub FineAll : List Recorded → Type 0
  FineAll [] = Unit
  FineAll (r ∷ rs) = Fine t ok r × FineAll rs

  pub trail_reads : {c : ℕ} {rs : List Recorded} {w z : List ℕ} (x : Term) → Trail t c rs w z → FineAll rs → term_of (actions t) w ≡ some x → Reads t x z
  trail_reads x arrived f i = (x, i, alike_refl (tree t x))
  trail_reads x (onward {r = r} {w = w} next e h tr) f i =
      let c = keeps t ok r w next x f.0 i e in
      let d = trail_reads c.0 tr f.1 c.1 in
      (d.0, d.1, alike_trans c.2 d.2)

pub none_refused : (o : Option Refusal) (f : Refusal) → if_refused o (some f) ≡ none → o ≡ none
none_refused none f e = refl
none_refused (some g) f e = never (sym e)

module _ (t : Tables) (ok : Proper t) where
  pub left_fine : (i : ℕ) (rs : List Recorded) → left_refusal (actions t) i rs ≡ none → FineAll t ok rs
  unfolding left_refusal
  left_fine i [] e = tt
  left_fine i (forward m ∷ rs) e = (tt, left_fine (suc i) rs e)
  left_fine i (backward m left ∷ rs) e =
      let j = (none_of_both (if_refused (words_refusal (actions t) left) (refuse 75 (Step i))) _).0 e in
      (accepted-term (actions t) ok.few left (none_refused _ _ j.0), left_fine (suc i) rs j.1)

-- what an answer that accepts tells of the replay
abbrev pub Told : Replay → ℕ → ℕ → Type 0
Told r k z = (r.number ≡ 0) × (r.steps ≡ k) × (length r.plan ≡ z)

pub accepted_told : (r : Replay) (k z : ℕ) → checked r ≡ Ok (Accepted k z) → Told r k z
accepted_told r k z e = go (eqb r.number 0) refl e
  where
    go : (b : Bool) → eqb r.number 0 ≡ b → cond {A = Result Checked Refusal} b (Ok (Accepted r.steps (length r.plan))) (Ok (TurnedBack r.number r.steps (length r.plan))) ≡ Ok (Accepted k z) → Told r k z
    go true q e = (eqb-true r.number 0 q, cc, cc)
    go false q e = let x : ◌≡◌ {A = ℕ} 0 1 = cc in absurd (omega arith)

pub accepted_case : (o : Option Refusal) (r : Replay) (a b : List ℕ) (k z : ℕ) → (unless_refused o r a b).answer ≡ Ok (Accepted k z) → (o ≡ none) × Told r k z
accepted_case none r a b k z e = (refl, accepted_told r k z e)
accepted_case (some f) r a b k z e = let x : ◌≡◌ {A = ℕ} 0 1 = cc in absurd (omega arith)

pub room : (c : ℕ) (w : List ℕ) (f : Refusal) → cond (ltb c (length w)) (some f) none ≡ none → length w ≤ c
room c w f = go (ltb c (length w)) refl
  where
    go : (b : Bool) → ltb c (length w) ≡ b → cond b (some f) none ≡ none → length w ≤ c
    go true q e = never (sym e)
    go false q e = ltb-false c (length w) q

pub all_whole : (b : Bool) (f : Refusal) → cond b none (some f) ≡ none → b ≡ true
all_whole true f e = refl
all_whole false f e = never (sym e)

-- nothing that is handed in is refused
pub record Passed (t : Tables) (start claimed rewriting : List ℕ) (c : ℕ) : Type 0 where
  pub tables-pass : table_refusal t ≡ none
  pub start_passes : words_refusal (actions t) start ≡ none
  pub claimed_passes : words_refusal (actions t) claimed ≡ none
  pub start_fits : length start ≤ c
  pub none_short : whole? rewriting ≡ true
  pub none_unknown : unknown_law 0 (records_of rewriting) ≡ none
  pub lefts_pass : left_refusal (actions t) 0 (records_of rewriting) ≡ none

module _ (t : Tables) (start claimed rewriting : List ℕ) (c : ℕ) where
  pub none_passed : check_refusal t start claimed rewriting c ≡ none → Passed t start claimed rewriting c
  unfolding check_refusal rewriting_refusal records_refusal plan_refusal
  none_passed e =
      let rs = records_of rewriting in
      let i = (none_of_both (plan_refusal t start) _).0 e in
      let j = (none_of_both (table_refusal t) (words_refusal (actions t) start)).0 i.0 in
      let k = (none_of_both (if_refused (words_refusal (actions t) claimed) (refuse 18 Nowhere)) _).0 i.1 in
      let l = (none_of_both (cond (ltb c (length start)) (refuse 15 Nowhere) none) _).0 k.1 in
      let m = (none_of_both (cond (whole? rewriting) none (refuse 16 Nowhere)) _).0 l.1 in
      let o = (none_of_both (unknown_law 0 rs) _).0 m.1 in
      record {
        tables-pass = j.0;
        start_passes = j.1;
        claimed_passes = none_refused _ _ k.0;
        start_fits = room c start _ l.0;
        none_short = all_whole (whole? rewriting) _ m.0;
        none_unknown = o.0;
        lefts_pass = o.1;
      }

  pub passed_none : Passed t start claimed rewriting c → check_refusal t start claimed rewriting c ≡ none
  unfolding check_refusal rewriting_refusal records_refusal plan_refusal
  passed_none p =
      rw (p.tables-pass, p.start_passes, p.claimed_passes, le-ltb c (length start) p.start_fits, p.none_short, p.none_unknown, p.lefts_pass)

-- where nothing is refused of a rewriting, the start plan has room, all laws are known, and all left sides are accepted plans
module _ (n : ℕ) (start claimed rewriting : List ℕ) (c : ℕ) where
  pub rewriting-accepted : rewriting_refusal n start claimed rewriting c ≡ none
      → (length start ≤ c) × (unknown_law 0 (records_of rewriting) ≡ none) × (left_refusal n 0 (records_of rewriting) ≡ none)
  unfolding rewriting_refusal records_refusal
  rewriting-accepted e =
      let k = (none_of_both (if_refused (words_refusal n claimed) (refuse 18 Nowhere)) _).0 e in
      let l = (none_of_both (cond (ltb c (length start)) (refuse 15 Nowhere) none) _).0 k.1 in
      let m = (none_of_both (cond (whole? rewriting) none (refuse 16 Nowhere)) _).0 l.1 in
      let o = (none_of_both (unknown_law 0 (records_of rewriting)) _).0 m.1 in
      (room c start _ l.0, o.0, o.1)

-- everything that acceptance says
pub record Accepts (t : Tables) (start claimed rewriting : List ℕ) (c k z : ℕ) : Type 0 where
  pub passed : Passed t start claimed rewriting c
  pub trail : Trail t c (records_of rewriting) start claimed
  pub counted : k ≡ length (records_of rewriting)
  pub sized : z ≡ length claimed

module _ (t : Tables) (start claimed rewriting a b : List ℕ) (k z : ℕ) where
  pub accepted-accepts : (check_outcome t start claimed rewriting a b).answer ≡ Ok (Accepted k z) → Accepts t start claimed rewriting (capacity a b) k z
  unfolding check_outcome replay_of
  accepted-accepts e =
      let c = capacity a b in
      let rs = records_of rewriting in
      let i = accepted_case (check_refusal t start claimed rewriting c) (replay t c claimed rs 0 start []) a b k z e in
      let tr = replay_trail t c claimed rs 0 start [] i.1.0 in
      let en = trail_replay t c tr 0 [] in
      record {
        passed = none_passed t start claimed rewriting c i.0;
        trail = tr;
        counted = omega (arith, i.1.1, en.2);
        sized = sym i.1.2 ∙ ap length en.1;
      }

  pub accepts-accepted : Accepts t start claimed rewriting (capacity a b) k z → (check_outcome t start claimed rewriting a b).answer ≡ Ok (Accepted k z)
  unfolding check_outcome replay_of
  accepts-accepted h =
      let c = capacity a b in
      let rs = records_of rewriting in
      let en = trail_replay t c h.trail 0 [] in
      rw (passed_none t start claimed rewriting c h.passed, en.0, en.1, en.2)
      (ap (λ (x : ℕ). Ok (Accepted x (length claimed))) (omega (arith, h.counted)) ∙ ap (λ (x : ℕ). Ok (Accepted k x)) (sym h.sized))

  -- "accepted still means that the trees are alike"
  pub accepted_alike : (check_outcome t start claimed rewriting a b).answer ≡ Ok (Accepted k z) → AlikePlans t start claimed
  accepted_alike e =
      let h = accepted-accepts e in
      let lawful = (accepted_iff_lawful t).0 h.passed.tables-pass in
      let ok = lawful_proper t lawful in
      let x = accepted-term (actions t) ok.few start h.passed.start_passes in
      let d = trail_reads t ok x.0 h.trail (left_fine t ok 0 (records_of rewriting) h.passed.lefts_pass) x.1 in
      alike_plans t start claimed x.0 d.0 x.1 d.1 d.2

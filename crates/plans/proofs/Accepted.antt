-- A plan is accepted exactly where its words are those of one term and are no more than 16,384; the test for basic plans then goes by that term.
use Prim.Native.Nat.{ℕ, suc, ◌-◌, ◌≤◌}
use native.Mathlib.Omega.{arith}
use mathlib.Core.Path.{◌≡◌, refl, sym, ◌∙◌, subst}
use mathlib.Core.Bool.{Bool, true, false, cond, ◌||◌}
use mathlib.Core.List.{List, [], ◌∷◌, ◌++◌}
use mathlib.Core.Logic.{◌↔◌}
use mathlib.Core.Option.{Option, none, some}
use lib.ListN.{length, length-append}
use lib.Dec.{eqb, ltb}
use borrow.Author.Tests.{ne_eqb, le-ltb, ltb-false}
use Rattle.refusals.specs.declared.Place.{Place}
use Rattle.refusals.specs.declared.Place.TheVariants.{Nowhere, Byte}
use Rattle.refusals.specs.Refusal.{number_of, refuse}
use Rattle.refusals.proofs.Judging.{none_of_both}
use Rattle.tables.specs.Tables.{Tables, actions}
use Rattle.tables.specs.Lawful.{Lawful}
use Rattle.tables.specs.Judging.{table_refusal}
use Rattle.tables.proofs.Lawful.{accepted_iff_lawful}
use Rattle.std.specs.Prelude.{Result, Ok, Err}
use Rattle.refusals.specs.declared.Reason.{Reason}
use Rattle.refusals.specs.declared.Reason.TheVariants.{UnknownWord, TooFewOperands}
use Rattle.plans.specs.declared.Word.{Word}
use Rattle.plans.specs.Word.{binary_word, unary_word, operands_of}
use Rattle.plans.specs.Term.{Term, act, un, bin, words, Over, push, read, and_then, sole, term_of}
use Rattle.plans.specs.Judging.{no_word?, on_turn, refusal_from, words_refusal, plan_refusal}
use Rattle.plans.specs.Basic.{basic?, basic_words?}
use Rattle.plans.specs.Accepted.{AcceptedPlan, BasicPlan, BasicWords}
use Rattle.plans.proofs.Options.{never}
use Rattle.plans.proofs.Words.{Spelled, is_action, is_one, is_two, is_none, spelled, operands_action, operands_unary, operands_binary}
use Rattle.plans.proofs.Reading.{term_words, term-said}
use Rattle.plans.proofs.Basic.{basic?_iff}
use Rattle.areas.specs.Area.{most_words}

-- the depth is the number of terms that wait
data Pushed : Option (List Term) → Result ℕ Reason → Type 0 where
  pushed : (s : List Term) (d : ℕ) → d ≡ length s → Pushed (some s) (Ok d)
  short : (r : Reason) → Pushed none (Err r)

-- a word that takes k operands, read where d terms wait
abbrev taken : ℕ → ℕ → Result ℕ Reason
taken k d = cond (ltb d k) (Err TooFewOperands) (Ok (suc (d - k)))

turned : (n w : ℕ) → n ≤ 31 → {k : Word} (s : List Term) → Spelled n w k → Pushed (push k s) (cond (no_word? k) (Err UnknownWord) (taken (operands_of w) (length s)))
unfolding push
turned n w few s (is_action h) = rw (operands_action w (omega arith), le-ltb (length s) 0 (omega arith)) (pushed (act w ∷ s) (suc (length s - 0)) (omega arith))
turned n w few [] (is_one o i k) = rw (← i, operands_unary o k) (short TooFewOperands)
turned n w few (x ∷ s) (is_one o i k) =
    rw (← i, operands_unary o k, le-ltb (suc (length s)) 1 (omega arith)) (pushed (un o x ∷ s) (suc (suc (length s) - 1)) (omega arith))
turned n w few [] (is_two o i) = rw (← i, operands_binary o) (short TooFewOperands)
turned n w few (y ∷ []) (is_two o i) = rw (← i, operands_binary o) (short TooFewOperands)
turned n w few (y ∷ (x ∷ s)) (is_two o i) =
    rw (← i, operands_binary o, le-ltb (suc (suc (length s))) 2 (omega arith)) (pushed (bin o x y ∷ s) (suc (suc (suc (length s)) - 2)) (omega arith))
turned n w few s is_none = short UnknownWord

refused : (k : ℕ) (p : Place) → refuse k p ≡ none → ⊥
refused k p e = let q : ◌≡◌ {A = ℕ} 0 1 = cc in omega arith

module _ (n : ℕ) (few : n ≤ 31) where
  abbrev Reads : List ℕ → List Term → Type 0
  Reads ws s = (u : Term) × (and_then (read n ws s) sole ≡ some u)

  accepted-reads : (p : ℕ) (ws : List ℕ) (s : List Term) → refusal_from n p (length s) ws ≡ none → Reads ws s
  unfolding refusal_from read
  accepted-reads p [] [] e = absurd (refused 14 Nowhere e)
  accepted-reads p [] (u ∷ []) e = (u, refl)
  accepted-reads p [] (u ∷ (v ∷ s)) e = absurd (refused 14 Nowhere (rw (ne_eqb (suc (suc (length s))) 1 (λ q. omega arith)) at e))
  accepted-reads p (w ∷ ws) s e = go (turned n w few s (spelled n w)) (λ d s' q e'. accepted-reads (suc p) ws s' (rw q at e')) e
    where
      go : {o : Option (List Term)} {t : Result ℕ Reason} → Pushed o t
          → ((d : ℕ) (s' : List Term) → d ≡ length s' → refusal_from n (suc p) d ws ≡ none → (u : Term) × (and_then (read n ws s') sole ≡ some u))
          → on_turn t (λ d. refusal_from n (suc p) d ws) (λ r. refuse (number_of r) (Byte p)) ≡ none
          → (u : Term) × (and_then (and_then o (λ s'. read n ws s')) sole ≡ some u)
      go (pushed s' d q) f e = f d s' q e
      go (short r) f e = absurd (refused (number_of r) (Byte p) e)

  reads-accepted : (p : ℕ) (ws : List ℕ) (s : List Term) → Reads ws s → refusal_from n p (length s) ws ≡ none
  unfolding refusal_from read
  reads-accepted p [] [] r = never r.1
  reads-accepted p [] (u ∷ []) r = refl
  reads-accepted p [] (u ∷ (v ∷ s)) r = never r.1
  reads-accepted p (w ∷ ws) s r = go (turned n w few s (spelled n w)) (λ d s' q r'. rw q (reads-accepted (suc p) ws s' r')) r
    where
      go : {o : Option (List Term)} {t : Result ℕ Reason} → Pushed o t
          → ((d : ℕ) (s' : List Term) → d ≡ length s' → ((u : Term) × (and_then (read n ws s') sole ≡ some u)) → refusal_from n (suc p) d ws ≡ none)
          → ((u : Term) × (and_then (and_then o (λ s'. read n ws s')) sole ≡ some u))
          → on_turn t (λ d. refusal_from n (suc p) d ws) (λ r. refuse (number_of r) (Byte p)) ≡ none
      go (pushed s' d q) f r = f d s' q r
      go (short k) f r = never r.1

  -- what 11 leaves
  judged-within : (ws : List ℕ) → words_refusal n ws ≡ none → (length ws ≤ most_words) × (refusal_from n 0 0 ws ≡ none)
  unfolding words_refusal
  judged-within ws = go (eqb (length ws) 0) (ltb most_words (length ws)) refl
    where
      go : (a b : Bool) → ltb most_words (length ws) ≡ b → cond (a || b) (refuse 11 Nowhere) (refusal_from n 0 0 ws) ≡ none → (length ws ≤ most_words) × (refusal_from n 0 0 ws ≡ none)
      go true b q e = absurd (refused 11 Nowhere e)
      go false true q e = absurd (refused 11 Nowhere e)
      go false false q e = (ltb-false most_words (length ws) q, e)

  pub accepted-term : (ws : List ℕ) → words_refusal n ws ≡ none → (u : Term) × (term_of n ws ≡ some u)
  unfolding term_of
  accepted-term ws e = accepted-reads 0 ws [] (judged-within ws e).1

  pub term-accepted : (ws : List ℕ) (u : Term) → term_of n ws ≡ some u → 1 ≤ length ws → length ws ≤ most_words → words_refusal n ws ≡ none
  unfolding words_refusal term_of
  term-accepted ws u e low high = rw (ne_eqb (length ws) 0 (λ q. omega arith), le-ltb most_words (length ws) high) (reads-accepted 0 ws [] (u, e))

pub words_some : (u : Term) → 1 ≤ length (words u)
unfolding words
words_some (act a) = omega arith
words_some (un o x) = rw (length-append (words x) (unary_word o ∷ [])) (omega arith)
words_some (bin o x y) = rw (length-append (words x) (words y ++ (binary_word o ∷ []))) (omega (arith, words_some x))

pub accepted-length : (n : ℕ) → n ≤ 31 → (ws : List ℕ) → words_refusal n ws ≡ none → length ws ≤ most_words
accepted-length n few ws e = (judged-within n few ws e).0

pub accepted_iff_term : (n : ℕ) → n ≤ 31 → (ws : List ℕ)
    → (words_refusal n ws ≡ none) ↔ ((u : Term) × (words u ≡ ws) × Over n u × (length ws ≤ most_words))
accepted_iff_term n few ws = (to, from)
  where
    to : words_refusal n ws ≡ none → (u : Term) × (words u ≡ ws) × Over n u × (length ws ≤ most_words)
    to e =
        let t = accepted-term n few ws e in
        let s = term-said n ws t.0 t.1 in
        (t.0, s.0, s.1, accepted-length n few ws e)

    from : ((u : Term) × (words u ≡ ws) × Over n u × (length ws ≤ most_words)) → words_refusal n ws ≡ none
    from r =
        let u = r.0 in
        let t : term_of n ws ≡ some u = rw (← r.1) (term_words n few u r.2) in
        let low : 1 ≤ length ws = rw (← r.1) (words_some u) in term-accepted n few ws u t low r.3

-- "judges the tables (1 to 8), then the plan (11 to 14)": both are accepted where a plan is
pub plan-accepted_iff : (t : Tables) (ws : List ℕ) → (plan_refusal t ws ≡ none) ↔ ((table_refusal t ≡ none) × (words_refusal (actions t) ws ≡ none))
unfolding plan_refusal
plan-accepted_iff t ws = none_of_both (table_refusal t) (words_refusal (actions t) ws)

pub few_actions : (t : Tables) → table_refusal t ≡ none → actions t ≤ 31
few_actions t e = ((accepted_iff_lawful t).0 e).well_formed.few_actions

-- what is refused nothing is what the definition says
pub accepted-plan : (t : Tables) (ws : List ℕ) → (plan_refusal t ws ≡ none) ↔ AcceptedPlan t ws
accepted-plan t ws = (to, from)
  where
    to : plan_refusal t ws ≡ none → AcceptedPlan t ws
    to e =
        let h = (plan-accepted_iff t ws).0 e in
        let u = (accepted_iff_term (actions t) (few_actions t h.0) ws).0 h.1 in
        record {
          lawful = (accepted_iff_lawful t).0 h.0;
          term = u.0;
          spelled = u.1;
          over = u.2;
          some_words = subst (λ l. 1 ≤ length l) u.1 (words_some u.0);
          few_words = u.3;
        }

    from : AcceptedPlan t ws → plan_refusal t ws ≡ none
    from p =
        let h = (accepted_iff_lawful t).1 p.lawful in
        (plan-accepted_iff t ws).1 (h, (accepted_iff_term (actions t) (few_actions t h) ws).1 (p.term, p.spelled, p.over, p.few_words))

-- the term of an accepted plan is the one that its words read as
pub accepted-reads_as : (t : Tables) (ws : List ℕ) (p : AcceptedPlan t ws) → term_of (actions t) ws ≡ some p.term
accepted-reads_as t ws p = rw (← p.spelled) (term_words (actions t) p.lawful.well_formed.few_actions p.term p.over)

basic_by_term : (t : Tables) (ws : List ℕ) (u : Term) → term_of (actions t) ws ≡ some u → basic_words? (actions t) ws ≡ basic? u
unfolding basic_words?
basic_by_term t ws u e = rw e

-- an accepted plan is basic exactly where the test says so
pub basic_plan : (t : Tables) (ws : List ℕ) → ((plan_refusal t ws ≡ none) × (basic_words? (actions t) ws ≡ true)) ↔ BasicPlan t ws
basic_plan t ws = (to, λ b. ((accepted-plan t ws).1 b.plan, tested b.plan ∙ (basic?_iff b.plan.term).1 b.basic))
  where
    tested : (p : AcceptedPlan t ws) → basic_words? (actions t) ws ≡ basic? p.term
    tested p = basic_by_term t ws p.term (accepted-reads_as t ws p)

    to : (plan_refusal t ws ≡ none) × (basic_words? (actions t) ws ≡ true) → BasicPlan t ws
    to e =
        let p = (accepted-plan t ws).0 e.0 in
        record { plan = p; basic = (basic?_iff p.term).0 (sym (tested p) ∙ e.1) }

-- words of a basic term are a basic plan where they are no more than a plan's
pub basic-words-plan : (t : Tables) (ws : List ℕ) → Lawful t → BasicWords (actions t) ws → length ws ≤ most_words → BasicPlan t ws
basic-words-plan t ws ok b h =
    record {
      plan = record {
        lawful = ok;
        term = b.term;
        spelled = b.spelled;
        over = b.over;
        some_words = subst (λ l. 1 ≤ length l) b.spelled (words_some b.term);
        few_words = h;
      };
      basic = b.basic;
    }

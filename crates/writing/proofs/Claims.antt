-- What the reader takes from a written file is what was written; a file that the reader takes is the one written from what it read; and so
-- a file is accepted exactly when it is the file of accepted tables and an accepted plan.
use Rattle.std.specs.Prelude.{Result, Ok, Err}
use Prim.Native.Nat.{ℕ, ◌+◌, ◌-◌, ◌/◌, ◌≤◌}
use mathlib.Core.Path.{◌≡◌, refl, sym, ◌∙◌, ap, subst}
use mathlib.Core.Bool.{Bool, true, false, ◌&&◌}
use mathlib.Core.List.{List}
use mathlib.Core.Option.{Option, none, some}
use native.Mathlib.Omega.{arith}
use lib.ListN.{length, get_or, take, replicate, get_or-eq_default}
use lib.Seq.{take_at}
use lib.Dec.{leb, ltb}
use borrow.Author.Tests.{le-leb, ltb-true}
use Rattle.refusals.specs.declared.Refusal.{Refusal}
use Rattle.refusals.specs.Refusal.{refuse_unless, refuse_if, or_else}
use Rattle.refusals.proofs.Judging.{none_of_both}
use Rattle.areas.specs.Area.{padded}
use Rattle.areas.proofs.Area.{padded_at}
use Rattle.blocks.proofs.Made.{Bytes}
use Rattle.plans.specs.Judging.{plan_refusal}
use Rattle.plans.specs.Accepted.{AcceptedPlan}
use Rattle.plans.proofs.Accepted.{accepted-plan}
use Rattle.stations.specs.File.{tables_held, plan_held, form_refusal, held_refusal, file_refusal, StationOutcome, unless_refused, station_outcome, station_report, station_reported}
use Rattle.stations.proofs.Forms.{tables-long}
use Rattle.stations.proofs.Reading.{areas-fit, station_reported as station_numbers}
use Rattle.writing.specs.Writing.{station_file, block_count, file_length, write_refusal, WriteOutcome, written_unless, write_outcome, written_report, write_reported}
use Rattle.writing.specs.Claims.{stands_at, NotWritten, by_plan, short_area, WriteClaims, StationFile, ReadClaims}
use Rattle.writing.proofs.File.{file-long, file-tables, file-plan, form_due}
use Rattle.writing.proofs.Back.{file-back}
use Rattle.writing.proofs.Positions.{tables_stand, words_stand}
use Rattle.writing.proofs.Outcomes.{write_accepted, accepted_write, short-refused, plan-refused, not_written, written_numbers}

-- The reader after the writer

module _ (t ws : List ℕ) (s : AcceptedPlan t ws) where
  abbrev long : length t ≡ 2305
  long = s.lawful.well_formed.long

  file-accepted : (a b : ℕ) → 2305 ≤ a → length ws ≤ b → file_refusal (station_file t ws) a b ≡ none
  unfolding file_refusal held_refusal
  file-accepted a b h l =
      rw (
        form_due t ws long s.some_words (omega (arith, s.few_words)),
        file-tables t ws (omega (arith, long)),
        file-plan t ws,
        le-leb 2305 a h,
        le-leb (length ws) b l,
      )
      ((accepted-plan t ws).1 s)

  -- "What the reader takes from a written file, into areas that hold it, is those tables and that plan": the answer and every byte
  pub read-written : (ta pa : List ℕ) → 2305 ≤ length ta → length ws ≤ length pa
      → ◌≡◌ {A = StationOutcome} (station_outcome (station_file t ws) ta pa)
      (record { answer = Ok (length ws); tables = padded t (length ta); plan = padded ws (length pa) })
  unfolding station_outcome
  read-written ta pa h l = rw (file-accepted (length ta) (length pa) h l, file-tables t ws (omega (arith, long)), file-plan t ws)

-- The writer after the reader

module _ (f : List ℕ) (a b : ℕ) (e : file_refusal f a b ≡ none) where
  accepted-form : form_refusal f ≡ none
  unfolding file_refusal
  accepted-form = ((none_of_both (form_refusal f) (held_refusal (tables_held f) (plan_held f) a b)).0 e).0

  accepted-held : held_refusal (tables_held f) (plan_held f) a b ≡ none
  unfolding file_refusal
  accepted-held = ((none_of_both (form_refusal f) (held_refusal (tables_held f) (plan_held f) a b)).0 e).1

  held-accepted : plan_refusal (tables_held f) (plan_held f) ≡ none
  unfolding held_refusal
  held-accepted =
      ((none_of_both (refuse_unless (leb 2305 a && leb (length (plan_held f)) b) 55) (plan_refusal (tables_held f) (plan_held f))).0 accepted-held).1

  accepted-file : Bytes f → StationFile f a b
  accepted-file bytes =
      let fits = areas-fit (tables_held f) (plan_held f) a b accepted-held in
      record {
        tables = tables_held f;
        plan = plan_held f;
        accepted = (accepted-plan (tables_held f) (plan_held f)).0 held-accepted;
        file = file-back f accepted-form bytes;
        tables_fit = fits.0;
        plan_fits = fits.1;
      }

never_read : {P : Type 0} {r : Refusal} {k : ℕ} → ◌≡◌ {A = Result ℕ Refusal} (Err r) (Ok k) → P
never_read e = let q : ◌≡◌ {A = ℕ} 0 1 = cc in absurd (omega arith)

read-size : {j k : ℕ} → ◌≡◌ {A = Result ℕ Refusal} (Ok j) (Ok k) → j ≡ k
read-size e = cc

-- what reading a file leaves, where it is read
module _ (f ta pa : List ℕ) (k : ℕ) (e : (station_outcome f ta pa).answer ≡ Ok k) where
  read-accepted : (file_refusal f (length ta) (length pa) ≡ none) × (length (plan_held f) ≡ k)
  unfolding station_outcome
  read-accepted = go (file_refusal f (length ta) (length pa)) e
    where
      go : (o : Option Refusal) → (unless_refused o (tables_held f) (plan_held f) ta pa).answer ≡ Ok k → (o ≡ none) × (length (plan_held f) ≡ k)
      go none q = (refl, read-size q)
      go (some r) q = never_read q

  abbrev form-read : form_refusal f ≡ none
  form-read = accepted-form f (length ta) (length pa) read-accepted.0

  tables-read : take 2305 (station_outcome f ta pa).tables ≡ tables_held f
  unfolding station_outcome padded
  tables-read =
      rw read-accepted.0 (take_at (tables_held f) (replicate (length ta - length (tables_held f)) 0) 2305 (tables-long f form-read))

  plan-read : take k (station_outcome f ta pa).plan ≡ plan_held f
  unfolding station_outcome padded
  plan-read = rw read-accepted.0 (take_at (plan_held f) (replicate (length pa - length (plan_held f)) 0) k read-accepted.1)

  -- "any file that the reader accepts is the one written from what it read": byte for byte, into whatever areas
  pub written_read : Bytes f → f ≡ station_file (take 2305 (station_outcome f ta pa).tables) (take k (station_outcome f ta pa).plan)
  written_read bytes = rw (tables-read, plan-read) (file-back f form-read bytes)

  pub written_again : Bytes f → (a : List ℕ) → length f ≤ length a
      → ◌≡◌ {A = WriteOutcome} (write_outcome (take 2305 (station_outcome f ta pa).tables) (take k (station_outcome f ta pa).plan) a)
      (record { answer = Ok (length f); area = padded f (length a) })
  unfolding write_outcome
  written_again bytes a h =
      let g : f ≡ station_file (tables_held f) (plan_held f) = file-back f form-read bytes in
      let l : length f ≡ file_length (length (plan_held f)) = ap length g ∙ file-long (tables_held f) (plan_held f) in
      rw (
        tables-read,
        plan-read,
        accepted_write (tables_held f) (plan_held f) (length a) (held-accepted f (length ta) (length pa) read-accepted.0) (omega arith),
        ← l,
        ← g,
      )

-- What is claimed of reading

pub read-claims : (f ta pa : List ℕ) → Bytes f → ReadClaims f ta pa (station_outcome f ta pa)
read-claims f ta pa bytes = record {
  read_exactly = (
    λ e. accepted-file f (length ta) (length pa) (read-accepted f ta pa e.0 e.1).0 bytes,
    λ s. (length s.plan, ap (λ (o : StationOutcome). o.answer) (reads s)),
  );
  reads = reads;
  rewritten = λ k e. written_read f ta pa k e bytes;
  written_again = λ k e. written_again f ta pa k e bytes;
}
  where
    reads : (s : StationFile f (length ta) (length pa)) → ◌≡◌ {A = StationOutcome} (station_outcome f ta pa)
        (record { answer = Ok (length s.plan); tables = padded s.tables (length ta); plan = padded s.plan (length pa) })
    reads s =
        ap (λ (x : List ℕ). station_outcome x ta pa) s.file
        ∙ read-written s.tables s.plan s.accepted ta pa s.tables_fit s.plan_fits

-- What is claimed of writing

never_written : {P : Type 0} {r : Refusal} {k : ℕ} → ◌≡◌ {A = Result ℕ Refusal} (Err r) (Ok k) → P
never_written e = let q : ◌≡◌ {A = ℕ} 0 1 = cc in absurd (omega arith)

written-size : {j k : ℕ} → ◌≡◌ {A = Result ℕ Refusal} (Ok j) (Ok k) → j ≡ k
written-size e = cc

some_same : {q r : Refusal} → ◌≡◌ {A = Option Refusal} (some q) (some r) → q ≡ r
some_same e = cc

never_some : {P : Type 0} {r : Refusal} → ◌≡◌ {A = Option Refusal} none (some r) → P
never_some e = let q : ◌≡◌ {A = ℕ} 0 1 = cc in absurd (omega arith)

refused_same : {q r : Refusal} → ◌≡◌ {A = Result ℕ Refusal} (Err q) (Err r) → q ≡ r
refused_same e = cc

module _ (t ws a : List ℕ) where
  written-answer : write_refusal t ws (length a) ≡ none → (write_outcome t ws a).answer ≡ Ok (file_length (length ws))
  unfolding write_outcome
  written-answer e = rw e

  -- a refusal, and nothing else, is behind the answer
  answer-refused : (r : Refusal) → (write_outcome t ws a).answer ≡ Err r → write_refusal t ws (length a) ≡ some r
  unfolding write_outcome
  answer-refused r e = go (write_refusal t ws (length a)) e
    where
      go : (o : Option Refusal) → (written_unless o (file_length (length ws)) (station_file t ws) a).answer ≡ Err r → o ≡ some r
      go none q = never_written (sym q)
      go (some x) q = ap some (refused_same q)

  -- and what the refusal is for
  refused_by : (r : Refusal) → write_refusal t ws (length a) ≡ some r → NotWritten t ws (length a) r
  unfolding write_refusal
  refused_by r e = go (plan_refusal t ws) refl (ltb (length a) (file_length (length ws))) refl e
    where
      go : (o : Option Refusal) → plan_refusal t ws ≡ o → (b : Bool) → ltb (length a) (file_length (length ws)) ≡ b → or_else o (refuse_if b 74) ≡ some r
          → NotWritten t ws (length a) r
      go (some x) p b q e = by_plan r (p ∙ e)
      go none p true q e = subst (NotWritten t ws (length a)) (some_same e) (short_area ((accepted-plan t ws).0 p) (ltb-true (length a) (file_length (length ws)) q))
      go none p false q e = never_some e

  refusal_answer : {r : Refusal} → NotWritten t ws (length a) r → write_refusal t ws (length a) ≡ some r
  refusal_answer (by_plan r e) = plan-refused t ws (length a) e
  refusal_answer (short_area p h) = short-refused t ws (length a) ((accepted-plan t ws).1 p) h

  module _ (n : ℕ) (e : (write_outcome t ws a).answer ≡ Ok n) where
    answer-written : (write_refusal t ws (length a) ≡ none) × (file_length (length ws) ≡ n)
    unfolding write_outcome
    answer-written = go (write_refusal t ws (length a)) e
      where
        go : (o : Option Refusal) → (written_unless o (file_length (length ws)) (station_file t ws) a).answer ≡ Ok n → (o ≡ none) × (file_length (length ws) ≡ n)
        go none q = (refl, written-size q)
        go (some r) q = never_written q

    accepted : AcceptedPlan t ws
    accepted = (accepted-plan t ws).0 (write_accepted t ws (length a) answer-written.0).0

    -- what stands in the area
    area-written : (write_outcome t ws a).area ≡ padded (station_file t ws) (length a)
    unfolding write_outcome
    area-written = rw answer-written.0

    file-written : take n (write_outcome t ws a).area ≡ station_file t ws
    unfolding padded
    file-written =
        rw area-written (take_at (station_file t ws) (replicate (length a - length (station_file t ws)) 0) n (file-long t ws ∙ answer-written.1))

    byte_written : (j : ℕ) → get_or (write_outcome t ws a).area j 0 ≡ get_or (station_file t ws) j 0
    byte_written j = rw area-written (padded_at (station_file t ws) (length a) j)

  pub write_claims : WriteClaims t ws a (write_outcome t ws a)
  unfolding file_length block_count
  write_claims = record {
    written_exactly = (
      λ e. (accepted e.0 e.1, (write_accepted t ws (length a) (answer-written e.0 e.1).0).1),
      λ h. (file_length (length ws), written-answer (accepted_write t ws (length a) ((accepted-plan t ws).1 h.0) h.1)),
    );
    refused_exactly = λ r. (
      λ e. refused_by r (answer-refused r e),
      λ n. sym (ap (λ (o : WriteOutcome). o.answer) (not_written t ws a (refusal_answer n))),
    );
    kept = λ r e. sym (ap (λ (o : WriteOutcome). o.area) (not_written t ws a (answer-refused r e)));
    size = λ n e. sym (answer-written n e).1 ∙ sym (file-long t ws);
    blocks = λ n e. ((length ws + 503) / 504, sym (answer-written n e).1, omega arith, omega arith);
    file = file-written;
    zeros = λ n e j h. byte_written n e j ∙ get_or-eq_default (station_file t ws) 0 {n = j} (omega (arith, file-long t ws, (answer-written n e).1));
    tables_stand = λ n e j h. byte_written n e (stands_at 0 j) ∙ tables_stand t ws j (omega (arith, (accepted n e).lawful.well_formed.long));
    words_stand = λ n e j h. byte_written n e (stands_at 5 j) ∙ words_stand t ws j h;
    read_back = λ n e ta pa h l. ap (λ (f : List ℕ). station_outcome f ta pa) (file-written n e) ∙ read-written t ws (accepted n e) ta pa h l;
  }

-- Both calls by the contracts of the code: an outcome that equals the definition's, its numbers and its claims

pub read-said : (f ta pa : List ℕ) → Bytes f → {o : StationOutcome} → o ≡ station_outcome f ta pa
    → (o ≡ station_outcome f ta pa) × ((station_report o.answer ≡ station_reported f ta pa) × ReadClaims f ta pa o)
read-said f ta pa bytes e = (
  e,
  (ap (λ (o : StationOutcome). station_report o.answer) e ∙ station_numbers f ta pa, subst (ReadClaims f ta pa) (sym e) (read-claims f ta pa bytes)),
)

pub write_said : (t ws a : List ℕ) {o : WriteOutcome} → o ≡ write_outcome t ws a
    → (o ≡ write_outcome t ws a) × ((written_report o.answer ≡ write_reported t ws (length a)) × WriteClaims t ws a o)
write_said t ws a e = (
  e,
  (ap (λ (o : WriteOutcome). written_report o.answer) e ∙ written_numbers t ws a, subst (WriteClaims t ws a) (sym e) (write_claims t ws a)),
)

-- A rewriting can be turned round: where it is accepted from one plan to another, its reverse is made of bytes and is accepted back, in areas of
-- the same lengths.
use Rattle.std.specs.Prelude.{Ok}
use Prim.Native.Nat.{ℕ, suc, ◌≤◌}
use native.Mathlib.Omega.{arith}
use mathlib.Core.Path.{◌≡◌, refl, ap, sym, ◌∙◌}
use mathlib.Core.List.{List, [], ◌∷◌}
use mathlib.Core.Option.{none, some}
use lib.ListN.{length, length-append}
use lib.Seq.{length-take-le}
use Rattle.areas.specs.Area.{most_words}
use Rattle.areas.specs.Reached.{capacity}
use Rattle.tables.specs.Tables.{Tables, actions}
use Rattle.tables.proofs.Lawful.{accepted_iff_lawful}
use Rattle.plans.specs.Term.{Term, words}
use Rattle.plans.specs.Place.{subterm}
use Rattle.plans.specs.Stack.{spell}
use Rattle.plans.specs.Judging.{words_refusal}
use Rattle.plans.proofs.Reading.{term_words}
use Rattle.plans.proofs.Place.{subterm-stack, subterm-over, cut}
use Rattle.plans.proofs.Accepted.{term-accepted, words_some}
use Rattle.laws.proofs.Stepping.{step-made}
use Rattle.laws.proofs.Tables.{Proper, lawful_proper}
use Rattle.rewritings.specs.Records.{Recorded, forward, backward, records_of}
use Rattle.rewritings.proofs.Bytes.{LawedAll, cut_again, whole_again}
use Rattle.checking.specs.declared.Checked.TheVariants.{Accepted}
use Rattle.checking.specs.Checking.{step_of, check_outcome}
use Rattle.checking.proofs.Accepting.{Trail, arrived, onward, trail_append, FineAll, left_fine, Accepts, accepted-accepts, accepts-accepted}
use Rattle.checking.proofs.Good.{Good, GoodAll, good_append, records_good, good_none}
use Rattle.demands.specs.Reversed.{turned, turned_round, reversed}
use Rattle.demands.proofs.Undoing.{undone}
use Rattle.demands.proofs.Bytes.{Bytes, trail_bytes}

-- a subplan is no longer than the plan, so the words of one are accepted
module _ (n : ℕ) (few : n ≤ 31) (w : List ℕ) (p : ℕ) (u : Term) (there : subterm n w p ≡ some u) (short : length w ≤ most_words) where
  subplan-short : length (words u) ≤ length w
  unfolding spell
  subplan-short =
      let c = subterm-stack n w p u there in
      let k = cut n w p u c.1.0 c.0 c.1.1 in
      omega (arith, simp length-append at (ap length k.0), length-take-le (suc p) w c.0, c.0)

  subplan-accepted : words_refusal n (words u) ≡ none
  subplan-accepted = term-accepted n few (words u) u (term_words n few u (subterm-over n w p u there)) (words_some u) (omega (arith, subplan-short))

pub good_lawed : (n : ℕ) (rs : List Recorded) → GoodAll n rs → LawedAll rs
good_lawed n [] g = tt
good_lawed n (forward m ∷ rs) g = (g.0, good_lawed n rs g.1)
good_lawed n (backward m left ∷ rs) g = (g.0.0, good_lawed n rs g.1)

module _ (t : Tables) (ok : Proper t) (c : ℕ) (few : c ≤ most_words) where
  abbrev n : ℕ
  n = actions t

  -- a step turned round has a known law, and what it carries is an accepted plan
  turned_good : (r : Recorded) (w next : List ℕ) → Good n r → length w ≤ c → step_of t r w ≡ some next → Good n (turned t r w next)
  unfolding turned step_of
  turned_good (forward m) w next g h e =
      let d = step-made t m.law m.place w next e in
      rw d.2 (g, subplan-accepted n ok.few w m.place d.0 d.2 (omega arith))
  turned_good (backward m left) w next g h e = g.0

  -- the records turned round lead back
  record Back (rs : List Recorded) (w z : List ℕ) (ss : List Recorded) : Type 0 where
    leads : Trail t c ss z w
    good : GoodAll n ss
    many : length ss ≡ length rs
    short-end : length z ≤ c

  turned_back : {rs : List Recorded} {w z : List ℕ} → Trail t c rs w z → FineAll t ok rs → GoodAll n rs → length w ≤ c → Back rs w z (turned_round t rs w)
  unfolding turned_round
  turned_back arrived f g h = record { leads = arrived; good = tt; many = refl; short-end = h }
  turned_back (onward {r = r} {rs = rs} {w = w} {z = z} next e i tr) f g h =
      let b = turned_back tr f.1 g.1 i in
      let back = turned t r w next in
      rw e
      record {
        leads = trail_append t c b.leads (onward w (undone t ok r w next f.0 e) h arrived);
        good = good_append n (turned_round t rs next) (back ∷ []) b.good (turned_good r w next g.0 h e, tt);
        many = length-append (turned_round t rs next) (back ∷ []) ∙ omega (arith, b.many);
        short-end = b.short-end;
      }

-- for every rewriting that is accepted there is one, of bytes, that is accepted the other way
module _ (t : Tables) (start claimed rewriting a b : List ℕ) (k z : ℕ) (e : (check_outcome t start claimed rewriting a b).answer ≡ Ok (Accepted k z)) where
  h : Accepts t start claimed rewriting (capacity a b) k z
  h = accepted-accepts t start claimed rewriting a b k z e

  ok : Proper t
  ok = lawful_proper t ((accepted_iff_lawful t).0 h.passed.tables-pass)

  few : capacity a b ≤ most_words
  unfolding capacity
  few = omega arith

  abbrev rs : List Recorded
  rs = records_of rewriting

  abbrev ss : List Recorded
  ss = turned_round t rs start

  back : Back t ok (capacity a b) few rs start claimed ss
  back =
      let p = h.passed in
      turned_back t ok (capacity a b) few h.trail (left_fine t ok 0 rs p.lefts_pass) (records_good (actions t) rewriting p.none_unknown p.lefts_pass) p.start_fits

  pub reversed_bytes : Bytes (reversed t start rewriting)
  unfolding reversed
  reversed_bytes = trail_bytes ok few back.leads back.good back.short-end

  pub reversed_accepted : (a'' b'' : List ℕ) → length a'' ≡ length a → length b'' ≡ length b
      → (check_outcome t claimed start (reversed t start rewriting) a'' b'').answer ≡ Ok (Accepted k (length start))
  unfolding capacity reversed
  reversed_accepted a'' b'' i j =
      let p = h.passed in
      let lawed = good_lawed (actions t) ss back.good in
      let again : records_of (reversed t start rewriting) ≡ ss = cut_again ss lawed in
      let same : capacity a'' b'' ≡ capacity a b = rw (i, j) in
      let free = good_none (actions t) 0 ss back.good in
      accepts-accepted t claimed start (reversed t start rewriting) a'' b'' k (length start)
      (rw same
      record {
        passed = record {
          tables-pass = p.tables-pass;
          start_passes = p.claimed_passes;
          claimed_passes = p.start_passes;
          start_fits = back.short-end;
          none_short = whole_again ss lawed;
          none_unknown = rw again free.0;
          lefts_pass = rw again free.1;
        };
        trail = rw again back.leads;
        counted = rw again (h.counted ∙ sym back.many);
        sized = refl;
      })

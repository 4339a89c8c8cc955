-- The unfolding's loop: the plan given, the records in the list, and what is left of the run, which has the outcome of the whole run.
use Rattle.std.specs.Prelude.{Option as Maybe}
use Prim.Native.Nat.{ℕ, ◌+◌, ◌-◌, ◌≤◌, ◌<◌}
use native.Mathlib.Omega.{arith}
use mathlib.Core.Path.{◌≡◌, refl, sym, ◌∙◌, ap, subst}
use mathlib.Core.List.{List, [], ◌++◌, append_assoc}
use lib.ListN.{length, take, drop, replicate, length-append, length-replicate, replicate-append-replicate}
use lib.Seq.{take_at, drop_at}
use Rattle.areas.specs.declared.StepState.{StepState}
use Rattle.areas.specs.Area.{overwrite, padded}
use Rattle.areas.specs.Storing.{no_step, before}
use Rattle.tables.specs.Tables.{Tables}
use Rattle.rewritings.specs.Moves.{Move, bytes_of}
use Rattle.rewritings.proofs.Moves.{bytes_append}
use Rattle.rewritings.specs.Runs.{run, run_of}
use Rattle.graphsteps.specs.declared.Stop.{Stop}
use Rattle.graphsteps.specs.Stopping.{end_number}
use Rattle.rounds.specs.Rounds.{Given, RoundEnd, run_over, another, RoundOf}
use Rattle.recording.specs.Recording.{Ends}
use Rattle.unfolding.specs.Made.{RunMade}
use Rattle.recording.specs.declared.Ending.TheVariants.{Over, NoNode}
use Rattle.rounds.specs.declared.Round.{Round}

abbrev zeros : ℕ → List ℕ
zeros n = replicate n 0

-- words put behind those that an area holds
pub overwrite-padded : (r v : List ℕ) (n k : ℕ) → k ≡ length r → k + length v ≤ n → overwrite (padded r n) k v ≡ padded (r ++ v) n
unfolding overwrite padded
overwrite-padded r v n k h l =
    let m = n - (length r + length v) in
    let e : n - length r ≡ length v + m = omega arith in
    let z : zeros (n - length r) ≡ zeros (length v) ++ zeros m =
    ap (λ (i : ℕ). zeros i) e ∙ sym (replicate-append-replicate (length v) m 0) in
    let a : take k (r ++ zeros (n - length r)) ≡ r = take_at r (zeros (n - length r)) k (sym h) in
    let b : drop (k + length v) (r ++ zeros (n - length r)) ≡ zeros m =
    ap (λ (i : List ℕ). drop (k + length v) (r ++ i)) z
    ∙ ap (drop (k + length v)) (sym (append_assoc r (zeros (length v)) (zeros m)))
    ∙ drop_at (r ++ zeros (length v)) (zeros m) (k + length v)
    (omega (arith, length-append r (zeros (length v)), length-replicate {A = ℕ} (length v) 0)) in
    rw (a, b, length-append r v) (sym (append_assoc r v (zeros m)))

-- the loop's invariant: ms are the steps made
pub record Going (t : Tables) (c m₀ : ℕ) (w₀ list₀ : List ℕ) (list ws old : List ℕ) (front : ℕ) (s : StepState) (allowed used : ℕ) : Type 0 where
  pub ms : List Move
  pub given : Given t c ws old front s
  pub list_is : list ≡ padded (bytes_of ms) (length list₀)
  pub list_long : length list ≡ length list₀
  pub used_is : used ≡ length (bytes_of ms)
  pub used_low : used ≤ length list
  pub count : s.steps + allowed ≡ m₀
  pub same : run t c allowed (length list - used) s.steps (drop front ws) (before s (drop front ws) old) ms ≡ run_of t w₀ m₀ (length list₀) c

pub started : (t : Tables) (c m₀ : ℕ) (list ws old : List ℕ) (front : ℕ) → list ≡ padded [] (length list) → Given t c ws old front no_step
    → Going t c m₀ (drop front ws) list list ws old front no_step m₀ 0
unfolding run_of before bytes_of
started t c m₀ list ws old front clear given =
    let q : length list - 0 ≡ length list = omega arith in
    record {
      ms = [];
      given = given;
      list_is = clear;
      list_long = refl;
      used_is = refl;
      used_low = omega arith;
      count = omega arith;
      same = rw q;
    }

-- a round was made
module _ (t : Tables) (c m₀ : ℕ) (w₀ list₀ : List ℕ) (list ws old : List ℕ) (front : ℕ) (s : StepState) (allowed used : ℕ)
    (g : Going t c m₀ w₀ list₀ list ws old front s allowed used) (ws' old' list' : List ℕ) (r : Round)
    (h : RoundOf t c allowed used ws old list ws' old' list' front s r) (long : length list' ≡ length list) where
  pub after_round : Going t c m₀ w₀ list₀ list' ws' old' r.front r.state r.allowed r.used
  after_round =
      let b = bytes_append g.ms h.ms in
      record {
        ms = g.ms ++ h.ms;
        given = h.given;
        list_is = h.records ∙ rw (g.list_is, b) (overwrite-padded (bytes_of g.ms) (bytes_of h.ms) (length list₀) used g.used_is (omega (arith, h.used_is, h.used_low, g.list_long)));
        list_long = long ∙ g.list_long;
        used_is = omega (arith, h.used_is, g.used_is, ap length b, length-append (bytes_of g.ms) (bytes_of h.ms));
        used_low = omega (arith, h.used_low, long);
        count = omega (arith, h.count, g.count);
        same = rw long (sym (h.runs g.ms) ∙ g.same);
      }

  over_of : {left room : ℕ} {stop : Maybe Stop} {w : List ℕ} → RoundEnd t c allowed left room w (Over stop) → Ends t c left room w (end_number stop)
  over_of (run_over stop e) = e

  fewer_of : {left room : ℕ} {w : List ℕ} → RoundEnd t c allowed left room w NoNode → left < allowed
  fewer_of (another l) = l

  -- another round follows
  pub fewer : r.ending ≡ NoNode → r.allowed < allowed
  fewer e = fewer_of (subst (RoundEnd t c allowed r.allowed (length list - r.used) (drop r.front ws')) e h.ended)

  -- the run ends with it
  pub over : (stop : Maybe Stop) → r.ending ≡ Over stop
      → RunMade t c (run_of t w₀ m₀ (length list₀) c) ws' old' list₀ list' (record { stop = stop; front = r.front; state = r.state })
  over stop e =
      let w = drop r.front ws' in
      let n = after_round in
      let z = over_of (subst (RoundEnd t c allowed r.allowed (length list - r.used) w) e h.ended) in
      let q : length list - r.used ≡ length list' - r.used = omega (arith, long) in
      let last : run t c r.allowed (length list' - r.used) r.state.steps w (before r.state w old') n.ms
      ≡ record { number = end_number stop; steps = r.state.steps; plan = w; before = before r.state w old'; moves = n.ms } =
      rw (← q) (z r.state.steps (before r.state w old') n.ms) in
      let outcome = sym n.same ∙ last in
      rw outcome (record { given = n.given; number = refl; steps = refl; plan = refl; prior = refl; records = n.list_is })

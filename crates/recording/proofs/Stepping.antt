-- The steps made on a graph: the loop's invariant, that one entry more keeps it, and how the loop ends.
use Rattle.std.specs.Prelude.{Some, None}
use Prim.Native.Nat.{ℕ, ◌+◌, ◌-◌, ◌≤◌, ◌<◌}
use native.Mathlib.Omega.{arith}
use native.Mathlib.Numerals.{add-one}
use mathlib.Core.Path.{◌≡◌, refl, ◌∙◌, ap, subst}
use mathlib.Core.Bool.{not}
use mathlib.Core.List.{List, [], ◌∷◌, ◌++◌, append_assoc, append-nil}
use mathlib.Core.Option.{none}
use lib.ListN.{length, length-append, length-drop}
use Rattle.areas.specs.declared.StepState.{StepState}
use Rattle.areas.specs.Area.{overwrite, most_words}
use Rattle.areas.specs.Reached.{even?}
use Rattle.areas.specs.Storing.{stepped as state_after}
use Rattle.areas.proofs.Area.{overwrite-two}
use Rattle.tables.specs.Tables.{Tables, actions}
use Rattle.plans.specs.Stack.{spell}
use Rattle.rewritings.specs.Moves.{Move, record_of, bytes_of}
use Rattle.rewritings.specs.Choice.{next_step}
use Rattle.rewritings.proofs.Moves.{bytes_last}
use Rattle.graph.specs.Graph.{Graph, ToRead, read_none, read_more}
use Rattle.graphsteps.specs.declared.Reading.{Reading}
use Rattle.graphsteps.specs.declared.Cut.{Cut}
use Rattle.graphsteps.specs.declared.Stop.{Stop}
use Rattle.graphsteps.specs.Stopping.{stop_number}
use Rattle.graphsteps.specs.declared.NextEntry.{NextEntry}
use Rattle.graphsteps.specs.declared.NextEntry.TheVariants.{Read, Step, Stopped, NoNode}
use Rattle.graphsteps.specs.Holding.{Arrays, in_use, Fits, Holding, SomePlan, CutOf, NotMade, Advanced, went_on, stepped, not_made, no_node, AdvancedOn}
use Rattle.rewritings.specs.Runs.{run}
use Rattle.recording.specs.Recording.{Counted, EndOf, run_ends, MadeOf, none_made, some_made, MadeOn}
use Rattle.recording.specs.Recording as recording
use Rattle.recording.specs.declared.Ending.{Ending}
use Rattle.recording.specs.declared.Ending.TheVariants.{Over, NoNode as EndsNoNode}
use Rattle.recording.specs.declared.StepsMade.{StepsMade}
use Rattle.recording.proofs.Runs.{run_nowhere, run-goes, stop-ends}

-- what the loop answers where it ends
abbrev pub reached : Reading → Cut → StepState → ℕ → ℕ → Ending → StepsMade
reached p k s left end e =
    record { reading = p; cut = k; state = s; allowed = left; used = end; ending = e }

-- the steps made so far: as `MadeOf` has them, without how they end
pub data SoFar (t : Tables) (c allowed used : ℕ) (list list' : List ℕ) (m : Arrays) (p₀ : Reading) (w : List ℕ) (s₀ : StepState) (p : Reading) (k : Cut) (s : StepState) (left end : ℕ) : Type 0 where
  none_yet : s ≡ s₀ → left ≡ allowed → end ≡ used → list' ≡ list → Fits m p → Holding t c m p w → p.count + p₀.rest ≤ p₀.count + p.rest
      → SoFar t c allowed used list list' m p₀ w s₀ p k s left end
  some_yet : (v' w' : List ℕ) (ms : List Move) → Counted s₀ allowed s left k → list' ≡ overwrite list used (bytes_of ms) → end ≡ used + length (bytes_of ms) → end ≤ length list
      → Fits m p → Holding t c m p w' → CutOf (actions t) (in_use m p.count) k v' w' → length v' ≤ c
      → ((v : List ℕ) (r₀ : List Move) → run t c allowed (length list - used) s₀.steps w v r₀ ≡ run t c left (length list - end) s.steps w' v' (r₀ ++ ms))
      → SoFar t c allowed used list list' m p₀ w s₀ p k s left end

-- the loop's invariant: the arrays hold a plan, and from whatever plan they held at first the run comes to the plan held now
pub record Going (t : Tables) (c allowed used : ℕ) (list₀ : List ℕ) (m₀ : Arrays) (p₀ : Reading) (s₀ : StepState) (list : List ℕ) (m : Arrays) (p : Reading) (k : Cut) (s : StepState) (left end : ℕ) : Type 0 where
  pub fits : Fits m p
  pub plan : SomePlan t c m p
  pub list_long : length list ≡ length list₀
  pub end_low : end ≤ length list
  pub count : s.steps + left ≡ s₀.steps + allowed
  pub so_far : (w : List ℕ) → Holding t c m₀ p₀ w → SoFar t c allowed used list₀ list m p₀ w s₀ p k s left end

-- no step is made yet
pub starts : {t : Tables} {c allowed used : ℕ} {list : List ℕ} {m : Arrays} {p : Reading} {k : Cut} {s : StepState} → used ≤ length list → Fits m p → SomePlan t c m p
    → Going t c allowed used list m p s list m p k s allowed used
starts low fits plan =
    record { fits = fits; plan = plan; list_long = refl; end_low = low; count = refl; so_far = λ w h. none_yet refl refl refl refl fits h (omega arith) }

-- the words read are at most those of the plan
pub read_low : {t : Tables} {c : ℕ} {m : Arrays} {p : Reading} → SomePlan t c m p → p.read ≤ c
read_low s =
    let h = s.holding in
    let e : length s.some_plan ≡ length (spell h.terms) + length h.behind = rw h.plan (length-append (spell h.terms) h.behind) in
    omega (arith, h.read_is, h.short)

-- an entry was read
pub record WentOn (t : Tables) (c : ℕ) (m m' : Arrays) (p p' : Reading) (w : List ℕ) : Type 0 where
  pub fits : Fits m' p'
  pub holding : Holding t c m' p' w
  pub rest_more : p'.rest ≡ p.rest + 1
  pub count-more : p'.count ≤ p.count + 1
  pub carried : (k : Cut) (v : List ℕ) → CutOf (actions t) (in_use m p.count) k v w → CutOf (actions t) (in_use m' p'.count) k v w

-- a step was made: what it comes to in a run
pub record Stepped (t : Tables) (c left room : ℕ) (m' : Arrays) (p : Reading) (law : ℕ) (p' : Reading) (k : Cut) (w : List ℕ) : Type 0 where
  pub w' : List ℕ
  pub some_left : 1 ≤ left
  pub some_room : 3 ≤ room
  pub fits : Fits m' p'
  pub holding : Holding t c m' p' w'
  pub cut : CutOf (actions t) (in_use m' p'.count) k w w'
  pub runs : (i : ℕ) (v : List ℕ) (r : List Move)
      → run t c left room i w v r ≡ run t c (left - 1) (room - 3) (i + 1) w' w (r ++ (record { law = law; place = p.read } ∷ []))

-- a step was not made, or no node is left: the arrays are as they were
pub record Stays (t : Tables) (c left room : ℕ) (m m' : Arrays) (p : Reading) (stop : Stop) (w : List ℕ) : Type 0 where
  pub same : m' ≡ m
  pub why : NotMade t c left room w (stop_number stop)

pub record Full (m m' : Arrays) (p : Reading) : Type 0 where
  pub same : m' ≡ m
  pub all : p.count ≡ length m.own

-- one of the four, by what was answered
module _ {t : Tables} {c left room : ℕ} {m m' : Arrays} {p : Reading} where
  read_of : {p' : Reading} {w : List ℕ} → Advanced t c left room m m' p w (Read p') → WentOn t c m m' p p' w
  read_of (went_on _ fits holding rest_more count-more carried) =
      record { fits = fits; holding = holding; rest_more = rest_more; count-more = count-more; carried = carried }

  step_of : {law : ℕ} {p' : Reading} {k : Cut} {w : List ℕ} → Advanced t c left room m m' p w (Step law p' k) → Stepped t c left room m' p law p' k w
  step_of {w = w} (stepped _ _ _ w' a b l e fits holding cut) =
      record {
        w' = w';
        some_left = a;
        some_room = b;
        fits = fits;
        holding = holding;
        cut = cut;
        runs = λ i v r. rw (add-one i) (run-goes t c w _ e left room a b holding.short i v r);
      }

  stop_of : {why : Stop} {w : List ℕ} → Advanced t c left room m m' p w (Stopped why) → Stays t c left room m m' p why w
  stop_of (not_made _ why e) = record { same = e; why = why }

  full_of : {w : List ℕ} → Advanced t c left room m m' p w NoNode → Full m m' p
  full_of (no_node all e) = record { same = e; all = all }

  module _ {o : NextEntry} (a : AdvancedOn t c left room m m' p o) where
    pub on : {p' : Reading} → o ≡ Read p' → (w : List ℕ) → Holding t c m p w → WentOn t c m m' p p' w
    on q w h = read_of (subst (Advanced t c left room m m' p w) q (a.advanced w h))

    pub step : {law : ℕ} {p' : Reading} {k : Cut} → o ≡ Step law p' k → (w : List ℕ) → Holding t c m p w → Stepped t c left room m' p law p' k w
    step q w h = step_of (subst (Advanced t c left room m m' p w) q (a.advanced w h))

    pub stop : {why : Stop} → o ≡ Stopped why → (w : List ℕ) → Holding t c m p w → Stays t c left room m m' p why w
    stop q w h = stop_of (subst (Advanced t c left room m m' p w) q (a.advanced w h))

    pub full : o ≡ NoNode → SomePlan t c m p → Full m m' p
    full q s = full_of (subst (Advanced t c left room m m' p s.some_plan) q (a.advanced s.some_plan s.holding))

-- a step more turns the parity round
even_next : (s : StepState) → s.even ≡ even? s.steps → not s.even ≡ even? (s.steps + 1)
unfolding even?
even_next s e = rw (add-one s.steps, e)

module _ {t : Tables} {c allowed used : ℕ} {list₀ : List ℕ} {m₀ : Arrays} {p₀ : Reading} {s₀ : StepState} {list : List ℕ} {m : Arrays} {p : Reading} {k : Cut} {s : StepState} {left end : ℕ}
    {m' : Arrays} {p' : Reading} (g : Going t c allowed used list₀ m₀ p₀ s₀ list m p k s left end) where
  -- an entry was read: the plans are the same
  read-on : ((w : List ℕ) → Holding t c m p w → WentOn t c m m' p p' w) → (w : List ℕ) → SoFar t c allowed used list₀ list m p₀ w s₀ p k s left end
      → SoFar t c allowed used list₀ list m' p₀ w s₀ p' k s left end
  read-on f w (none_yet e a u q fits h l) = let n = f w h in none_yet e a u q n.fits n.holding (omega (arith, n.rest_more, n.count-more))
  read-on f w (some_yet v' w' ms n q u low fits h cut short runs) =
      some_yet v' w' ms n q u low (f w' h).fits (f w' h).holding ((f w' h).carried k v' cut) short runs

  pub goes_on : ((w : List ℕ) → Holding t c m p w → WentOn t c m m' p p' w) → Going t c allowed used list₀ m₀ p₀ s₀ list m' p' k s left end
  goes_on f =
      let o = g.plan in
      let n = f o.some_plan o.holding in
      record {
        fits = n.fits;
        plan = record { some_plan = o.some_plan; holding = n.holding };
        list_long = g.list_long;
        end_low = g.end_low;
        count = g.count;
        so_far = λ w h. read-on f w (g.so_far w h);
      }

  module _ {law : ℕ} {k' : Cut} {list' : List ℕ} (f : (w : List ℕ) → Holding t c m p w → Stepped t c left (length list - end) m' p law p' k' w)
      (put : list' ≡ overwrite list end (record_of law p.read)) (long : length list' ≡ length list) where
    -- a step was made: its record stands behind those before it
    abbrev made : Move
    made = record { law = law; place = p.read }

    abbrev rec : List ℕ
    rec = record_of law p.read

    three : length rec ≡ 3
    unfolding record_of
    three = refl

    alone : bytes_of (made ∷ []) ≡ rec
    unfolding bytes_of
    alone = append-nil rec

    -- and it is counted
    abbrev next : StepState
    next = state_after s k'.at k'.old k'.new

    counted : 1 ≤ left → left ≤ allowed → (s₀.even ≡ even? s₀.steps → s.even ≡ even? s.steps) → Counted s₀ allowed next (left - 1) k'
    counted some low parity =
        record { fewer = omega arith; count = omega (arith, g.count); parity = λ e. even_next s (parity e); at_is = refl; old_is = refl; new_is = refl }

    -- the step goes on with the run of those before it
    more : (w : List ℕ) (h : Holding t c m p w) (v : List ℕ) (r : List Move)
        → run t c left (length list₀ - end) s.steps w v r ≡ run t c (left - 1) (length list₀ - (end + 3)) (s.steps + 1) (f w h).w' w (r ++ (made ∷ []))
    more w h v r =
        let q : length list₀ - end ≡ length list - end = omega (arith, g.list_long) in
        let q' : length list₀ - (end + 3) ≡ length list - end - 3 = omega (arith, g.list_long) in
        rw (q, q') ((f w h).runs s.steps v r)

    stepped-on : (w : List ℕ) → SoFar t c allowed used list₀ list m p₀ w s₀ p k s left end
        → SoFar t c allowed used list₀ list' m' p₀ w s₀ p' k' next (left - 1) (end + 3)
    stepped-on w (none_yet e a u q fits h l) =
        let n = f w h in
        let room : end + 3 ≤ length list₀ = omega (arith, n.some_room, g.list_long, g.end_low) in
        some_yet w n.w' (made ∷ []) (counted n.some_left (omega arith) (λ i. rw e i)) (rw (put, q, u, alone)) (omega (arith, three, ap length alone)) room n.fits n.holding n.cut h.short
        (λ v r₀. rw (← e, ← a, ← u) (more w h v r₀))
    stepped-on w (some_yet v' w' ms i q u low fits h cut short runs) =
        let n = f w' h in
        let room : end + 3 ≤ length list₀ = omega (arith, n.some_room, g.list_long, g.end_low) in
        let b : bytes_of (ms ++ (made ∷ [])) ≡ bytes_of ms ++ rec = bytes_last ms made in
        some_yet w' n.w' (ms ++ (made ∷ [])) (counted n.some_left (omega (arith, i.fewer)) i.parity)
        (put ∙ rw (q, u, b) (overwrite-two list₀ used (bytes_of ms) rec (omega (arith, three)))) (omega (arith, three, ap length b, length-append (bytes_of ms) rec)) room n.fits n.holding n.cut h.short
        (λ v r₀. runs v r₀ ∙ more w' h v' (r₀ ++ ms) ∙ rw (append_assoc r₀ ms (made ∷ [])))

    pub goes_further : Going t c allowed used list₀ m₀ p₀ s₀ list' m' p' k' next (left - 1) (end + 3)
    goes_further =
        let o = g.plan in
        let n = f o.some_plan o.holding in
        record {
          fits = n.fits;
          plan = record { some_plan = n.w'; holding = n.holding };
          list_long = long ∙ g.list_long;
          end_low = omega (arith, n.some_room, g.end_low);
          count = omega (arith, n.some_left, g.count);
          so_far = λ w h. stepped-on w (g.so_far w h);
        }

-- How the loop ends ---------------------------------------------------------------------------------------------------------------------------

module _ {t : Tables} {c allowed used : ℕ} {list₀ : List ℕ} {m₀ : Arrays} {p₀ : Reading} {s₀ : StepState} {list : List ℕ} {m : Arrays} {p : Reading} {k : Cut} {s : StepState} {left end : ℕ}
    (g : Going t c allowed used list₀ m₀ p₀ s₀ list m p k s left end) where
  -- so that the room left is that of the list at first
  same_room : length list₀ - end ≡ length list - end
  same_room = omega (arith, g.list_long)

  ended : (e : Ending) → ((w : List ℕ) → Holding t c m p w → EndOf t c left (length list₀ - end) m p w e) → (w : List ℕ)
      → SoFar t c allowed used list₀ list m p₀ w s₀ p k s left end → MadeOf t c allowed used list₀ list m p₀ w s₀ (reached p k s left end e)
  ended e f w (none_yet i a u q fits h l) = none_made i a u q fits h l (rw (a, u) at (f w h))
  ended e f w (some_yet v' w' ms i q u low fits h cut short runs) = some_made v' w' ms i q u low fits h cut short runs (f w' h)

  ends : (e : Ending) → ((w : List ℕ) → Holding t c m p w → EndOf t c left (length list₀ - end) m p w e) → {m' : Arrays} → m' ≡ m
      → MadeOn t c allowed used list₀ list m₀ m' p₀ s₀ (reached p k s left end e)
  ends e f q = rw q (record { made = λ w h. ended e f w (g.so_far w h) })

  -- the next step is not made
  pub stops : {m' : Arrays} {why : Stop} → ((w : List ℕ) → Holding t c m p w → Stays t c left (length list - end) m m' p why w)
      → MadeOn t c allowed used list₀ list m₀ m' p₀ s₀ (reached p k s left end (Over (Some why)))
  stops {why = why} f =
      ends (Over (Some why)) (λ w h. run_ends (Some why) (rw same_room (stop-ends t c left (length list - end) w (f w h).why))) (f g.plan.some_plan g.plan.holding).same

  -- no node is left
  pub fills : {m' : Arrays} → Full m m' p → p.rest < most_words → MadeOn t c allowed used list₀ list m₀ m' p₀ s₀ (reached p k s left end EndsNoNode)
  fills f l = ends EndsNoNode (λ w h. recording.no_node f.all l) f.same

  -- no entry is left to read: then no law fits in the plan
  none_behind : {n : ℕ} {d : Graph} {vs ws : List ℕ} → ToRead n d vs ws → length vs ≡ 0 → ws ≡ []
  none_behind read_none e = refl
  none_behind (read_more {vs} h i) e = absurd (omega arith)

  all_read : most_words ≤ p.rest → (w : List ℕ) → Holding t c m p w → next_step t w ≡ none
  all_read l w h =
      let z = none_behind h.to_read (omega (arith, length-drop p.rest m.todo, g.fits.todo_long)) in
      rw (h.plan, z, append-nil (spell h.terms)) h.quiet

  pub finishes : most_words ≤ p.rest → MadeOn t c allowed used list₀ list m₀ m p₀ s₀ (reached p k s left end (Over None))
  finishes l = ends (Over None) (λ w h. run_ends None (run_nowhere t c left (length list₀ - end) w (all_read l w h))) refl

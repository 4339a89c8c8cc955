-- The loop that matches a left side's words, and that each letter then reaches over a part of the plan.
use Prim.Native.Nat.{ℕ, ◌+◌, ◌-◌, ◌≤◌, ◌<◌}
use mathlib.Core.Path.{◌≡◌, refl, ◌∙◌}
use mathlib.Core.Bool.{Bool, true, false, cond}
use mathlib.Core.List.{List, [], ◌∷◌}
use native.Mathlib.Omega.{arith}
use native.Mathlib.Numerals.{add-one}
use lib.ListN.{length, get_or, set, drop, length-set, drop_of_length-le}
use lib.Seq.{drop-cons, get_or-set_same, get_or-set_other}
use lib.Dec.{eqb, leb, ltb}
use borrow.Author.Tests.{ltb-true, eqb-true, eqb-false}
use Rattle.plans.specs.Start.{start_of}
use Rattle.matching.specs.declared.Letters.{Letters}
use Rattle.matching.specs.Left.{next_of, slot_of, match_words, on_move, Matched, MatchFound, missed, found}
use Rattle.matching.specs.Right.{Reaches}
use Rattle.std.specs.Prelude.{Option as Maybe}
use Rattle.std.specs.Prelude.{Some, None}
use Rattle.plans.proofs.Start.{start-below}

data Below (e : ℕ) : Maybe ℕ → Type 0 where
  stays : {s : ℕ} → s ≤ e → Below e (Some s)
  fails : Below e None

either : {e : ℕ} (b : Bool) {m m' : Maybe ℕ} → Below e m → Below e m' → Below e (cond b m m')
either true h h' = h
either false h h' = h'

next-within : (n : ℕ) (plan : List ℕ) (w e : ℕ) → Below e (next_of n plan w e)
unfolding next_of
next-within n plan w e =
    let h : Below e (Some (e - 1)) = stays {s = e - 1} (omega arith) in
    let s : Below e (Some (start_of n plan (e - 1))) = stays {s = start_of n plan (e - 1)} (omega (arith, start-below n plan (e - 1))) in
    either (eqb e 0) fails
    (either (ltb w 96) (either (eqb (get_or plan (e - 1) 0) w) h fails)
    (either (ltb w 99) s
    (either (ltb w 101) (either (leb (get_or plan (e - 1) 0) n) h fails)
    (either (ltb (get_or plan (e - 1) 0) 80) fails (either (ltb (get_or plan (e - 1) 0) 88) h fails)))))

below-to : {e s : ℕ} {m : Maybe ℕ} → Below e m → m ≡ Some s → s ≤ e
below-to {s} (stays {s = s'} h) q = let r : s' ≡ s = cc in omega arith
below-to fails q = let r : ◌≡◌ {A = ℕ} 0 1 = cc in absurd (omega arith)

pub next-below : (n : ℕ) (plan : List ℕ) (w e s : ℕ) → next_of n plan w e ≡ Some s → s ≤ e
next-below n plan w e s q = below-to (next-within n plan w e) q

pub slot_small : (w : ℕ) → slot_of w < 7
unfolding slot_of
slot_small w = go (ltb w 96) (ltb w 102) refl
  where
    go : (b c : Bool) → ltb w 102 ≡ c → cond b 6 (cond c (w - 96) 6) < 7
    go true c q = omega arith
    go false true q = omega (arith, ltb-true w 102 q)
    go false false q = omega arith

module _ (n : ℕ) (plan pattern : List ℕ) (i e : ℕ) (f g : List ℕ) where
  pub match_on : (s : ℕ) → i < length pattern → next_of n plan (get_or pattern i 0) e ≡ Some s
      → match_words n plan (drop i pattern) e f g ≡ match_words n plan (drop (i + 1) pattern) s (set f (slot_of (get_or pattern i 0)) s) (set g (slot_of (get_or pattern i 0)) e)
  unfolding match_words
  match_on s h q = rw (add-one i, drop-cons pattern i 0, q)

  pub match_stops : i < length pattern → next_of n plan (get_or pattern i 0) e ≡ None
      → match_words n plan (drop i pattern) e f g ≡ record { ok = false; from = f; to = g }
  unfolding match_words
  match_stops h q = rw (drop-cons pattern i 0, q)

  pub match_ends : length pattern ≤ i → match_words n plan (drop i pattern) e f g ≡ record { ok = true; from = f; to = g }
  unfolding match_words
  match_ends h = rw (drop_of_length-le pattern h)

-- What is matched reaches over parts of the plan.
module _ (plan : List ℕ) where
  reaches_set : (f g : List ℕ) (k s e : ℕ) → Reaches plan f g → s ≤ e → e ≤ length plan → Reaches plan (set f k s) (set g k e)
  reaches_set f g k s e r h l =
      record {
        from_long = length-set f k s ∙ r.from_long;
        to_long = length-set g k e ∙ r.to_long;
        order = λ j m. ord j m (eqb j k) refl;
        within = λ j m. wit j m (eqb j k) refl;
      }
    where
      ord : (j : ℕ) → j < 6 → (c : Bool) → eqb j k ≡ c → get_or (set f k s) j 0 ≤ get_or (set g k e) j 0
      ord j m true q =
          rw (eqb-true j k q, get_or-set_same f k s 0 (omega (arith, r.from_long, eqb-true j k q)), get_or-set_same g k e 0 (omega (arith, r.to_long, eqb-true j k q))) h
      ord j m false q = rw (get_or-set_other f k j s 0 (eqb-false j k q), get_or-set_other g k j e 0 (eqb-false j k q)) (r.order j m)

      wit : (j : ℕ) → j < 6 → (c : Bool) → eqb j k ≡ c → get_or (set g k e) j 0 ≤ length plan
      wit j m true q = rw (eqb-true j k q, get_or-set_same g k e 0 (omega (arith, r.to_long, eqb-true j k q))) l
      wit j m false q = rw (get_or-set_other g k j e 0 (eqb-false j k q)) (r.within j m)

  pub match_reaches : (n : ℕ) (ws : List ℕ) (e : ℕ) (f g : List ℕ) → e ≤ length plan → Reaches plan f g
      → Reaches plan (match_words n plan ws e f g).from (match_words n plan ws e f g).to
  unfolding match_words
  match_reaches n [] e f g l r = r
  match_reaches n (w ∷ ws) e f g l r = go (next_of n plan w e) refl (λ s h. match_reaches n ws s (set f (slot_of w) s) (set g (slot_of w) e) (omega arith) (reaches_set f g (slot_of w) s e r h l))
    where
      go : (m : Maybe ℕ) → next_of n plan w e ≡ m
          → ((s : ℕ) → s ≤ e → Reaches plan (match_words n plan ws s (set f (slot_of w) s) (set g (slot_of w) e)).from (match_words n plan ws s (set f (slot_of w) s) (set g (slot_of w) e)).to)
          → Reaches plan (on_move m (record { ok = false; from = f; to = g }) (λ s. match_words n plan ws s (set f (slot_of w) s) (set g (slot_of w) e))).from
          (on_move m (record { ok = false; from = f; to = g }) (λ s. match_words n plan ws s (set f (slot_of w) s) (set g (slot_of w) e))).to
      go (Some s) q k = k s (next-below n plan w e s q)
      go None q k = r

-- what matching answers, read off
pub missed_of : {m : Matched} {r : Maybe Letters} → MatchFound m r → r ≡ None → m.ok ≡ false
missed_of (missed e) q = e
missed_of (found l e) q = cc

pub found_of : {m : Matched} {r : Maybe Letters} (l : Letters) → MatchFound m r → r ≡ Some l → m ≡ record { ok = true; from = l.from; to = l.to }
found_of l (missed e) q = cc
found_of l (found l' e) q = let same : l' ≡ l = cc in rw (← same) e

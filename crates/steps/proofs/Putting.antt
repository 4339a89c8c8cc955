-- Words put in at the last word read: room made for them, how long the plan then is, and the answer, from what the copies leave.
use Prim.Native.Nat.{ℕ, ◌+◌, ◌-◌, ◌*◌, ◌≤◌}
use native.Mathlib.Omega.{arith}
use mathlib.Core.Path.{◌≡◌, refl, sym, ◌∙◌, subst}
use mathlib.Core.List.{List}
use Rattle.std.specs.Prelude.{Some, None, Option as Maybe}
use lib.ListN.{length, take, drop, length-drop}
use lib.Seq.{length-take-le}
use Rattle.areas.specs.Area.{overwrite, most_words}
use Rattle.areas.proofs.Area.{take-overwrite}
use Rattle.tables.specs.Tables.{Tables}
use Rattle.laws.specs.Laws.{highest_law}
use Rattle.matching.specs.Right.{law_size, Reaches}
use Rattle.matching.proofs.Sides.{spelled_law-length, law_size_bound}
use Rattle.buffer.specs.declared.State.{State}
use Rattle.steps.specs.Working.{Working, start_here, words_here, side_here, next_with, stepped_here, Subplan, Room, no_room, room, Put, too_long, put_in}
use Rattle.steps.proofs.Making.{read-long, start-before, next_long}

-- room made: the words of the subplan are kept
module _ (c size : ℕ) (left starts old : List ℕ) (s : State) (h : Subplan left starts s) where
  gone_long : length (words_here left starts s) ≡ s.read - start_here starts s
  gone_long =
      length-take-le (s.read - start_here starts s) (drop (start_here starts s) left)
      (omega (arith, length-drop (start_here starts s) left, h.begins, h.apart, h.rest_in, h.left_long))

  pub now_room : (old' : List ℕ) (r : State) → start_here starts s + size + (most_words - s.rest) ≤ c → length old ≡ most_words
      → old' ≡ overwrite old 0 (words_here left starts s) → r ≡ stepped_here starts size s → Room c size left starts old old' s (Some r)
  now_room old' r short long kept stepping =
      let e : 0 + length (words_here left starts s) ≡ s.read - start_here starts s = omega (arith, gone_long) in
      rw stepping
      (room short
      (rw kept
      (subst (λ (k : ℕ). take k (overwrite old 0 (words_here left starts s)) ≡ words_here left starts s) e
      (take-overwrite old 0 (words_here left starts s) (omega (arith, gone_long, h.apart, h.rest_in, h.begins))))))

module _ (t : Tables) (left starts right : List ℕ) (s : State) (some_read : 1 ≤ s.read) (work : Working t left starts right s) where
  pub subplan-here : Subplan left starts s
  subplan-here =
      record {
        some_read = some_read;
        apart = work.held.apart;
        rest_in = work.held.rest_in;
        left_long = work.held.left_long;
        starts_long = work.held.starts_long;
        begins = start-before t left starts right s work some_read;
      }

  -- words put into the room made for them
  module _ (c : ℕ) (side old : List ℕ) (size : ℕ) (is_size : length side ≡ size) where
    next-size : length (next_with side left starts right s) ≡ start_here starts s + size + (most_words - s.rest)
    next-size = omega (arith, next_long t left starts right s work side some_read)

    pub not_put : (old' : List ℕ) (r : Maybe State) → Room c size left starts old old' s r → r ≡ None → Put c side left starts right old right old' s None
    not_put old' r h e = go (subst (Room c size left starts old old' s) e h)
      where
        go : Room c size left starts old old' s None → Put c side left starts right old right old' s None
        go (no_room l k) = too_long (omega (arith, next-size)) refl k

    pub now_put : (right' old' : List ℕ) (r : Maybe State) (s' : State) → Room c size left starts old old' s r → r ≡ Some s'
        → right' ≡ overwrite right s'.rest side → Put c side left starts right old right' old' s (Some s')
    now_put right' old' r s' h e written = go (subst (Room c size left starts old old' s) e h) written
      where
        go : {s' : State} → Room c size left starts old old' s (Some s') → right' ≡ overwrite right s'.rest side → Put c side left starts right old right' old' s (Some s')
        go (room l k) w = rw (← is_size) (put_in (omega (arith, next-size)) (rw is_size w) k)

    -- where they are put
    pub front : (old' : List ℕ) (r : Maybe State) (s' : State) → Room c size left starts old old' s r → r ≡ Some s'
        → (s'.rest ≡ s.rest - size) × (start_here starts s + size + (most_words - s.rest) ≤ c)
    front old' r s' h e = go (subst (Room c size left starts old old' s) e h)
      where
        go : {s' : State} → Room c size left starts old old' s (Some s') → (s'.rest ≡ s.rest - size) × (start_here starts s + size + (most_words - s.rest) ≤ c)
        go (room l k) = (refl, l)

-- a law's right side, by its letters
module _ (t : Tables) (law : ℕ) (left starts right f g : List ℕ) (s : State) (work : Working t left starts right s) (reach : Reaches (take s.read left) f g) where
  pub side-size : (size : ℕ) → size ≡ law_size law f g → length (side_here t law left f g s) ≡ size
  side-size size is_size = spelled_law-length t law (take s.read left) f g reach ∙ sym is_size

  pub size_bound : (size : ℕ) → size ≡ law_size law f g → 1 ≤ law → law ≤ highest_law → size ≤ 11 * most_words
  size_bound size is_size low high =
      rw is_size
      (law_size_bound law (take s.read left) f g low high reach (omega (arith, read-long t left starts right s work, work.held.apart, work.held.rest_in)))

-- A pattern's words are matched. The invariant: what the words left make of the letters is what all make of none.
use Rattle.std.proofs.Common.{ℕ, ◌≡◌, ◌≤◌, ◌<◌, List, refl, sym, ◌∙◌, ap, arith, get_or}
use Rattle.std.specs.Prelude.{Option as Maybe, Some, None}
use Rattle.matching.specs.Left.{next_of, slot_of, Matched, missed, found}
use Rattle.matching.proofs.Matching.{next-below, slot_small, match_on, match_stops, match_ends}
use Rattle.matching.proofs.left.match_pattern.Goals as goal

-- a word that fits goes back, and its letter is one of seven
near : (n : ℕ) (plan : List ℕ) (w e s : ℕ) (m : Maybe ℕ) → m ≡ next_of n plan w e → m ≡ Some s → s ≤ e
near n plan w e s m p q = next-below n plan w e s (sym p ∙ q)

low : (r w : ℕ) → r ≡ slot_of w → r < 7
low r w q = rw q (slot_small w)

pub loop-word-init : goal.loop-word-init
loop-word-init c = record { within = omega arith; same = refl }

pub returns-in_err-s : goal.returns-in_err-s
returns-in_err-s c =
    let l = c.loop-word in
    let e = match_stops _ _ c.args.pattern.now l.word-index _ l.letters.from l.letters.to (omega arith) (sym c.next_end.ensures ∙ c.in_err-s.was) in
    rw c.from_residual.ensures (missed (ap (λ (m : Matched). m.ok) (sym l.invariant.same ∙ e)))

pub overflow_cast-letters : goal.overflow_cast-letters
overflow_cast-letters c =
    let l = c.loop-word in
    omega (arith, near c.args.n c.args.plan.now (get_or c.args.pattern.now l.word-index 0) l.e c.in_ok-s.s _ c.next_end.ensures c.in_ok-s.was)

pub offset_bounds-letters-k : goal.offset_bounds-letters-k
offset_bounds-letters-k c = omega (arith, low c.slot-k.result _ c.slot-k.ensures)

pub bounds-letters-k : goal.bounds-letters-k
bounds-letters-k c = omega (arith, low c.slot-k.result _ c.slot-k.ensures)

pub offset_bounds-letters-k-in-loop-word : goal.offset_bounds-letters-k-in-loop-word
offset_bounds-letters-k-in-loop-word c = omega (arith, low c.slot-k.result _ c.slot-k.ensures)

pub bounds-letters-k-in-loop-word : goal.bounds-letters-k-in-loop-word
bounds-letters-k-in-loop-word c = omega (arith, low c.slot-k.result _ c.slot-k.ensures)

pub loop-word-preserved : goal.loop-word-preserved
loop-word-preserved c =
    let l = c.loop-word in
    record {
      within = omega (arith, near c.args.n c.args.plan.now (get_or c.args.pattern.now l.word-index 0) l.e c.in_ok-s.s _ c.next_end.ensures c.in_ok-s.was);
      same = rw c.slot-k.ensures
          (sym (match_on _ _ c.args.pattern.now l.word-index _ l.letters.from l.letters.to _ (omega arith) (sym c.next_end.ensures ∙ c.in_ok-s.was))
          ∙ l.invariant.same);
    }

pub returns : goal.returns
returns c =
    let l = c.loop-word in
    found l.letters
    (sym (sym (match_ends _ _ c.args.pattern.now l.word-index l.e l.letters.from l.letters.to c.loop-word-test.false) ∙ l.invariant.same))

-- `listing::text::Text::put_words` meets its contract. The invariant: what is written so far, and then the words left with the end of their line, are the
-- whole text.
use Prim.Native.Nat.{◌+◌, ◌-◌, ◌≤◌, ◌<◌}
use native.Mathlib.Omega.{arith}
use mathlib.Core.List.{List, [], ◌++◌}
use Prim.Native.Nat.{ℕ}
use lib.ListN.{length, get_or, take, drop}
use Rattle.listing.specs.Text.{labelled, space}
use Rattle.listing.specs.Listing.{words_line}
use Rattle.listing.proofs.Lengths.{words-short}
use Rattle.listing.proofs.Turns.{words_left, words_none, words-first, words-turn, words-end}
use Rattle.listing.proofs.Writing.{Left, left_all, left_room, left_end, left_less, left-last, wrote-within}
use Rattle.std.proofs.lemmas.List.{take_rest}
use Rattle.listing.proofs.text.Text.put_words.Goals.{After-put_labelled, In-loop-word}
use Rattle.listing.proofs.text.Text.put_words.Goals as goal

abbrev others : List ℕ → List ℕ
others ws = take (length ws - 1) (drop 1 ws)

-- before the first word
begun : (d : List ℕ) (at : ℕ) (ws : List ℕ) → 0 < length ws → Left d at (words_line ws) d at (labelled [] (get_or ws 0 0) ++ words_left ws 1)
begun d at ws h = rw (← words-first ws h) (left_all d at (words_line ws))

-- the word at which a turn stands
turned : (c : In-loop-word)
    → Left c.args.self.now.bytes c.args.self.now.size (words_line c.args.plan.now) c.loop-word.self.bytes c.loop-word.self.size
    (labelled space (get_or (others c.args.plan.now) c.loop-word.word-index 0) ++ words_left (others c.args.plan.now) (c.loop-word.word-index + 1))
turned c = rw (← words-turn (others c.args.plan.now) c.loop-word.word-index (omega arith)) c.loop-word.invariant

pub returns-in_default : goal.returns-in_default
returns-in_default c =
    let w = rw (← words_none c.args.plan.now (omega arith)) at c.end_line.ensures in
    (w, wrote-within _ w (words-short c.args.plan.now (λ i. omega (arith, c.type_inv.plan i))))

pub put_labelled-requires : goal.put_labelled-requires
put_labelled-requires c =
    let ws = c.args.plan.now in
    let room : c.args.self.now.size + length (words_line ws) ≤ 93000 = omega (arith, words-short ws (λ i. omega (arith, c.type_inv.plan i))) in
    left_room (labelled [] (get_or ws 0 0)) (words_left ws 1) (begun c.args.self.now.bytes c.args.self.now.size ws (omega arith)) room

pub loop-word-init : goal.loop-word-init
loop-word-init c =
    let ws = c.args.plan.now in
    rw (take_rest ws 1) (left_less (begun c.args.self.now.bytes c.args.self.now.size ws (omega arith)) c.put_labelled.ensures)

pub put_labelled-requires-in-loop-word : goal.put_labelled-requires-in-loop-word
put_labelled-requires-in-loop-word c =
    let ws = c.args.plan.now in
    let room : c.args.self.now.size + length (words_line ws) ≤ 93000 = omega (arith, words-short ws (λ i. omega (arith, c.type_inv.plan i))) in
    left_room (labelled space (get_or (others ws) c.loop-word.word-index 0)) _ (turned (goal.at.put_labelled-requires-in-loop-word c).In-loop-word) room

pub loop-word-preserved : goal.loop-word-preserved
loop-word-preserved c = left_less (turned (goal.at.loop-word-preserved c).In-loop-word) c.put_labelled-in-loop-word.ensures

pub end_line-requires-2 : goal.end_line-requires-2
end_line-requires-2 c =
    let ws = c.args.plan.now in
    let room : c.args.self.now.size + length (words_line ws) ≤ 93000 = omega (arith, words-short ws (λ i. omega (arith, c.type_inv.plan i))) in
    left_end (rw (words-end (others ws) c.loop-word.word-index (omega arith)) at c.loop-word.invariant) room

pub returns : goal.returns
returns c =
    let ended = rw (words-end (others c.args.plan.now) c.loop-word.word-index (omega arith)) at c.loop-word.invariant in
    let w = left-last ended c.end_line-2.ensures in
    (w, wrote-within _ w (words-short c.args.plan.now (λ i. omega (arith, c.type_inv.plan i))))

-- `writing::write_station` meets its contract. The invariant: with the blocks from block i on put into it, the area is the one lent with the file in
-- front.
use Rattle.std.proofs.Common.{rules}
use Rattle.writing.specs.Writing.{block_count, file_length}
use Rattle.writing.proofs.Outcomes.{room-judged, refused-unwritten}
use Rattle.writing.proofs.Turns.{writes_start, writes_turn, writes_whole}
use native.Mathlib.Omega.{arith}
use Rattle.writing.proofs.write_station.Goals as goal

pub returns-in_err-judge_writing : goal.returns-in_err-judge_writing
returns-in_err-judge_writing c = record { whole = refused-unwritten _ _ _ c.judge_writing.ensures c.in_err-judge_writing.was (search rules) }

pub count_blocks-count-requires : goal.count_blocks-count-requires
count_blocks-count-requires c = (room-judged c.judge_writing.ensures c.in_ok-judge_writing.was).plan.few_words

pub loop-i-init : goal.loop-i-init
loop-i-init c = (omega arith, writes_start _ _ _)

pub put_block-requires : goal.put_block-requires
put_block-requires c =
    let r = room-judged c.judge_writing.ensures c.in_ok-judge_writing.was in
    (r.plan.lawful.well_formed.long, r.plan.few_words, omega (arith, c.count_blocks-count.ensures), rw c.loop-i.invariant.1.long r.room)

pub loop-i-preserved : goal.loop-i-preserved
loop-i-preserved c =
    let r = room-judged c.judge_writing.ensures c.in_ok-judge_writing.was in
    (omega arith, writes_turn c.loop-i.invariant.1 (omega (arith, c.count_blocks-count.ensures)) r.room c.put_block.auto.area c.put_block.ensures)

pub overflow_mul-size : goal.overflow_mul-size
unfolding block_count
overflow_mul-size c =
    let r = room-judged c.judge_writing.ensures c.in_ok-judge_writing.was in
    omega (arith, c.count_blocks-count.ensures, r.plan.few_words)

pub clear_from-requires : goal.clear_from-requires
unfolding file_length
clear_from-requires c =
    let r = room-judged c.judge_writing.ensures c.in_ok-judge_writing.was in
    omega (arith, c.count_blocks-count.ensures, r.room, c.loop-i.invariant.1.long)

pub returns : goal.returns
returns c =
    let r = room-judged c.judge_writing.ensures c.in_ok-judge_writing.was in
    record { whole = writes_whole _ _ _ _ _ _ _ r.none c.count_blocks-count.ensures c.loop-i.invariant.1 c.loop-i-test.false c.clear_from.ensures }

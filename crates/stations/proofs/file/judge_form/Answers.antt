-- `stations::file::judge_form` meets its contract. The invariant: what is found from block i on is what is found at all.
use Rattle.std.proofs.Common.{rules}
use mathlib.Core.Path.{sym, ◌∙◌, ap}
use lib.ListN.{length}
use Rattle.refusals.specs.Refusal.{judged}
use Rattle.stations.specs.File.{form_refusal}
use Rattle.refusals.proofs.Judging.{accepted_none, refused_some}
use Rattle.stations.proofs.Files.{block-long, at, judged_at, found_start, found_turn, found_stop, found_end}
use native.Mathlib.Omega.{arith}
use Rattle.stations.proofs.file.judge_form.Goals as goal

pub returns-then-not-length_right : goal.returns-then-not-length_right
unfolding form_refusal
returns-then-not-length_right c = record { whole = rw (c.from.ensures, ← c.length_right.ensures.whole, c.if-not-length_right.true) }

pub loop-i-init : goal.loop-i-init
loop-i-init c = (omega arith, found_start _ (sym c.length_right.ensures.whole ∙ c.if-not-length_right.false))

pub judge_block-requires : goal.judge_block-requires
judge_block-requires c = (ap length c.block_at.ensures ∙ block-long c.args.file.now c.loop-i.i (omega arith), omega arith)

pub returns-in_err-judge_block : goal.returns-in_err-judge_block
returns-in_err-judge_block c =
    let f = c.args.file.now in
    let i = c.loop-i.i in
    let j = judged_at f i c.count_blocks-count.ensures c.block_at.ensures c.judge_block.ensures.whole in
    let e = found_stop f i (omega arith) (refused_some (at f i) _ (sym j ∙ c.in_err-judge_block.was)) in
    record { whole = rw (← c.loop-i.invariant.1, e) (search rules) }

pub loop-i-preserved : goal.loop-i-preserved
loop-i-preserved c =
    let f = c.args.file.now in
    let i = c.loop-i.i in
    let j = judged_at f i c.count_blocks-count.ensures c.block_at.ensures c.judge_block.ensures.whole in
    (omega arith, found_turn f i (omega arith) (accepted_none (at f i) (sym j ∙ c.in_ok-judge_block.was)) ∙ c.loop-i.invariant.1)

pub returns : goal.returns
returns c = record { whole = ap judged (sym (found_end _ _ (omega arith)) ∙ c.loop-i.invariant.1) }

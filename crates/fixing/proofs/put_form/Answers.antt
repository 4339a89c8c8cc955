-- `fixing::put_form` meets its contract: what is gathered and closed is the form, and is walked out into the area.
use Prim.Native.Nat.{◌-◌, ◌≤◌}
use mathlib.Core.Path.{sym, ap, ◌∙◌}
use lib.ListN.{length, get_or}
use Rattle.areas.specs.Area.{most_words, overwrite}
use Rattle.forms.specs.Gathering.{form_by_sorting}
use Rattle.chains.specs.Chain.{walk}
use Rattle.fixing.proofs.Ended.{last_part, end-size, end_some, end-walked, put_whole, put-nothing}
use Rattle.fixing.proofs.Spans.{part_length, put_back}
use native.Mathlib.Omega.{arith}
use Rattle.fixing.proofs.put_form.Goals as goal

pub overflow_sub-start : goal.overflow_sub-start
overflow_sub-start c = let l = last_part c.requires c.gather-stack.ensures in omega arith

pub offset_bounds-starts-stack : goal.offset_bounds-starts-stack
offset_bounds-starts-stack c = let l = last_part c.requires c.gather-stack.ensures in omega arith

pub bounds-starts-stack : goal.bounds-starts-stack
bounds-starts-stack c = let l = last_part c.requires c.gather-stack.ensures in omega arith

pub slice_bounds-close-count : goal.slice_bounds-close-count
slice_bounds-close-count c = let l = last_part c.requires c.gather-stack.ensures in omega arith

pub slice_bounds-entries-start : goal.slice_bounds-entries-start
slice_bounds-entries-start c = let l = last_part c.requires c.gather-stack.ensures in omega arith

pub slice_bounds-close-count-2 : goal.slice_bounds-close-count-2
slice_bounds-close-count-2 c = let l = last_part c.requires c.gather-stack.ensures in omega arith

pub slice_bounds-buffer-start : goal.slice_bounds-buffer-start
slice_bounds-buffer-start c = let l = last_part c.requires c.gather-stack.ensures in omega arith

pub bounds-entries-start : goal.bounds-entries-start
bounds-entries-start c = let l = last_part c.requires c.gather-stack.ensures in omega arith

pub close-total-requires : goal.close-total-requires
close-total-requires c =
    let k = c.gather-stack in
    let g = k.ensures in
    let first = get_or k.new.starts (k.result.parts - 1) 0 in
    let below = (last_part c.requires g).below in
    let few : k.result.entries ≤ most_words = omega arith in
    let l = part_length k.new.entries first k.result.entries (omega arith) below in
    let m = part_length k.new.buffer first k.result.entries (omega arith) below in
    (record { links_long = g.links_long; sizes_long = g.sizes_long }, g.ends_long, m ∙ sym l, omega arith, omega arith, c.requires.few)

pub overflow_sub-size : goal.overflow_sub-size
overflow_sub-size c =
    let g = c.gather-stack.ensures in
    let k = c.close-total in
    end_some c.requires.few g (last_part c.requires g).some k.new.links k.new.part k.result k.ensures

pub returns-then-size-area : goal.returns-then-size-area
returns-then-size-area c =
    let h = c.gather-stack in
    let g = h.ensures in
    let k = c.close-total in
    let one = (last_part c.requires g).some in
    let size_is = end-size c.requires.few g one k.new.links k.new.part k.result k.ensures in
    let first = get_or h.new.starts (h.result.parts - 1) 0 in
    let below = (last_part c.requires g).below in
    let room : h.result.entries ≤ length h.new.entries = omega arith in
    let back = put_back h.new.entries k.new.part first h.result.entries below room (k.auto.part ∙ part_length h.new.entries first h.result.entries room below) in
    let walked = ap (walk c.args.plan.now k.new.links (k.result - 1)) back.first ∙ end-walked c.requires.few g one k.new.links k.new.part k.result k.ensures in (
      sym size_is,
      put_whole c.args.area.now c.write_out.new.area _ (form_by_sorting c.args.plan.now) (k.result - 1) (sym size_is) c.if-size-area.true
          (c.write_out.ensures ∙ ap (overwrite c.args.area.now 0) walked) c.write_out.auto.area c.clear_from.ensures,
    )

pub returns-else-size-area : goal.returns-else-size-area
returns-else-size-area c =
    let g = c.gather-stack.ensures in
    let k = c.close-total in
    let size_is = end-size c.requires.few g (last_part c.requires g).some k.new.links k.new.part k.result k.ensures in
    (sym size_is, put-nothing c.args.area.now (form_by_sorting c.args.plan.now) (k.result - 1) c.if-size-area.false)

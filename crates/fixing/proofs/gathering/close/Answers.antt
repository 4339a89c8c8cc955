-- `fixing::gathering::close` meets its contract: what sorting and keeping leave in front of the part is linked and added up.
use Rattle.std.proofs.Common.{rules}
use Prim.Native.Nat.{suc}
use mathlib.Core.Path.{◌≡◌, sym, ap, ◌∙◌}
use lib.ListN.{get_or, take}
use lib.Seq.{length-take-le, get_or-take}
use Rattle.forms.specs.Sorting.{once, total}
use Rattle.chains.specs.Chain.{size_of, by_chain, linked}
use Rattle.fixing.specs.Gathered.{kept}
use native.Mathlib.Omega.{arith}
use Rattle.fixing.proofs.gathering.close.Goals as goal

pub slice_bounds-kept-end-2 : goal.slice_bounds-kept-end-2
slice_bounds-kept-end-2 c =
    let k = c.keep_once-count in
    sym (length-take-le k.result k.new.entries (omega arith))

pub link-requires : goal.link-requires
link-requires c =
    let k = c.keep_once-count in
    let kept-length = length-take-le k.result k.new.entries (omega arith) in
    (c.requires.0.links_long, c.requires.1, c.requires.5, omega arith)

pub total_size-requires : goal.total_size-requires
total_size-requires c =
    let k = c.keep_once-count in
    let kept-length = length-take-le k.result k.new.entries (omega arith) in
    (c.requires.0.sizes_long, omega arith)

pub returns : goal.returns
returns c =
    let s = c.args in
    let k = c.keep_once-count in
    let order = by_chain s.words.now s.links.now s.sizes.now in
    -- what is kept
    let front : take k.result k.new.entries ≡ kept s.words.now s.links.now s.sizes.now s.part.now =
    k.ensures.kept order (λ p q b h i e. search rules) ∙ ap (once order) (c.sort.ensures order (λ p q b h i e. search rules)) in
    record {
      tied = c.link.ensures ∙ ap (λ l. linked s.links.now s.ends.now l s.at) front;
      first = sym (get_or-take k.result k.new.entries 0 0 (omega arith)) ∙ ap (λ l. get_or l 0 0) front;
      added = c.total_size.ensures ∙ ap (total (λ p. suc (size_of s.sizes.now p))) front;
    }

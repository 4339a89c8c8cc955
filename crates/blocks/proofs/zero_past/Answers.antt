-- What the library says of the bytes that it tested.
use Rattle.std.proofs.Common.{ℕ, ◌==◌, ◌∙◌, drop, rules, tests}
use Rattle.std.proofs.lemmas.Iterator.{YieldsList-from_slice}
use Rattle.std.proofs.lemmas.Iterator.Adapters.{YieldsList-from_skip}
use Rattle.std.proofs.lemmas.Iterator.Consumers.{YieldsList-at}
use Rattle.std.proofs.lemmas.Iterator.Search.{all_from_yields_List}
use Rattle.blocks.specs.Block.{content}
use Rattle.blocks.proofs.Reading.{all_zeros}
use Rattle.blocks.proofs.zero_past.Goals as goal

pub returns : goal.returns
unfolding content
returns c =
    let held = content c.args.block.now in
    let bytes = YieldsList-at c.skip.ensures.source (YieldsList-from_slice held c.iter.ensures.rest) in
    let behind = YieldsList-from_skip c.args.count bytes c.skip.ensures.count in
    record {
      whole = all_from_yields_List (λ (v : ℕ). v == 0) _ _ _ c.all.ensures.ran behind (λ x b q k. search (rules, tests))
          ∙ all_zeros (drop c.args.count held);
    }

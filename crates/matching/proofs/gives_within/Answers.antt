-- `matching::gives_within` meets its contract: the law is tried, then the lengths and then the words are compared.
use Rattle.std.proofs.Common.{sym, ◌∙◌, arith}
use lib.Seq.{length-take-le}
use Rattle.matching.proofs.Sides.{spelled_law-length}
use Rattle.matching.proofs.Giving.{accepted_ready, gives-fails, gives_other, gives-compared, reaches_of}
use Rattle.matching.proofs.gives_within.Goals as goal

pub law_fits-requires : goal.law_fits-requires
law_fits-requires g c =
    let r = c.requires in
    record {
      le_law = (r.le_law.0, r.le_law.1);
      ready = accepted_ready _ r.le_law.2 _ _ r.le_law.3 (omega (arith, r.plan_in_bounds.1)) c.find_starts.ensures;
    }

pub returns-in_default : goal.returns-in_default
returns-in_default g c = gives-fails _ _ _ _ c.law_fits.ensures c.in_default.is

pub returns-then-size-there : goal.returns-then-size-there
returns-then-size-there g c =
    gives_other _ _ _ _ c.in-Some.letters c.law_fits.ensures c.in-Some.is (λ q. c.if-size-there.true (c.right_len-size.ensures ∙ q))

pub put_side-requires : goal.put_side-requires
put_side-requires g c =
    let l = c.in-Some.letters in
    let r = reaches_of l c.law_fits.ensures c.in-Some.is in
    record {
      le_law = (c.requires.le_law.0, c.requires.le_law.1, r);
      to_in_bounds = omega (arith, spelled_law-length c.args.tables.now c.args.law c.args.plan.now l.from l.to r, c.right_len-size.ensures, c.if-size-there.false, c.requires.plan_in_bounds.2);
    }

pub slice_bounds-same_words-end : goal.slice_bounds-same_words-end
slice_bounds-same_words-end g c = omega (arith, c.if-size-there.false, c.requires.plan_in_bounds.2, c.put_side.auto.dst)

pub slice_bounds-same_words-end-2 : goal.slice_bounds-same_words-end-2
slice_bounds-same_words-end-2 g c = sym (length-take-le _ _ (omega (arith, c.if-size-there.false, c.requires.plan_in_bounds.2, c.put_side.auto.dst)))

pub returns : goal.returns
returns g c =
    gives-compared _ _ _ _ c.in-Some.letters c.law_fits.ensures c.in-Some.is _ _ _ _ c.put_side.ensures.0 c.right_len-size.ensures c.same_words.ensures

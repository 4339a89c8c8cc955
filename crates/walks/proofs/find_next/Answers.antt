-- `walks::find_next` meets its contract: the starts are found, the marks copied, and the pass does the rest.
use mathlib.Core.Path.{sym, ap, ◌∙◌}
use lib.ListN.{length, replicate}
use Rattle.walks.proofs.Turning.{passed_as, copied}
use Rattle.walks.proofs.find_next.Goals as goal

pub slice_bounds-pass-end-2 : goal.slice_bounds-pass-end-2
slice_bounds-pass-end-2 c = sym (ap length (copied _ _ _ c.copy_in.ensures.0))

pub pass-requires : goal.pass-requires
pass-requires c =
    record {
      few = c.requires.0.few;
      accepted = c.requires.0.accepted;
      starts_right = c.find_starts.ensures;
      starts_long = c.find_starts.auto.starts;
      left_long = ap length (copied _ _ _ c.copy_in.ensures.0) ∙ c.requires.0.fits;
      next_long = c.fill.ensures.len ∙ c.requires.1;
    }

pub returns : goal.returns
returns c =
    passed_as (copied _ _ _ c.copy_in.ensures.0) (c.fill.ensures.after (λ y e. e) ∙ ap (λ n. replicate n 0) c.requires.1) c.pass.ensures
    (c.pass.auto.next ∙ (c.fill.ensures.len ∙ c.requires.1))

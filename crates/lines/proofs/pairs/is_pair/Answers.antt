-- `is_pair` makes the definition's tests at once.
use mathlib.Core.Path.{◌∙◌}
use Rattle.lines.specs.Lines.{pair_formed}
use Rattle.lines.specs.inner.Lines.{three_at_once}
use Rattle.lines.proofs.pairs.is_pair.Goals as goal

pub returns : goal.returns
unfolding pair_formed
returns c =
    three_at_once c.args.ended c.args.passes c.is_number.result ∙ rw c.is_number.ensures

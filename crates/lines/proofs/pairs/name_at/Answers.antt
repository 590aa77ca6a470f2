-- The name is the first field of the line.
use mathlib.Core.Path.{◌∙◌}
use Rattle.lines.specs.Lines.{name_at}
use Rattle.lines.proofs.pairs.name_at.Goals as goal

pub returns : goal.returns
unfolding name_at
returns c = c.field.ensures ∙ rw c.line.ensures

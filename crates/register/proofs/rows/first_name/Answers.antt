-- The name on the first row is that on the first line.
use Rattle.register.specs.Register.{lines_after}
use Rattle.register.proofs.rows.first_name.Goals as goal

pub returns : goal.returns
unfolding lines_after
returns c = c.name_at.ensures

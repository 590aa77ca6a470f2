-- What is left after one row is what is left after one line.
use Rattle.register.specs.Register.{lines_after}
use Rattle.register.proofs.rows.rest.Goals as goal

pub returns : goal.returns
unfolding lines_after
returns c = c.rest.ensures

-- `sum_outside`: the total as the code adds it up passes the limit exactly where the sum does.
use Rattle.apportionment.specs.Allotment.{sum_outside}
use Rattle.problem.specs.inner.Total.{total_tells}
use Rattle.problem.proofs.sum_outside.Goals as goal

pub returns : goal.returns
unfolding sum_outside
returns c = rw c.total_of.ensures (total_tells _)

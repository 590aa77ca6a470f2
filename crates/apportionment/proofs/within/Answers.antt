-- `within` looks for the number in the range of those from 1 to the limit.
use Rattle.std.proofs.Common.{arith}
use Rattle.apportionment.specs.Refusals.{within}
use Rattle.apportionment.proofs.within.Goals as goal

pub returns : goal.returns
unfolding within
returns c = grind arith

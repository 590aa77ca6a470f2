-- `outside` turns the answer of `within` over, as its definition does.
use Rattle.apportionment.specs.Refusals.{outside}
use Rattle.apportionment.proofs.outside.Goals as goal

pub returns : goal.returns
unfolding outside
returns c = simp c.within.ensures

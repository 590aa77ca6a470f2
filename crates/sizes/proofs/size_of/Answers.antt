-- `sizes::size_of` meets its contract: the products fit, since population, seats, sum and house are within their limits.
use Rattle.sizes.specs.inner.Sizes.{size_is}
use Rattle.apportionment.specs.Quantities.{distance}
use Rattle.sizes.proofs.size_of.Goals as goal

pub returns : goal.returns
unfolding distance
returns c = size_is c.requires c.abs_diff.ensures

-- `House::fill_start` meets its contract: the start is filled in, and what it adds up to is far below the limit of sums.
use Rattle.leximin.specs.inner.Start.{start_begun}
use Rattle.leximin.proofs.house.House.fill_start.Goals as goal

pub returns : goal.returns
returns c =
    start_begun c.requires.problem c.fill_nearest.ensures c.total_of.ensures

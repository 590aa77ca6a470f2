-- `sizes::claim_of` meets its contract: the two sizes are those with the seats that the state has and with one more.
use Rattle.sizes.specs.inner.Sizes.{claim_is}
use Rattle.sizes.proofs.claim_of.Goals as goal

pub returns : goal.returns
returns c = claim_is c.size_of-old.ensures c.size_of-new.ensures

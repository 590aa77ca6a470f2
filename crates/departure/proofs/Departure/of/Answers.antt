-- `departure::Departure::of` is right because both products are far below 2^63, so that their difference is a signed word.
use native.Mathlib.Omega.{arith}
use Rattle.departure.specs.inner.Answer.{people_bounded, average_bounded}
use Rattle.departure.specs.inner.Exact.{exact_of}
use Rattle.wide.proofs.Signed.{read_back}
use Rattle.departure.proofs.Departure.of.Goals as goal

-- The result ..
pub returns : goal.returns
unfolding exact_of
returns c = rw (read_back c.difference.result c.difference.type_inv, c.difference.ensures)

-- .. and no product passes a word.
pub overflow_mul-people : goal.overflow_mul-people
overflow_mul-people c = omega (arith, people_bounded c.requires)

pub overflow_mul-average : goal.overflow_mul-average
overflow_mul-average c = omega (arith, average_bounded c.requires)

pub difference-requires : goal.difference-requires
difference-requires c = (omega (arith, people_bounded c.requires), omega (arith, average_bounded c.requires))

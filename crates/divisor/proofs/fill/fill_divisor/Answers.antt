-- `divisor::fill::fill_divisor` is right because rounded seats stand, and moves lead from them to the method's allotment.
use Rattle.divisor.specs.inner.Steps.{moves_to_house, moved_is_divisor}
use Rattle.divisor.proofs.fill.fill_divisor.Goals as goal

pub make_moves-requires : goal.make_moves-requires
make_moves-requires c = moves_to_house c.requires c.fill_near-given.ensures c.abs_diff.ensures

pub returns : goal.returns
returns c = moved_is_divisor c.requires c.fill_near-given.ensures c.abs_diff.ensures c.make_moves.ensures

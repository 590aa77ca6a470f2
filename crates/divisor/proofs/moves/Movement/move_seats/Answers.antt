use Rattle.divisor.specs.inner.Moves.{moving_none, moving_turn, moving_more}
use Rattle.divisor.proofs.moves.Movement.move_seats.Goals as goal

pub loop-init : goal.loop-init
loop-init c = moving_none c.requires.1

pub move_one-requires : goal.move_one-requires
move_one-requires c = moving_turn c.loop.invariant c.requires.0 c.loop-test.true

pub loop-preserved : goal.loop-preserved
loop-preserved c = moving_more c.loop.invariant c.move_one.ensures

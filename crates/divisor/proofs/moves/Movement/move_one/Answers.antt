-- `divisor::moves::Movement::move_one` is right because the root is the state that the theory moves, and its seats bear on no other's
-- order.
use Rattle.divisor.specs.inner.Moves.{root_moved, root_due}
use Rattle.divisor.proofs.moves.Movement.move_one.Goals as goal

pub invariant_of-seating : goal.invariant_of-seating
invariant_of-seating c = record { claims_fit = rw (root_moved c.requires c.moved.ensures) c.requires.after }

pub replay-requires-clause-due : goal.replay-requires-clause-due
replay-requires-clause-due c = root_due c.requires c.moved.result

pub returns : goal.returns
returns c =
    record { seats = root_moved c.requires c.moved.ensures; played = c.replay.ensures }

-- `divisor::moves::Movement::move_seats` is right because after each turn so many moves are made, and the tournament is that of the
-- seats then.
use Rattle.divisor.specs.inner.Moves.{Moving}
use Rattle.divisor.proofs.moves.Movement.move_seats.Given as goal

abbrev pub invariant-loop : goal.invariant-loop
invariant-loop l = Moving l.self.method l.self.up l.self.populations.now l.initial.seats l.counter l.seats l.tree

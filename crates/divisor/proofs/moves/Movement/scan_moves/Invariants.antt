-- `divisor::moves::Movement::scan_moves` is right because after each turn so many moves are made, each of the state that is first to move.
use Rattle.std.proofs.Common.{◌≡◌}
use Rattle.divisor.specs.inner.Moves.{moved_seats}
use Rattle.divisor.proofs.moves.Movement.scan_moves.Given as goal

abbrev pub invariant-loop : goal.invariant-loop
invariant-loop l = l.seats ≡ moved_seats l.self.method l.self.up l.self.populations.now l.initial.seats l.counter

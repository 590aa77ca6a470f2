-- `House::move_by_tournament` meets its contract: after so many turns the seats are those after so many moves, and the tournament
-- is right for them; so its root is the state that the theory moves.
use Rattle.leximin.specs.inner.Moves.{Moving}
use Rattle.leximin.proofs.house.House.move_by_tournament.Given as goal

abbrev pub invariant-loop : goal.invariant-loop
invariant-loop l = Moving l.up l.self.populations.now l.initial.seats l.self.house l.counter l.seats l.tree

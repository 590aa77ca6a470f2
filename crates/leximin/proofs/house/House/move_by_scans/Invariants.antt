-- `House::move_by_scans` meets its contract: after so many turns the seats are those after so many moves, and one turn more is
-- one move more.
use mathlib.Core.Path.{◌≡◌}
use Rattle.leximin.specs.inner.Moves.{moved_times}
use Rattle.leximin.proofs.house.House.move_by_scans.Given as goal

abbrev pub invariant-loop : goal.invariant-loop
invariant-loop l = l.seats ≡ moved_times l.up l.self.populations.now l.self.house l.initial.seats l.counter

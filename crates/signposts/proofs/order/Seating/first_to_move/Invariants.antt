-- `signposts::order::Seating::first_to_move` is right because at each turn the best so far is the first to move among the states passed.
use Rattle.std.proofs.Common.{◌≡◌, ◌-◌}
use Rattle.apportionment.specs.Lists.{first_place}
use Rattle.signposts.specs.inner.Order.{moves_before}
use Rattle.signposts.proofs.order.Seating.first_to_move.Given as goal

abbrev pub invariant-loop-i : goal.invariant-loop-i
invariant-loop-i l = l.best ≡ first_place (moves_before l.self.method l.self.up l.self.populations.now l.self.seats.now) (l.i - 1)

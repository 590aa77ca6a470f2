-- `House::is_start` meets its contract: the places passed are the same, so what is left decides.
use mathlib.Core.Path.{◌≡◌}
use lib.ListN.{drop}
use Rattle.apportionment.specs.Lists.{same_list}
use Rattle.apportionment.specs.Leximin.{start_seats}
use Rattle.leximin.proofs.house.House.is_start.Given as goal

abbrev pub invariant-loop-i : goal.invariant-loop-i
invariant-loop-i l =
    let start = start_seats l.self.populations.now l.self.house in
    same_list l.seats start ≡ same_list (drop l.i l.seats) (drop l.i start)

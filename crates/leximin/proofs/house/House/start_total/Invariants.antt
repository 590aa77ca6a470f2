-- `House::start_total` meets its contract: what is added up so far and the rest of the start's seats make the starting total.
use Prim.Native.Nat.{◌+◌}
use mathlib.Core.Path.{◌≡◌}
use lib.ListN.{drop}
use Rattle.apportionment.specs.Leximin.{start_seats, start_total}
use Rattle.apportionment.specs.Lists
use Rattle.leximin.proofs.house.House.start_total.Given as goal

abbrev pub invariant-loop-population : goal.invariant-loop-population
invariant-loop-population l =
    let ps = l.self.populations.now in
    l.sum + Lists.sum (drop l.population-index (start_seats ps l.self.house)) ≡ start_total ps l.self.house

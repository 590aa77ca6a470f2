-- `total_later` meets its contract: no more seats are moved than lie between the total and the house.
use Rattle.std.proofs.Common.{arith, lt-ltb, le-ltb}
use Rattle.apportionment.specs.Quantities.{distance}
use Rattle.placing.proofs.total_later.Goals as goal

pub overflow_add-result : goal.overflow_add-result
unfolding distance
overflow_add-result c = omega (arith, c.requires, c.if-total-house.true, c.ranges.house.fits)

pub returns-then-total-house : goal.returns-then-total-house
returns-then-total-house c = rw (lt-ltb _ _ c.if-total-house.true)

pub overflow_sub-result : goal.overflow_sub-result
unfolding distance
overflow_sub-result c = omega (arith, c.requires, c.if-total-house.false)

pub returns-else-total-house : goal.returns-else-total-house
returns-else-total-house c = rw (le-ltb _ _ c.if-total-house.false)

-- `problem::total_of` meets its contract. The loop's invariant: the total so far is within the limit, and with what is still to come
-- it is the sum.
use Rattle.std.proofs.Common.{◌≡◌, ◌+◌, ◌≤◌, drop}
use Rattle.apportionment.specs.Limits.{sum_limit}
use Rattle.apportionment.specs.Lists.{sum}
use Rattle.problem.proofs.total_of.Given as goal

abbrev pub invariant-loop-p : goal.invariant-loop-p
invariant-loop-p l = (l.total ≤ sum_limit) × (l.total + sum (drop l.p-index l.populations) ≡ sum l.populations)

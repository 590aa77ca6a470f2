-- `quota::due::mark` meets its contract. The loop's invariant: the seats passed are counted.
use Prim.Native.Nat.{◌*◌, ◌≤◌}
use Rattle.quota.specs.inner.Spots.{SpotAt}
use Rattle.quota.specs.inner.Marks.{Marked}
use Rattle.quota.proofs.due.mark.Given as goal

abbrev pub invariant-loop : goal.invariant-loop
invariant-loop l =
    (l.counter ≤ l.seats) × Marked l.population l.total l.counter l.initial.due l.due × SpotAt l.population (l.counter * l.total) l.spot

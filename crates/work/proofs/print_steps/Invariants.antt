-- The placing is the one so many steps from the start, no more than the house is away.
use Rattle.std.proofs.Common.{◌≡◌, ◌≤◌}
use Rattle.work.specs.inner.Way.{on_the_way, way_of}
use Rattle.work.proofs.print_steps.Given as goal

abbrev pub invariant-loop : goal.invariant-loop
invariant-loop g l = (l.placing ≡ on_the_way l.fn.start l.counter) × (l.counter ≤ way_of l.fn.start)

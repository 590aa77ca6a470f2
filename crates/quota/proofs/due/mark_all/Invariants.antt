-- `quota::due::mark_all` meets its contract. The loop's invariant: the states passed are counted.
use lib.ListN.{length}
use Rattle.quota.specs.inner.Marks.{MarkedTo}
use Rattle.quota.proofs.due.mark_all.Given as goal

abbrev pub invariant-loop-i : goal.invariant-loop-i
invariant-loop-i l = MarkedTo l.populations (length l.initial.due) l.i l.due

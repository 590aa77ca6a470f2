-- `bar::lower_end` meets its contract. The loop's invariant: the end is drawn in as far as the states passed allow.
use Rattle.bar.specs.inner.Search.{DrawnUp}
use Rattle.bar.proofs.lower_end.Given as goal

abbrev pub invariant-loop-own : goal.invariant-loop-own
invariant-loop-own l = DrawnUp l.precedences l.low l.high l.own-index l.best

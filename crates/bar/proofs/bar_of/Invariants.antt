-- `bar::bar_of` meets its contract. The loop's invariant: the range holds the bar. The measure is its width.
use Prim.Native.Nat.{◌-◌}
use Rattle.bar.specs.inner.Search.{HoldsBar}
use Rattle.bar.proofs.bar_of.Given as goal

abbrev pub invariant-loop-range : goal.invariant-loop-range
invariant-loop-range l = HoldsBar l.precedences l.left l.range

abbrev pub decreases-loop-range : goal.decreases-loop-range
decreases-loop-range l = l.range.high - l.range.low

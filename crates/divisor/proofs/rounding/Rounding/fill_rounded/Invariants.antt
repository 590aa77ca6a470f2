-- `divisor::rounding::Rounding::fill_rounded` is right because at each turn the states passed have their rounded seats, `given` in all.
use Rattle.divisor.specs.inner.Rounding.{Filling}
use Rattle.divisor.proofs.rounding.Rounding.fill_rounded.Given as goal

abbrev pub invariant-loop-i : goal.invariant-loop-i
invariant-loop-i l = Filling l.self.method l.self.total l.aim l.self.populations.now l.i l.seats l.given

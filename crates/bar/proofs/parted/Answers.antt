-- `bar::parted` meets its contract: the states above the middle number say which part holds the bar.
use native.Mathlib.Omega.{arith}
use Rattle.bar.specs.inner.Search.{middle_holds_bar}
use Rattle.bar.proofs.parted.Goals as goal

pub returns-then-above-left : goal.returns-then-above-left
returns-then-above-left c = let middle = c.args.middle in (
  middle_holds_bar c.args.precedences.now c.args.left middle _ _ _ c.reaching-above.ensures c.if-above-left.true,
  omega (arith, c.requires.1, c.requires.2),
)

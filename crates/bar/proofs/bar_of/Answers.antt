use native.Mathlib.Omega.{arith}
use Rattle.bar.specs.inner.Search.{whole_holds_bar, one_number_is_bar}
use Rattle.bar.proofs.bar_of.Goals as goal

pub returns-then-least-greatest : goal.returns-then-least-greatest
returns-then-least-greatest c = let whole = whole_holds_bar c.args.precedences.now c.args.left _ _ _ _ c.requires in
    one_number_is_bar c.args.precedences.now c.args.left _ whole (omega (arith, c.if-least-greatest.true))

pub parted-range-requires : goal.parted-range-requires
parted-range-requires c = (
  whole_holds_bar c.args.precedences.now c.args.left _ _ _ _ c.requires,
  c.first_guess-guess.ensures.0,
  c.first_guess-guess.ensures.1,
)

pub loop-range-init : goal.loop-range-init
loop-range-init c = c.parted-range.ensures.0

pub loop-range-smaller : goal.loop-range-smaller
loop-range-smaller c = c.parted-range-in-loop-range.ensures.1

pub loop-range-preserved : goal.loop-range-preserved
loop-range-preserved c = c.parted-range-in-loop-range.ensures.0

pub returns : goal.returns
returns c = one_number_is_bar c.args.precedences.now c.args.left _ c.loop-range.invariant c.loop-range-test.false

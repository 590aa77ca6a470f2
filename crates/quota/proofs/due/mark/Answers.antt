use mathlib.Core.Path.{◌≡◌}
use native.Mathlib.Omega.{arith}
use native.Mathlib.Nat.{le_trans, le_of_lt}
use Rattle.apportionment.specs.Divisor.{one_more}
use Rattle.apportionment.specs.inner.Lists.{entry_at_most_sum}
use Rattle.quota.specs.inner.Spots.{place_is, spot_none, can_move, spot_moved}
use Rattle.quota.specs.inner.Marks.{place_within_lem, marked_none, marked_more}
use Rattle.quota.proofs.due.mark.Goals as goal

pub nonzero_div-whole : goal.nonzero_div-whole
nonzero_div-whole c = omega (arith, c.requires.someone)

pub nonzero_rem-left : goal.nonzero_rem-left
nonzero_rem-left c = omega (arith, c.requires.someone)

pub loop-init : goal.loop-init
loop-init c =
    (omega arith, marked_none _ _ _, spot_none c.args.total c.requires.someone)

pub overflow_add-due : goal.overflow_add-due
overflow_add-due c =
    omega (
      arith,
      entry_at_most_sum c.loop.due c.loop.spot.place,
      c.loop.invariant.1.added,
      c.requires.room,
      c.loop-test.true,
    )

pub onward-spot-requires : goal.onward-spot-requires
onward-spot-requires c =
    can_move c.args.total c.loop.counter c.loop.invariant.2 c.requires.someone c.requires.people
    c.requires.sum_within
    (le_trans (le_of_lt (place_within_lem c.requires c.loop.counter c.loop-test.true)) c.requires.house_within)

pub loop-preserved : goal.loop-preserved
unfolding one_more
loop-preserved c = (
  omega (arith, c.loop-test.true),
  rw (place_is c.loop.invariant.2)
      (marked_more c.requires c.loop.counter c.loop-test.true c.loop.invariant.1),
  spot_moved c.args.total c.loop.counter c.loop.invariant.2 c.onward-spot.ensures,
)

pub returns : goal.returns
returns c =
    let all : c.loop.counter ≡ c.args.seats = omega (arith, c.loop.invariant.0, c.loop-test.false) in
    rw all at c.loop.invariant.1

-- `departure::nearest` is right because the two stages lose nothing, and the rest decides between the quotient and the next.
use native.Mathlib.Nat.{le_of_lt, mod-lt}
use native.Mathlib.Omega.{arith}
use Rattle.apportionment.specs.Limits.{house_limit}
use Rattle.apportionment.specs.Quantities.{shown_scale, shown_size}
use Rattle.departure.proofs.Rounding.{down_bounded, rounds_down, rounds_up}
use Rattle.departure.proofs.nearest.Goals as goal

-- The scaled remainder fits a word ..
pub overflow_mul-scaled : goal.overflow_mul-scaled
overflow_mul-scaled c = omega (arith, mod-lt c.args.over c.requires.positive)

-- .. and the rest decides ..
pub returns-then-rest-under : goal.returns-then-rest-under
unfolding shown_size
returns-then-rest-under c =
    rounds_down shown_scale c.args.over c.args.under c.requires.positive c.if-rest-under.true

pub returns-else-rest-under : goal.returns-else-rest-under
unfolding shown_size
returns-else-rest-under c =
    rounds_up shown_scale c.args.over c.args.under c.requires.positive c.if-rest-under.false

pub overflow_mul-down : goal.overflow_mul-down
overflow_mul-down c =
    omega (arith, down_bounded shown_scale c.args.over c.args.under c.requires.positive house_limit c.requires.low)

pub overflow_add-down : goal.overflow_add-down
overflow_add-down c =
    omega (arith, down_bounded shown_scale c.args.over c.args.under c.requires.positive house_limit c.requires.low)

pub overflow_sub-under : goal.overflow_sub-under
overflow_sub-under c = le_of_lt (mod-lt _ c.requires.positive)

pub overflow_add-result : goal.overflow_add-result
overflow_add-result c =
    omega (
      arith,
      down_bounded shown_scale c.args.over c.args.under c.requires.positive house_limit c.requires.low,
    )

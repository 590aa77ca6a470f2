use native.Mathlib.Omega.{arith}
use native.Mathlib.Nat.{zero-add}
use Rattle.apportionment.specs.Leximin.{start_total}
use Rattle.sizes.specs.inner.Sizes.{state_at}
use Rattle.leximin.specs.inner.Start.{start_sum_next, start_sum_end, start_total_fits}
use Rattle.leximin.proofs.house.House.start_total.Goals as goal

pub loop-population-init : goal.loop-population-init
unfolding start_total
loop-population-init c = zero-add _

pub nearest_seats-sum-requires : goal.nearest_seats-sum-requires
nearest_seats-sum-requires c = state_at c.requires c.loop-population.population-index

pub overflow_add-sum : goal.overflow_add-sum
overflow_add-sum c =
    omega (
      arith,
      start_sum_next c.requires c.loop-population.population-index c.loop-population-test.true c.nearest_seats-sum.ensures,
      c.loop-population.invariant,
      start_total_fits c.requires,
    )

pub loop-population-preserved : goal.loop-population-preserved
loop-population-preserved c =
    omega (
      arith,
      start_sum_next c.requires c.loop-population.population-index c.loop-population-test.true c.nearest_seats-sum.ensures,
      c.loop-population.invariant,
    )

pub returns : goal.returns
returns c =
    omega (
      arith,
      c.loop-population.invariant,
      start_sum_end c.requires c.loop-population.population-index c.loop-population-test.false,
    )

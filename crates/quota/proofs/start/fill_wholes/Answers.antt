use native.Mathlib.Omega.{arith}
use Rattle.apportionment.specs.inner.Problem.{sum_above_zero}
use Rattle.apportionment.specs.inner.Filling.{fill_starts, fill_goes_on, fill_ends}
use Rattle.apportionment.specs.inner.WholeParts.{share_fits, whole_part_is}
use Rattle.quota.proofs.start.fill_wholes.Goals as goal

pub loop-i-init : goal.loop-i-init
loop-i-init c = fill_starts _ _ _ c.requires.same_length

pub overflow_mul-seats : goal.overflow_mul-seats
overflow_mul-seats c =
    share_fits c.requires.problem c.loop-i.i

pub nonzero_div-seats : goal.nonzero_div-seats
nonzero_div-seats c = omega (arith, sum_above_zero c.requires.problem.states)

pub loop-i-preserved : goal.loop-i-preserved
loop-i-preserved c =
    fill_goes_on _ _ _ _ _ c.loop-i-test.true (whole_part_is c.requires.problem c.loop-i.i) c.loop-i.invariant

pub returns : goal.returns
returns c =
    fill_ends _ _ _ _ c.loop-i-test.false c.loop-i.invariant

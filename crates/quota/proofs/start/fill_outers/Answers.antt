use mathlib.Core.Path.{◌∙◌}
use native.Mathlib.Omega.{arith}
use Rattle.apportionment.specs.inner.Filling.{fill_starts, fill_goes_on, fill_ends}
use Rattle.quota.specs.inner.Marks.{wholes_long}
use Rattle.quota.specs.inner.Play.{entry_fits, outer_is}
use Rattle.quota.proofs.start.fill_outers.Goals as goal

pub loop-i-init : goal.loop-i-init
loop-i-init c = fill_starts _ _ _ c.requires.0.same_length

pub outer_of-requires : goal.outer_of-requires
outer_of-requires c =
    entry_fits c.requires.0.problem c.requires.1 c.loop-i.i c.loop-i-test.true

pub loop-i-preserved : goal.loop-i-preserved
loop-i-preserved c =
    fill_goes_on _ _ _ _ _ c.loop-i-test.true
    (c.outer_of.ensures ∙ outer_is c.requires.0.problem c.requires.1 c.loop-i.i c.loop-i-test.true)
    c.loop-i.invariant

pub bounds-wholes-i : goal.bounds-wholes-i
bounds-wholes-i c =
    omega (arith, c.loop-i-test.true, wholes_long c.requires.0.problem c.requires.1 c.loop-i.i c.loop-i-test.true)

pub returns : goal.returns
returns c =
    fill_ends _ _ _ _ c.loop-i-test.false c.loop-i.invariant

use native.Mathlib.Nat.{le_trans}
use Rattle.apportionment.specs.inner.Problem.{entry_at_most_total}
use mathlib.Core.Path.{◌∙◌}
use native.Mathlib.Omega.{arith}
use Rattle.apportionment.specs.inner.Filling.{fill_starts, fill_goes_on, fill_ends}
use Rattle.quota.specs.inner.Marks.{wholes_long}
use Rattle.quota.specs.inner.Play.{first_key_is}
use Rattle.quota.proofs.start.fill_keys.Goals as goal

pub loop-i-init : goal.loop-i-init
loop-i-init c = fill_starts _ _ _ c.requires.0.same_length

pub first_key-requires : goal.first_key-requires
first_key-requires c =
    le_trans (entry_at_most_total c.requires.0.problem.states c.loop-i.i) c.requires.0.problem.states.sum_within

pub loop-i-preserved : goal.loop-i-preserved
loop-i-preserved c =
    fill_goes_on _ _ _ _ _ c.loop-i-test.true
    (c.first_key.ensures ∙ first_key_is c.requires.0.problem c.requires.1 c.loop-i.i c.loop-i-test.true)
    c.loop-i.invariant

pub bounds-wholes-i : goal.bounds-wholes-i
bounds-wholes-i c =
    omega (arith, c.loop-i-test.true, wholes_long c.requires.0.problem c.requires.1 c.loop-i.i c.loop-i-test.true)

pub returns : goal.returns
returns c =
    fill_ends _ _ _ _ c.loop-i-test.false c.loop-i.invariant

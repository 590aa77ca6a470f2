use native.Mathlib.Omega.{arith}
use Rattle.quota.specs.inner.Marks.{wholes_long, marked_to_none, markable_next, marked_to_more, all_ready}
use Rattle.quota.proofs.due.mark_all.Goals as goal

pub loop-i-init : goal.loop-i-init
loop-i-init c = marked_to_none _ _ c.requires.problem.1

pub bounds-wholes-i : goal.bounds-wholes-i
bounds-wholes-i c =
    omega (arith, c.loop-i-test.true, wholes_long c.requires.problem.0 c.requires.wholes_value c.loop-i.i c.loop-i-test.true)

pub mark-requires : goal.mark-requires
mark-requires c =
    markable_next c.requires.problem.0 c.requires.wholes_value c.loop-i.invariant c.loop-i-test.true

pub loop-i-preserved : goal.loop-i-preserved
loop-i-preserved c =
    marked_to_more c.requires.problem.0 c.requires.wholes_value c.loop-i.invariant c.loop-i-test.true c.mark.ensures

pub returns : goal.returns
returns c =
    all_ready c.loop-i.invariant c.loop-i-test.false

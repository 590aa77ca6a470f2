use native.Mathlib.Omega.{arith}
use Rattle.claims.specs.inner.Moves.{after_none, after_more}
use Rattle.leximin.specs.inner.Moves.{moved_sided}
use Rattle.leximin.proofs.house.House.move_by_scans.Goals as goal

pub loop-init : goal.loop-init
loop-init c = after_none _ _ _ _ _

pub move_once-requires : goal.move_once-requires
move_once-requires c = rw c.loop.invariant (moved_sided _ c.requires c.loop.counter (omega (arith, c.loop-test.true))).seated

pub loop-preserved : goal.loop-preserved
loop-preserved c = after_more _ _ _ _ _ _ c.loop.invariant c.move_once.ensures

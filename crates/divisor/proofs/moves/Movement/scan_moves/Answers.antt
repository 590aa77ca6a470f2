use Rattle.std.proofs.Common.{arith}
use Rattle.claims.specs.inner.Moves.{after_none, after_more}
use Rattle.divisor.specs.inner.Moves.{moved_fits}
use Rattle.divisor.proofs.moves.Movement.scan_moves.Goals as goal

pub loop-init : goal.loop-init
loop-init c = after_none _ _ _ _ _

pub scan_one-requires : goal.scan_one-requires
scan_one-requires c = moved_fits _ c.requires c.loop.counter (omega arith) c.loop.invariant

pub loop-preserved : goal.loop-preserved
loop-preserved c = after_more _ _ _ _ _ c.loop.counter c.loop.invariant c.scan_one.ensures

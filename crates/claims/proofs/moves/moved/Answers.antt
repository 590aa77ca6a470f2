-- `claims::moves::moved` is right by its test, which way the seats move.
use Rattle.claims.specs.inner.Moves.{moved_by}
use Rattle.claims.proofs.moves.moved.Goals as goal

pub returns-then-up : goal.returns-then-up
unfolding moved_by
returns-then-up c = rw c.if-up.true

pub returns-else-up : goal.returns-else-up
unfolding moved_by
returns-else-up c = rw (c.if-up.false, c.saturating_sub.ensures)

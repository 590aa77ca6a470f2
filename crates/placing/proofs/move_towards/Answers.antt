-- `placing::move_towards` meets its contract: with no seat to move nothing is to be shown, and otherwise the moves are made as they ask.
use Rattle.claims.specs.inner.Moves.{after_none}
use Rattle.placing.proofs.move_towards.Goals as goal

pub returns-then-times-eq0 : goal.returns-then-times-eq0
returns-then-times-eq0 c = rw c.if-times-eq0.true (after_none _ _ _ _ _)

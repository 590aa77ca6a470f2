-- `House::move_once` meets its contract: the direction picks the case of the definition.
use mathlib.Core.Path.{◌∙◌}
use Rattle.claims.specs.inner.Moves.{after_move}
use Rattle.leximin.proofs.house.House.move_once.Goals as goal

pub returns-then-up : goal.returns-then-up
unfolding after_move
returns-then-up c =
    c.place.ensures ∙ simp c.if-up.true

pub returns : goal.returns
unfolding after_move
returns c =
    c.withdraw.ensures ∙ simp c.if-up.false

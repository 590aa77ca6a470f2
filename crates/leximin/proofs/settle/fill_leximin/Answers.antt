-- `leximin::settle::fill_leximin` meets its contract: the start is filled in, and as many seats are placed or withdrawn as the gap has; the
-- laws of `Settled` say where that ends.
use Rattle.leximin.specs.inner.Settled.{can_place, can_withdraw, placed_settled, withdrawn_settled}
use Rattle.leximin.proofs.settle.fill_leximin.Goals as goal

pub move_times-requires : goal.move_times-requires
move_times-requires c =
    can_place c.requires.0.problem c.fill_start-start.ensures c.if-start-house.true

pub returns-then-start-house : goal.returns-then-start-house
returns-then-start-house c =
    placed_settled c.requires.0.problem c.fill_start-start.ensures c.requires.1 c.if-start-house.true
    c.move_times.ensures

pub move_times-requires-2 : goal.move_times-requires-2
move_times-requires-2 c =
    can_withdraw c.requires.0.problem c.fill_start-start.ensures c.requires.1 c.if-start-house.false

pub returns : goal.returns
returns c =
    withdrawn_settled c.requires.0.problem c.fill_start-start.ensures c.requires.1 c.if-start-house.false
    c.move_times-2.ensures

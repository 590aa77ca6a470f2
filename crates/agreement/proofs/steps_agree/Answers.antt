-- `agreement::steps_agree` meets its contract: the two ways from the start, up and down, are the two cases of the definition.
use borrow.Author.Tests.{le-leb, lt-leb}
use Rattle.agreement.specs.inner.Agreement.{steps_up, steps_down}
use Rattle.agreement.proofs.steps_agree.Goals as goal

pub returns-then-house-begun : goal.returns-then-house-begun
returns-then-house-begun c =
    rw
    (← steps_up _ _ _ c.start_total-begun.ensures c.args.total
    c.args.steps c.if-begun-house.true)
    (simp (lt-leb _ _ c.if-house-begun.true))

pub returns-then-begun-house : goal.returns-then-begun-house
returns-then-begun-house c =
    rw
    (← steps_up _ _ _ c.start_total-begun.ensures c.args.total
    c.args.steps c.if-begun-house.true)
    (simp (le-leb _ _ c.if-house-begun.false))

pub returns-then-begun-house-2 : goal.returns-then-begun-house-2
returns-then-begun-house-2 c =
    rw
    (← steps_down _ _ _ c.start_total-begun.ensures c.args.total
    c.args.steps c.if-begun-house.false)
    (simp (lt-leb _ _ c.if-begun-house-2.true))

pub returns : goal.returns
returns c =
    rw
    (← steps_down _ _ _ c.start_total-begun.ensures c.args.total
    c.args.steps c.if-begun-house.false)
    (simp (le-leb _ _ c.if-begun-house-2.false))

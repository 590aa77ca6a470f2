-- Each move that was made can be shown on a page, the first that was not stands at the house, and the loop never runs out before that.
use Rattle.std.proofs.Common.{arith, rules}
use Rattle.showing.specs.inner.Room.{move_fits}
use Rattle.work.specs.inner.Way.{ends_on_page, step_shown, short_way, move_goes_on, move_at_end}
use Rattle.work.proofs.print_steps.Goals as goal

pub returns-then-answer-eq0 : goal.returns-then-answer-eq0
returns-then-answer-eq0 g c =
    move_at_end c.requires c.loop.invariant.0 c.loop.invariant.1 c.moved_on-on.ensures c.if-answer-eq0.true

pub print_page-requires : goal.print_page-requires
print_page-requires g c =
    let on = move_goes_on c.requires c.loop.invariant.0 c.loop.invariant.1 c.moved_on-on.ensures c.if-answer-eq0.false in
    let shown = step_shown c.requires _ c.loop.invariant.0 on.1 on.0 in
    let fits = move_fits shown in
    record { callable = record { at = λ a. search rules }; fits = λ size written returned. search (rules, ends_on_page) }

pub loop-preserved : goal.loop-preserved
loop-preserved g c =
    let on = move_goes_on c.requires c.loop.invariant.0 c.loop.invariant.1 c.moved_on-on.ensures c.if-answer-eq0.false in
    (on.1, omega (arith, on.0))

pub returns : goal.returns
returns g c = absurd (omega (arith, c.loop.invariant.1, c.loop-test.false, short_way c.requires))

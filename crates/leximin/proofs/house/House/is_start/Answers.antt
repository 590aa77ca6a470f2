use mathlib.Core.Path.{sym, ◌∙◌}
use Rattle.sizes.specs.inner.Sizes.{state_at}
use Rattle.leximin.specs.inner.Start.{start_so_far, not_the_start, start_to_the_end}
use Rattle.leximin.proofs.house.House.is_start.Goals as goal

pub nearest_seats-requires : goal.nearest_seats-requires
nearest_seats-requires c = state_at c.requires.problem c.loop-i.i

pub returns-then-seats-i : goal.returns-then-seats-i
returns-then-seats-i c =
    sym (c.loop-i.invariant
    ∙ not_the_start c.requires.problem _ c.requires.same_length c.loop-i.i c.loop-i-test.true
    c.nearest_seats.ensures c.if-seats-i.true)

pub loop-i-preserved : goal.loop-i-preserved
loop-i-preserved c =
    c.loop-i.invariant
    ∙ start_so_far c.requires.problem _ c.requires.same_length c.loop-i.i c.loop-i-test.true
    c.nearest_seats.ensures c.if-seats-i.false

pub returns : goal.returns
returns c =
    sym (c.loop-i.invariant
    ∙ start_to_the_end c.requires.problem _ c.requires.same_length c.loop-i.i c.loop-i-test.false)

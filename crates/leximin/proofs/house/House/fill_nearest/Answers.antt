use Rattle.apportionment.specs.inner.Filling.{fill_ends}
use mathlib.Core.Path.{◌∙◌}
use Rattle.sizes.specs.inner.Sizes.{state_at}
use Rattle.leximin.specs.inner.Start.{start_is_rounded}
use Rattle.leximin.proofs.house.House.fill_nearest.Goals as goal

pub nearest_seats-requires : goal.nearest_seats-requires
nearest_seats-requires c = state_at c.requires.problem c.loop-i.i

pub returns : goal.returns
returns c = fill_ends _ _ _ _ c.loop-i-test.false c.loop-i.invariant ∙ start_is_rounded c.requires.problem

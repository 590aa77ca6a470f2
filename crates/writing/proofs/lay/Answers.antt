use mathlib.Core.Path.{refl, ◌∙◌}
use Rattle.apportionment.specs.inner.Lists.{list_of_places}
use Rattle.apportionment.specs.inner.Filling.{fill_starts, fill_goes_on, fill_ends}
use Rattle.writing.proofs.lay.Goals as goal

pub loop-i-init : goal.loop-i-init
loop-i-init c = fill_starts _ _ _ c.requires

pub loop-i-preserved : goal.loop-i-preserved
loop-i-preserved c = fill_goes_on _ _ _ _ _ c.loop-i-test.true refl c.loop-i.invariant

pub returns : goal.returns
returns c = fill_ends _ _ _ _ c.loop-i-test.false c.loop-i.invariant ∙ list_of_places _

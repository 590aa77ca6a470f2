-- `sizes::quotients::rises` meets its contract: comparing the two sizes as they are held is comparing the exact ones.
use mathlib.Core.Path.{◌∙◌}
use Rattle.sizes.specs.inner.Sizes.{sizes_compared}
use Rattle.sizes.proofs.quotients.rises.Goals as goal

pub returns : goal.returns
returns c =
    c.size_less.ensures
    ∙ sizes_compared c.requires.state.peopled c.size_of-present.ensures c.size_of-next.ensures

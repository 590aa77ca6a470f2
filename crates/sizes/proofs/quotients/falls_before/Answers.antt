-- `sizes::quotients::falls_before` meets its contract: the products fit, and the tests that were made pick the case of the order by
-- quotients, which is the order of claims below the start.
use mathlib.Core.Path.{◌∙◌}
use borrow.Author.Tests.{lt-ltb, le-ltb}
use Rattle.claims.specs.inner.SizeQuotients.{falls_before}
use Rattle.sizes.specs.inner.Quotients.{falls_compared}
use Rattle.sizes.specs.inner.Sizes.{sizes_compared}
use Rattle.sizes.proofs.quotients.falls_before.Goals as goal

pub returns-then-other-own : goal.returns-then-other-own
unfolding falls_before
returns-then-other-own c = simp (falls_compared c.requires.0 c.requires.1, lt-ltb _ _ c.if-other-own.true)

pub returns-then-own-other : goal.returns-then-own-other
unfolding falls_before
returns-then-own-other c =
    simp (
      falls_compared c.requires.0 c.requires.1,
      le-ltb _ _ c.if-other-own.false,
      lt-ltb _ _ c.if-own-other.true,
    )

pub returns : goal.returns
unfolding falls_before
returns c =
    let people = c.requires.0.0.state.peopled in
    simp (
      falls_compared c.requires.0 c.requires.1,
      le-ltb _ _ c.if-other-own.false,
      le-ltb _ _ c.if-own-other.false,
      c.size_less.ensures ∙ sizes_compared people c.size_of-own_size.ensures c.size_of-other_size.ensures,
    )

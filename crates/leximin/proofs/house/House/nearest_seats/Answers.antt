-- `House::nearest_seats` meets its contract: each return is a case of the definition, and sizes without their common factor are
-- ordered as the exact ones.
use borrow.Author.Tests.{eq-eqb}
use Rattle.claims.specs.inner.SizeClaims.{nearest_rounded}
use Rattle.leximin.specs.inner.Start.{rounded_compared}
use Rattle.leximin.proofs.house.House.nearest_seats.Goals as goal

pub returns-then-whole-eq0 : goal.returns-then-whole-eq0
unfolding nearest_rounded
returns-then-whole-eq0 c = simp (eq-eqb _ _ c.if-whole-eq0.true)

pub returns-then-size_less : goal.returns-then-size_less
returns-then-size_less c =
    rw (
      rounded_compared c.requires c.if-whole-eq0.false c.size_of-more.ensures c.size_of-fewer.ensures,
      ← c.size_less.ensures,
      c.if-size_less.true,
    )

pub returns : goal.returns
returns c =
    rw (
      rounded_compared c.requires c.if-whole-eq0.false c.size_of-more.ensures c.size_of-fewer.ensures,
      ← c.size_less.ensures,
      c.if-size_less.false,
    )

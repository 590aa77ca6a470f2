-- `leximin::tournament::Seating::gives_up_before` meets its contract: the tests that were made pick the case of the definition; two states
-- with a seat to spare are at or below their starts, so their last claims can be compared by quotients.
use native.Mathlib.Omega.{arith}
use borrow.Author.Tests.{lt-ltb, le-ltb}
use Rattle.claims.specs.inner.Order.{gives_up_before}
use Rattle.claims.specs.inner.SizeClaims.{size_test}
use Rattle.leximin.specs.inner.Sided.{sided_problem, falling_claim}
use Rattle.leximin.proofs.tournament.Seating.gives_up_before.Goals as goal

pub returns-then-a-le1 : goal.returns-then-a-le1
unfolding gives_up_before
returns-then-a-le1 c = simp (le-ltb _ _ c.if-a-le1.true)

pub returns-then-b-le1 : goal.returns-then-b-le1
unfolding gives_up_before
returns-then-b-le1 c = simp (lt-ltb _ _ c.if-a-le1.false, le-ltb _ _ c.if-b-le1.true)

pub falls_before-requires : goal.falls_before-requires
falls_before-requires c =
    let sided = rw c.requires.0 at c.args.self.now.sided in (
      falling_claim c.args.i c.requires.1.0 sided (omega arith),
      falling_claim c.args.j c.requires.1.1 sided (omega arith),
    )

pub returns : goal.returns
unfolding gives_up_before size_test
returns c =
    rw (← (sided_problem c.args.self.now.sided).states.sums)
    (simp (lt-ltb _ _ c.if-a-le1.false, lt-ltb _ _ c.if-b-le1.false, c.falls_before.ensures))

-- `remainders::spare_after` meets its contract: each branch rewrites the definition by its test.
use native.Mathlib.Omega.{arith}
use borrow.Author.Tests.{eq-eqb, ne_eqb}
use Rattle.remainders.specs.inner.Serving.{spare_after}
use Rattle.remainders.proofs.spare_after.Goals as goal

pub returns-then-own-bar : goal.returns-then-own-bar
unfolding spare_after
returns-then-own-bar c = simp (eq-eqb _ _ c.if-own-bar.true) (omega arith)

pub returns-else-own-bar : goal.returns-else-own-bar
unfolding spare_after
returns-else-own-bar c = simp (ne_eqb _ _ c.if-own-bar.false)

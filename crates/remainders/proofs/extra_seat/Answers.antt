-- `remainders::extra_seat` meets its contract: each `return` rewrites the definition by the tests that led there.
use native.Mathlib.Omega.{arith}
use borrow.Author.Tests.{lt-ltb, le-ltb, eq-eqb, ne_eqb}
use Rattle.remainders.specs.inner.Serving.{extra_by}
use Rattle.remainders.proofs.extra_seat.Goals as goal

pub returns-then-bar-own : goal.returns-then-bar-own
unfolding extra_by
returns-then-bar-own c = simp (lt-ltb _ _ c.if-bar-own.true)

pub returns-then-own-bar : goal.returns-then-own-bar
unfolding extra_by
returns-then-own-bar c = simp (le-ltb _ _ c.if-bar-own.false, lt-ltb _ _ c.if-own-bar.true)

pub returns-then-spare-gt0 : goal.returns-then-spare-gt0
unfolding extra_by
returns-then-spare-gt0 c =
    let spare = c.args.spare in
    simp (le-ltb _ _ c.if-bar-own.false, le-ltb _ _ c.if-own-bar.false, ne_eqb spare 0 (λ e. omega arith))

pub returns : goal.returns
unfolding extra_by
returns c =
    let spare = c.args.spare in
    simp (le-ltb _ _ c.if-bar-own.false, le-ltb _ _ c.if-own-bar.false, eq-eqb spare 0 (omega arith))

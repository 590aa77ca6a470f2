-- `quota::start::outer_of` meets its contract: no more numbers pass before the state is able than the house has.
use native.Mathlib.Omega.{arith}
use native.Mathlib.Nat.{lt_of_le_of_lt, div-le_of_le-mul}
use borrow.Author.Tests.{eq-eqb, ne_eqb}
use Rattle.quota.specs.inner.Play.{outer_for}
use Rattle.quota.proofs.start.outer_of.Goals as goal

pub returns-then-whole-eq0 : goal.returns-then-whole-eq0
unfolding outer_for
returns-then-whole-eq0 c = rw (eq-eqb _ 0 c.if-whole-eq0.true)

pub overflow_mul-result : goal.overflow_mul-result
overflow_mul-result c =
    record { fits = lt_of_le_of_lt c.requires.share c.requires.fits.fits }

pub nonzero_div-result : goal.nonzero_div-result
nonzero_div-result c = omega (arith, c.requires.someone)

pub overflow_sub-result : goal.overflow_sub-result
overflow_sub-result c =
    omega (arith, div-le_of_le-mul c.args.population c.requires.share)

pub returns : goal.returns
unfolding outer_for
returns c = rw (ne_eqb _ 0 c.if-whole-eq0.false)

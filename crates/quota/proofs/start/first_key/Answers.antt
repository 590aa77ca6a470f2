-- `quota::start::first_key` meets its contract.
use native.Mathlib.Omega.{arith}
use borrow.Author.Tests.{eq-eqb, ne_eqb}
use Rattle.quota.specs.inner.Play.{first_key_for}
use Rattle.quota.proofs.start.first_key.Goals as goal

pub key_of-requires : goal.key_of-requires
key_of-requires c = (c.requires, omega arith)

pub returns-then-whole-eq0 : goal.returns-then-whole-eq0
unfolding first_key_for
returns-then-whole-eq0 c =
    rw (eq-eqb _ 0 c.if-whole-eq0.true) c.key_of.ensures

pub returns : goal.returns
unfolding first_key_for
returns c = rw (ne_eqb _ 0 c.if-whole-eq0.false)

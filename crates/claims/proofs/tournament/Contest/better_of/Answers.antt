-- `claims::tournament::Contest::better_of` meets its contract: the tests that were made pick the case of the definition.
use Rattle.std.proofs.Common.{sym, ◌∙◌, lt-ltb, le-ltb}
use Rattle.claims.specs.inner.Tournament.{better}
use Rattle.claims.proofs.tournament.Contest.better_of.Goals as goal

pub returns-then-comes_before : goal.returns-then-comes_before
unfolding better
returns-then-comes_before g c =
    simp (lt-ltb _ _ c.if-a-b.true, sym c.comes_before.ensures ∙ c.if-comes_before.true)

pub returns-else-comes_before : goal.returns-else-comes_before
unfolding better
returns-else-comes_before g c =
    simp (lt-ltb _ _ c.if-a-b.true, sym c.comes_before.ensures ∙ c.if-comes_before.false)

pub returns-then-comes_before-2 : goal.returns-then-comes_before-2
unfolding better
returns-then-comes_before-2 g c =
    simp (le-ltb _ _ c.if-a-b.false, sym c.comes_before-else-a-b.ensures ∙ c.if-comes_before-2.true)

pub returns-else-comes_before-2 : goal.returns-else-comes_before-2
unfolding better
returns-else-comes_before-2 g c =
    simp (le-ltb _ _ c.if-a-b.false, sym c.comes_before-else-a-b.ensures ∙ c.if-comes_before-2.false)

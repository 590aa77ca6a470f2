-- `check_entry` makes the checks of its list in their order.
use mathlib.Core.Path.{◌∙◌, sym}
use native.Mathlib.Omega.{arith}
use borrow.Author.Tests.{lt-ltb, le-ltb}
use Rattle.apportionment.specs.Limits.{sum_limit}
use Rattle.apportionment.specs.Refusals.{first_refusal}
use Rattle.apportionment.specs.inner.Checks.{inside_limits}
use Rattle.lines.specs.inner.Lines.{entry_refusal}
use Rattle.lines.proofs.pairs.check_entry.Goals as goal

pub returns-then-outside : goal.returns-then-outside
unfolding entry_refusal first_refusal
returns-then-outside c = simp (sym c.outside.ensures ∙ c.if-outside.true)

pub returns-then-used : goal.returns-then-used
unfolding entry_refusal first_refusal
returns-then-used c =
    simp (sym c.outside.ensures ∙ c.if-outside.false, c.if-used.true)

pub overflow_add-sum : goal.overflow_add-sum
overflow_add-sum c =
    omega (arith, inside_limits sum_limit _ (sym c.outside.ensures ∙ c.if-outside.false))

pub returns-then-sum-p-gt-SUM_LIMIT : goal.returns-then-sum-p-gt-SUM_LIMIT
unfolding entry_refusal first_refusal
returns-then-sum-p-gt-SUM_LIMIT c =
    simp (
      sym c.outside.ensures ∙ c.if-outside.false,
      c.if-used.false,
      lt-ltb _ _ c.if-sum-p-gt-SUM_LIMIT.true,
    )

pub returns : goal.returns
unfolding entry_refusal first_refusal
returns c =
    simp (
      sym c.outside.ensures ∙ c.if-outside.false,
      c.if-used.false,
      le-ltb _ _ c.if-sum-p-gt-SUM_LIMIT.false,
    )

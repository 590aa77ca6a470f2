-- `says` makes the definition's tests in its order.
use mathlib.Core.Path.{◌∙◌, sym}
use Rattle.lines.specs.Lines.{is_unknown, method_in, head_read}
use Rattle.lines.specs.inner.Lines.{head_says}
use Rattle.lines.proofs.head.says.Goals as goal

pub returns-in_default : goal.returns-in_default
unfolding head_says is_unknown
returns-in_default c = simp c.in_default.is

pub returns-then-outside : goal.returns-then-outside
unfolding head_says is_unknown
returns-then-outside c =
    simp (c.in-Some.is, sym c.outside.ensures ∙ c.if-outside.true)

pub returns-then-outside-2 : goal.returns-then-outside-2
unfolding head_says is_unknown
returns-then-outside-2 c =
    simp (
      c.in-Some.is,
      sym c.outside.ensures ∙ c.if-outside.false,
      sym c.outside-2.ensures ∙ c.if-outside-2.true,
    )

pub returns : goal.returns
unfolding head_says is_unknown head_read method_in
returns c =
    simp (
      c.in-Some.is,
      sym c.outside.ensures ∙ c.if-outside.false,
      sym c.outside-2.ensures ∙ c.if-outside-2.false,
    )

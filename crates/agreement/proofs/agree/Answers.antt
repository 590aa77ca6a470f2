-- `agreement::agree` meets its contract: of a placing just opened the shorter test says the same as the two others.
use mathlib.Core.Path.{sym, ◌∙◌}
use Rattle.agreement.specs.inner.Agreement.{agreeing, agreeing_at_start}
use Rattle.agreement.proofs.agree.Goals as goal

pub returns-then-is_start : goal.returns-then-is_start
returns-then-is_start c =
    rw (
      c.if-steps-eq0.true,
      ← agreeing_at_start c.requires.0 c.requires.1 c.args.total,
      sym c.is_start.ensures ∙ c.if-is_start.true,
      c.total_of.ensures,
    )

pub returns-then-steps-eq0 : goal.returns-then-steps-eq0
returns-then-steps-eq0 c =
    rw (
      c.if-steps-eq0.true,
      ← agreeing_at_start c.requires.0 c.requires.1 c.args.total,
      sym c.is_start.ensures ∙ c.if-is_start.false,
    )

pub returns-then-steps_agree : goal.returns-then-steps_agree
unfolding agreeing
returns-then-steps_agree c = rw (sym c.steps_agree.ensures ∙ c.if-steps_agree.true) c.seats_agree.ensures

pub returns : goal.returns
unfolding agreeing
returns c = rw (sym c.steps_agree.ensures ∙ c.if-steps_agree.false)

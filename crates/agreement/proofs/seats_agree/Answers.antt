-- `agreement::seats_agree` meets its contract: the tests are made in the definition's order, and the last one only where the seats
-- can be worked on.
use mathlib.Core.Path.{sym, ◌∙◌}
use borrow.Author.Tests.{eq-eqb, ne_eqb}
use Rattle.agreement.specs.inner.Agreement.{seats_agree, seats_seated}
use Rattle.agreement.proofs.seats_agree.Goals as goal

pub returns-then-total_of-total : goal.returns-then-total_of-total
unfolding seats_agree
returns-then-total_of-total c = simp (ne_eqb _ _ (λ e. c.if-total_of-total.true (c.total_of.ensures ∙ e)))

pub ends_apart-requires : goal.ends_apart-requires
ends_apart-requires c =
    seats_seated c.requires (sym c.each_within.ensures ∙ c.if-each_within.true)

pub returns-then-each_within : goal.returns-then-each_within
unfolding seats_agree
returns-then-each_within c =
    simp (
      eq-eqb _ _ (sym c.total_of.ensures ∙ c.if-total_of-total.false),
      sym c.each_within.ensures ∙ c.if-each_within.true,
      c.ends_apart.ensures,
    )

pub returns : goal.returns
unfolding seats_agree
returns c =
    simp (
      eq-eqb _ _ (sym c.total_of.ensures ∙ c.if-total_of-total.false),
      sym c.each_within.ensures ∙ c.if-each_within.false,
    )

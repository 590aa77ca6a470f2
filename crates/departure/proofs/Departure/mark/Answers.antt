-- `departure::Departure::mark` is right because it tests the two limits in the definition's order.
use mathlib.Core.Path.{◌∙◌, sym}
use Rattle.apportionment.specs.Quantities.{mark_of}
use Rattle.departure.specs.inner.Exact.{size}
use Rattle.departure.proofs.Departure.mark.Goals as goal

pub returns-then-at_most : goal.returns-then-at_most
unfolding mark_of size
returns-then-at_most c = simp (sym c.at_most.ensures ∙ c.if-at_most.true)

pub returns-then-at_most-2 : goal.returns-then-at_most-2
unfolding mark_of size
returns-then-at_most-2 c =
    simp (sym c.at_most.ensures ∙ c.if-at_most.false, sym c.at_most-2.ensures ∙ c.if-at_most-2.true)

pub returns : goal.returns
unfolding mark_of size
returns c =
    simp (sym c.at_most.ensures ∙ c.if-at_most.false, sym c.at_most-2.ensures ∙ c.if-at_most-2.false)

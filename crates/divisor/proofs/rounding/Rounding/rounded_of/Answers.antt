-- `divisor::rounding::Rounding::rounded_of` is right because its test against the average is the definition's, in machine words.
use Rattle.divisor.specs.inner.Rounding.{rounded_by_test}
use Rattle.divisor.proofs.rounding.Rounding.rounded_of.Goals as goal

pub returns-then-claim_less : goal.returns-then-claim_less
returns-then-claim_less c =
    rounded_by_test _ _ _ _ c.weight_of.ensures c.weight_of-2.ensures
    c.claim_of-claim.ensures c.claim_less.ensures c.if-claim_less.true

pub returns : goal.returns
returns c =
    rounded_by_test _ _ _ _ c.weight_of.ensures c.weight_of-2.ensures
    c.claim_of-claim.ensures c.claim_less.ensures c.if-claim_less.false

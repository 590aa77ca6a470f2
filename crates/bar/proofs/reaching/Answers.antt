use Rattle.std.proofs.Common.{rules, ◌^◌, arith, tests}
use Rattle.std.proofs.lemmas.Iterator.Adapters.{fits_from_length, at_most_from_yields_List}
use Rattle.std.proofs.lemmas.Iterator.{YieldsList-from_slice}
use Rattle.bar.specs.inner.Reaching.{all_reaching}
use Rattle.bar.proofs.reaching.Goals as goal

-- Each precedence adds 1 at most, and a slice has fewer than 2^63.
pub sum-requires-clause-fits : goal.sum-requires-clause-fits
sum-requires-clause-fits c =
    fits_from_length _ _ (2 ^ 63) (2 ^ 64)
    (at_most_from_yields_List (YieldsList-from_slice c.args.precedences.now cc) (omega arith))
    c.map.ensures.closure
    (omega arith)
    (λ x r q k. search (rules, tests))

pub returns : goal.returns
returns c = rw all_reaching (search rules)

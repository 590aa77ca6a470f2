-- `agreement::lists::each_within` meets its contract: every number is tried in turn.
use mathlib.Core.Path.{◌∙◌}
use Rattle.std.proofs.Common.{rules}
use Rattle.std.proofs.lemmas.Iterator.{YieldsList-from_slice}
use Rattle.std.proofs.lemmas.Iterator.Search.{all_from_yields_List}
use Rattle.apportionment.specs.Refusals.{within}
use Rattle.agreement.specs.inner.Lists.{each_within_all}
use Rattle.agreement.proofs.lists.each_within.Goals as goal

pub returns : goal.returns
returns c =
    all_from_yields_List (within c.args.house) _ _ _ c.all.ensures.ran (YieldsList-from_slice c.args.seats.now cc)
    (λ x b q k. search rules)
    ∙ each_within_all _ _

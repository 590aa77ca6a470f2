-- `Placing::empty` meets its contract: lists of zeros are empty lists filled up.
use borrow.Author.Rules.{rules}
use Rattle.placing.specs.Placing.{empty_placing, padded}
use Rattle.placing.proofs.Placing.empty.Goals as goal

pub returns : goal.returns
unfolding empty_placing padded
returns c = search rules

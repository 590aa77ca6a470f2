-- `House::place` meets its contract: the scan gives a state of the list, and one seat more there is the theory's move.
use borrow.Author.Rules.{scaled_Fits}
use Rattle.apportionment.specs.Divisor.{one_more}
use Rattle.claims.specs.inner.Order.{placed}
use Rattle.leximin.specs.inner.Moves.{unmet_inside}
use Rattle.leximin.proofs.house.House.place.Goals as goal

pub offset_bounds-seats-at : goal.offset_bounds-seats-at
offset_bounds-seats-at c =
    scaled_Fits _ _ 8
    (unmet_inside c.requires c.first_unmet-at.ensures)
    c.well_formed.1.0.1

pub bounds-seats-at : goal.bounds-seats-at
bounds-seats-at c =
    unmet_inside c.requires c.first_unmet-at.ensures

pub bounds-seats-at-2 : goal.bounds-seats-at-2
bounds-seats-at-2 c = unmet_inside c.requires c.first_unmet-at.ensures

pub returns : goal.returns
unfolding placed one_more
returns c = rw c.first_unmet-at.ensures

-- `House::withdraw` meets its contract: the scan gives a state of the list, which has a seat, and one seat less there is the
-- theory's move.
use native.Mathlib.Omega.{arith}
use borrow.Author.Rules.{scaled_Fits}
use Rattle.claims.specs.inner.Order.{withdrawn, one_less}
use Rattle.leximin.specs.inner.Moves.{met_inside}
use Rattle.leximin.proofs.house.House.withdraw.Goals as goal

pub offset_bounds-seats-at : goal.offset_bounds-seats-at
offset_bounds-seats-at c =
    scaled_Fits _ _ 8
    (met_inside c.requires.bounded c.last_met-at.ensures)
    c.well_formed.1.0.1

pub bounds-seats-at : goal.bounds-seats-at
bounds-seats-at c =
    met_inside c.requires.bounded c.last_met-at.ensures

pub overflow_sub-seats : goal.overflow_sub-seats
overflow_sub-seats c =
    omega (
      arith,
      c.requires.least c.last_met-at.result
          (rw c.requires.bounded.fillable.same_length at (met_inside c.requires.bounded c.last_met-at.ensures)),
    )

pub bounds-seats-at-2 : goal.bounds-seats-at-2
bounds-seats-at-2 c = met_inside c.requires.bounded c.last_met-at.ensures

pub returns : goal.returns
unfolding withdrawn one_less
returns c = rw c.last_met-at.ensures

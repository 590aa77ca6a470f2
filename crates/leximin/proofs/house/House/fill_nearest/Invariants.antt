-- `House::fill_nearest` meets its contract: every place passed holds its state's nearest seats, and a list that does so at every
-- place is the start.
use Rattle.apportionment.specs.inner.Filling.{FilledTo}
use Prim.Native.Nat.{ℕ}
use lib.ListN.{length, get_or}
use Rattle.claims.specs.inner.SizeClaims.{nearest_rounded}
use Rattle.leximin.proofs.house.House.fill_nearest.Given as goal

abbrev pub invariant-loop-i : goal.invariant-loop-i
invariant-loop-i l =
    let house = l.self in
    let ps = house.populations.now in
    FilledTo (λ (k : ℕ). nearest_rounded (get_or ps k 0) house.total house.house) (length ps) l.i l.seats

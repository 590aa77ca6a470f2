-- `House::last_met` meets its contract: the candidate is the theory's first place, in the order of giving up, of those looked at;
-- one place more is one step of that definition.
use Prim.Native.Nat.{◌-◌}
use Rattle.apportionment.specs.Lists.{first_place}
use Rattle.claims.specs.inner.Order.{gives_up_before}
use Rattle.claims.specs.inner.SizeClaims.{size_test, one_each}
use Rattle.leximin.specs.inner.Scan.{GiverIs}
use Rattle.leximin.proofs.house.House.last_met.Given as goal

abbrev pub invariant-loop-i : goal.invariant-loop-i
invariant-loop-i l =
    GiverIs l.self.populations.now l.seats l.self.total l.self.house
    (first_place (gives_up_before one_each (size_test l.self.populations.now l.self.house) l.seats) (l.i - 1)) l.best

-- `House::first_unmet` meets its contract: the candidate is the theory's first place of those looked at, with its claim; one
-- place more is one step of that definition.
use Prim.Native.Nat.{◌-◌}
use Rattle.apportionment.specs.Lists.{first_place}
use Rattle.claims.specs.inner.Order.{wants_before}
use Rattle.claims.specs.inner.SizeClaims.{size_test}
use Rattle.leximin.specs.inner.Scan.{CandidateIs}
use Rattle.leximin.proofs.house.House.first_unmet.Given as goal

abbrev pub invariant-loop-i : goal.invariant-loop-i
invariant-loop-i l =
    CandidateIs l.self.populations.now l.seats l.self.total l.self.house
    (first_place (wants_before (size_test l.self.populations.now l.self.house) l.seats) (l.i - 1)) l.best

-- `leximin::tournament::Seating::wants_before` meets its contract: both states are at or above their starts, so their next claims can be
-- compared by quotients.
use Rattle.claims.specs.inner.Order.{wants_before}
use Rattle.claims.specs.inner.SizeClaims.{size_test}
use Rattle.leximin.specs.inner.Sided.{sided_problem, climbing_claim}
use Rattle.leximin.proofs.tournament.Seating.wants_before.Goals as goal

pub climbs_before-requires : goal.climbs_before-requires
climbs_before-requires c =
    let sided = rw c.requires.0 at c.args.self.now.sided in
    (climbing_claim c.args.i c.requires.1.0 sided, climbing_claim c.args.j c.requires.1.1 sided)

pub returns : goal.returns
unfolding wants_before size_test
returns c = rw (← (sided_problem c.args.self.now.sided).states.sums) c.climbs_before.ensures

use native.Mathlib.Nat.{le_antisymm, le_refl}
use mathlib.Core.Path.{◌≡◌, refl}
use lib.ListN.{length}
use Rattle.apportionment.specs.Lists.{first_place}
use Rattle.claims.specs.inner.Order.{first_unmet}
use Rattle.leximin.specs.inner.Scan.{candidate_next, state_with}
use Rattle.leximin.proofs.house.House.first_unmet.Goals as goal

pub claim_of-claim-requires : goal.claim_of-claim-requires
claim_of-claim-requires c = state_with c.requires 0 (le_refl _)

pub loop-i-init : goal.loop-i-init
unfolding first_place
loop-i-init c = record { place = refl; claim = c.claim_of-claim.ensures }

pub claim_of-next-requires : goal.claim_of-next-requires
claim_of-next-requires c = state_with c.requires c.loop-i.i (le_refl _)

pub loop-i-preserved : goal.loop-i-preserved
loop-i-preserved c =
    rw c.better_candidate-best.ensures
    (candidate_next _ _ _ _ c.requires.fillable.problem c.loop-i.i c.loop-i.auto.i c.loop-i.invariant c.claim_of-next.ensures)

pub returns : goal.returns
unfolding first_unmet
returns c =
    let all : c.loop-i.i ≡ length c.args.self.now.populations.now =
    le_antisymm (c.loop-i.auto.i-end c.requires.fillable.problem.states.some_state) c.loop-i-test.false in
    rw (← all) c.loop-i.invariant.place

use native.Mathlib.Omega.{arith}
use native.Mathlib.Nat.{le_antisymm}
use mathlib.Core.Path.{◌≡◌}
use lib.ListN.{length}
use Rattle.apportionment.specs.Lists.{first_place}
use Rattle.claims.specs.inner.Order.{last_met}
use Rattle.leximin.specs.inner.Scan.{giver_next, state_with}
use Rattle.leximin.proofs.house.House.last_met.Goals as goal

pub giver_of-best-requires : goal.giver_of-best-requires
giver_of-best-requires c = state_with c.requires.bounded 0 (omega arith)

pub loop-i-init : goal.loop-i-init
unfolding first_place
loop-i-init c = c.giver_of-best.ensures

pub giver_of-next-requires : goal.giver_of-next-requires
giver_of-next-requires c = state_with c.requires.bounded c.loop-i.i (omega arith)

pub loop-i-preserved : goal.loop-i-preserved
loop-i-preserved c =
    rw c.better_giver-best.ensures
    (giver_next _ _ _ _ c.requires.bounded.fillable.problem c.loop-i.i c.loop-i.auto.i c.loop-i.invariant c.giver_of-next.ensures)

pub returns : goal.returns
unfolding last_met
returns c =
    let all : c.loop-i.i ≡ length c.args.self.now.populations.now =
    le_antisymm (c.loop-i.auto.i-end c.requires.bounded.fillable.problem.states.some_state) c.loop-i-test.false in
    rw (← all) c.loop-i.invariant.place

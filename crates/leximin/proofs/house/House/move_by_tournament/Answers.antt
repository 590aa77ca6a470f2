use native.Mathlib.Omega.{arith}
use Rattle.claims.specs.inner.Moves.{after_none}
use Rattle.leximin.specs.inner.Moves.{movable_sided, moving_sided, root_inside, root_has_seats, root_moved, root_sided, root_due}
use Rattle.leximin.proofs.house.House.move_by_tournament.Goals as goal

pub invariant_of-begun : goal.invariant_of-begun
invariant_of-begun c = record { sided = movable_sided c.requires.0 }

pub loop-init : goal.loop-init
loop-init c = record { seats = after_none _ _ _ _ _; winners = c.play.ensures }

pub bounds-seats-state : goal.bounds-seats-state
bounds-seats-state c = root_has_seats c.requires.0 c.loop.invariant c.from-state.ensures (omega (arith, c.loop-test.true))

pub moved-requires : goal.moved-requires
moved-requires c =
    let now = moving_sided c.requires.0 c.loop.invariant (omega (arith, c.loop-test.true)) in
    omega (arith, now.seated.bounded.seats_within c.from-state.result)

pub bounds-seats-state-in-loop : goal.bounds-seats-state-in-loop
bounds-seats-state-in-loop c = root_has_seats c.requires.0 c.loop.invariant c.from-state.ensures (omega (arith, c.loop-test.true))

pub invariant_of-now : goal.invariant_of-now
invariant_of-now c =
    record { sided = root_sided c.requires.0 c.loop.invariant c.from-state.ensures c.moved.ensures c.loop-test.true }

pub replay-requires-clause-inside : goal.replay-requires-clause-inside
replay-requires-clause-inside c = root_inside c.requires.0 c.loop.invariant c.from-state.ensures

pub replay-requires-clause-due : goal.replay-requires-clause-due
replay-requires-clause-due c = root_due c.requires.0 c.loop.invariant c.from-state.ensures c.moved.ensures c.loop-test.true

pub loop-preserved : goal.loop-preserved
loop-preserved c =
    record {
      seats = root_moved c.requires.0 c.loop.invariant c.from-state.ensures c.moved.ensures c.loop-test.true;
      winners = c.replay.ensures;
    }

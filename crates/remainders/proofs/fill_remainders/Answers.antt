-- `remainders::fill_remainders` meets its contract: the room for precedences is as long as the list of states, which the limit allows.
use native.Mathlib.Omega.{arith}
use lib.ListN.{length-take}
use Rattle.remainders.proofs.fill_remainders.Goals as goal

pub slice_bounds-fill_with_room-end : goal.slice_bounds-fill_with_room-end
slice_bounds-fill_with_room-end c = simp length-take (omega (arith, c.requires.problem.states.states_within))

pub fill_with_room-requires : goal.fill_with_room-requires
fill_with_room-requires c =
    record { fillable = c.requires; precedences_len = simp length-take (omega (arith, c.requires.problem.states.states_within)) }

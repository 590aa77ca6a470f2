-- `quota::fill_counted` meets its contract: the room is as long as the list of states, which the limit allows, and holds zeros.
use native.Mathlib.Omega.{arith}
use lib.ListN.{length-take}
use Rattle.quota.proofs.fill_counted.Goals as goal

pub slice_bounds-outside-end : goal.slice_bounds-outside-end
slice_bounds-outside-end c =
    simp length-take (omega (arith, c.requires.fillable.problem.states.states_within))

pub slice_bounds-outside-end-2 : goal.slice_bounds-outside-end-2
slice_bounds-outside-end-2 c =
    simp length-take (omega (arith, c.requires.fillable.problem.states.states_within))

pub slice_bounds-waiting-end : goal.slice_bounds-waiting-end
slice_bounds-waiting-end c =
    simp length-take (omega (arith, c.requires.fillable.problem.states.states_within))

pub slice_bounds-waiting-end-2 : goal.slice_bounds-waiting-end-2
slice_bounds-waiting-end-2 c =
    simp length-take (omega (arith, c.requires.fillable.problem.states.states_within))

pub fill_with_room-requires : goal.fill_with_room-requires
fill_with_room-requires c = record {
  fillable = c.requires.fillable;
  room = record {
    due_long = c.requires.due_len.0;
    none_due = c.requires.due_len.1;
    outers_long = simp length-take (omega (arith, c.requires.fillable.problem.states.states_within));
    arrivals_long = simp length-take (omega (arith, c.requires.fillable.problem.states.states_within));
    keys_long = simp length-take (omega (arith, c.requires.fillable.problem.states.states_within));
    ranking_long = simp length-take (omega (arith, c.requires.fillable.problem.states.states_within));
  };
}

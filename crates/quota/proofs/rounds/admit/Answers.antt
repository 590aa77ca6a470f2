use native.Mathlib.Omega.{arith}
use lib.ListN.{get_or}
use Rattle.quota.specs.inner.Play.{turn_entries, outer_within, arrival_lt}
use Rattle.quota.specs.inner.Play.{turn_admitted, none_due_lem}
use Rattle.quota.proofs.rounds.admit.Goals as goal

pub loop-outside-init : goal.loop-outside-init
loop-outside-init c =
    c.requires

pub offset_bounds-outside-first : goal.offset_bounds-outside-first
offset_bounds-outside-first c =
    omega (arith, c.first.ensures, arrival_lt c.loop-outside.invariant, c.loop-outside.invariant.problem.states.states_within)

pub bounds-outside-first : goal.bounds-outside-first
bounds-outside-first c =
    omega (arith, c.first.ensures, arrival_lt c.loop-outside.invariant, c.loop-outside.invariant.staged.outers_long)

pub overflow_add-outside : goal.overflow_add-outside
overflow_add-outside c =
    let t = c.loop-outside.invariant in
    rw c.first.ensures
    (omega (arith, outer_within t.staged (get_or c.loop-outside.outside.tree.now 1 0) (arrival_lt t), t.inside, t.problem.house_within))

pub admit_one-requires : goal.admit_one-requires
admit_one-requires c = turn_entries c.loop-outside.invariant

pub loop-outside-smaller : goal.loop-outside-smaller
loop-outside-smaller c =
    let one = c.admit_one.ensures in
    let due = rw c.first.ensures at c.loop-outside-test.true in
    (turn_admitted c.loop-outside.invariant (omega (arith, due)) one.one_admitted one.played).1

pub loop-outside-preserved : goal.loop-outside-preserved
loop-outside-preserved c =
    let one = c.admit_one.ensures in
    let due = rw c.first.ensures at c.loop-outside-test.true in
    (turn_admitted c.loop-outside.invariant (omega (arith, due)) one.one_admitted one.played).0

pub returns : goal.returns
returns c =
    let late = rw c.first.ensures at c.loop-outside-test.false in
    none_due_lem c.loop-outside.invariant (omega (arith, late))

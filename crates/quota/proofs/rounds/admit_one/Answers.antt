-- `quota::rounds::admit_one` meets its contract: the root of the arrivals is one of the states, and both keys are set there.
use native.Mathlib.Nat.{le_trans}
use native.Mathlib.Omega.{arith}
use Rattle.apportionment.specs.inner.Lists.{entry_at_most_sum}
use Rattle.apportionment.specs.inner.Problem.{entry_at_most_total}
use Rattle.quota.specs.inner.Play.{entries_root_lt}
use Rattle.quota.proofs.rounds.admit_one.Goals as goal

pub offset_bounds-populations-place : goal.offset_bounds-populations-place
offset_bounds-populations-place c =
    omega (arith, entries_root_lt c.requires, c.requires.states.states_within)

pub bounds-populations-place : goal.bounds-populations-place
bounds-populations-place c = rw c.first-place.ensures (entries_root_lt c.requires)

pub offset_bounds-seats-place : goal.offset_bounds-seats-place
offset_bounds-seats-place c =
    omega (arith, entries_root_lt c.requires, c.requires.states.states_within)

pub bounds-seats-place : goal.bounds-seats-place
bounds-seats-place c =
    omega (arith, entries_root_lt c.requires, c.requires.seats_long)

pub key_of-key-requires : goal.key_of-key-requires
key_of-key-requires c = (
  le_trans (entry_at_most_total c.requires.states _) c.requires.states.sum_within,
  le_trans (entry_at_most_sum c.args.seats.now _) c.requires.seats_within,
)

pub set-requires : goal.set-requires
set-requires c =
    (c.requires.outer_played, omega (arith, entries_root_lt c.requires, c.requires.outers_long))

pub set-requires-2 : goal.set-requires-2
set-requires-2 c =
    (c.requires.key_played, omega (arith, entries_root_lt c.requires, c.requires.keys_long))

pub returns : goal.returns
returns c = record {
  one_admitted = record {
    outer = rw c.first-place.ensures at c.set.ensures.keys_after;
    key = rw (c.key_of-key.ensures, c.first-place.ensures) at c.set-2.ensures.keys_after;
  };
  played = (c.set.ensures.played, c.set-2.ensures.played);
}

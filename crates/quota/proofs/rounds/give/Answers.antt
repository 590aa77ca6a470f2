-- `quota::rounds::give` meets its contract: the root of the ranking is one of the states.
use native.Mathlib.Omega.{arith}
use Rattle.apportionment.specs.Divisor.{one_more}
use Rattle.apportionment.specs.inner.Lists.{entry_at_most_sum}
use Rattle.keys.specs.inner.Tournament.{root_lt}
use Rattle.quota.proofs.rounds.give.Goals as goal

pub offset_bounds-seats-place : goal.offset_bounds-seats-place
offset_bounds-seats-place c =
    omega (arith, root_lt c.args.waiting.now.keys.now c.requires.key_played c.requires.some, c.requires.same_length)

pub bounds-seats-place : goal.bounds-seats-place
bounds-seats-place c =
    omega (arith, root_lt c.args.waiting.now.keys.now c.requires.key_played c.requires.some, c.requires.same_length)

pub overflow_add-seats : goal.overflow_add-seats
overflow_add-seats c =
    omega (arith, entry_at_most_sum c.args.seats.now c.first-place.result, c.requires.seats_within)

pub bounds-seats-place-2 : goal.bounds-seats-place-2
bounds-seats-place-2 c =
    omega (arith, root_lt c.args.waiting.now.keys.now c.requires.key_played c.requires.some, c.requires.same_length)

pub set-requires : goal.set-requires
set-requires c =
    (c.requires.key_played, rw c.first-place.ensures (root_lt c.args.waiting.now.keys.now c.requires.key_played c.requires.some))

pub returns : goal.returns
unfolding one_more
returns c = record {
  seats_after = rw c.first-place.ensures;
  keys_after = rw c.first-place.ensures at c.set.ensures.keys_after;
  played = c.set.ensures.played;
}

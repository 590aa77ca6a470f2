-- `quota::rounds::serve_one` meets its contract: a seat of a whole part that waits goes first, and the root of the ranking is the
-- state whose turn it is.
use mathlib.Core.Path.{refl}
use native.Mathlib.Omega.{arith}
use Rattle.quota.specs.inner.Play.{can_give, given_by_turn, part_goes_first}
use Rattle.quota.proofs.rounds.serve_one.Goals as goal

pub admit-requires : goal.admit-requires
admit-requires c =
    c.requires.turn

pub give-requires : goal.give-requires
give-requires c =
    can_give c.requires.turn.problem c.requires.turn.inside c.requires.turn.seats_within c.admit.ensures

pub returns-then-due-eq0 : goal.returns-then-due-eq0
returns-then-due-eq0 c =
    let given =
    given_by_turn c.requires.turn.problem c.requires.turn.inside c.requires.turn.seats_within c.admit.ensures
    c.if-due-eq0.true c.requires.owed c.give.ensures.seats_after c.give.ensures.keys_after c.give.ensures.played in
    record { value = omega (arith, c.if-due-eq0.true); seats_after = given.0; in_play = given.1 }

pub returns : goal.returns
returns c =
    let first = part_goes_first c.if-due-eq0.false c.requires.turn in
    record { value = refl; seats_after = first.0; in_play = first.1 }

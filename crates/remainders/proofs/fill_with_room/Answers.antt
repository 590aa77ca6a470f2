-- `remainders::fill_with_room` meets its contract: whole parts, their precedences and the seats that are left make the definition's seats.
use mathlib.Core.Path.{◌∙◌}
use native.Mathlib.Omega.{arith}
use lib.ListN.{length}
use Rattle.apportionment.specs.inner.WholeParts.{whole_parts_within}
use Rattle.remainders.specs.inner.Seats.{has_room, is_searchable, seats_are_allotted}
use Rattle.remainders.proofs.fill_with_room.Goals as goal

pub overflow_sub-house : goal.overflow_sub-house
overflow_sub-house c =
    omega (
      arith,
      c.fill_parts-parts.ensures.given_is,
      whole_parts_within c.requires.fillable.problem (length c.args.populations.now),
    )

pub give_left-requires : goal.give_left-requires
give_left-requires c =
    let ok = c.requires.fillable.problem in
    let parts = c.fill_parts-parts.ensures in
    record { searchable = is_searchable ok parts; has_room = has_room ok parts }

pub returns : goal.returns
returns c =
    c.give_left.ensures ∙ seats_are_allotted c.requires.fillable.problem c.fill_parts-parts.ensures

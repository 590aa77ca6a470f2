-- `remainders::give_left` meets its contract: served by a bar, a state has a seat that is left exactly if its rank is below their number.
use Rattle.remainders.specs.inner.Seats.{served_by_found_bar}
use Rattle.remainders.proofs.give_left.Goals as goal

pub returns : goal.returns
returns c =
    served_by_found_bar c.args.seats.now c.bar_of-found.ensures c.requires.has_room.same_length c.serve.ensures

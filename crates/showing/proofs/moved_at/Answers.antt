-- `showing::moved_at` meets its contract: the parts in which the first difference is looked for are the placings' own seats.
use Rattle.showing.specs.Work.{moved_at, seats_in}
use Rattle.showing.proofs.moved_at.Goals as goal

pub returns : goal.returns
unfolding moved_at seats_in
returns c = rw c.requires.1 c.first_difference.ensures

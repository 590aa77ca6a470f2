-- `Work::put_step` meets its contract: the state that moved is within the limits before its step and after it, and its line is written.
use Rattle.showing.specs.Work.{step_text}
use Rattle.showing.specs.inner.Showable.{moved_from, moved_to}
use Rattle.showing.proofs.Work.put_step.Goals as goal

pub put_step-requires : goal.put_step-requires
put_step-requires c = rw c.moved_at-place.ensures (moved_from c.requires, moved_to c.requires)

pub returns : goal.returns
unfolding step_text
returns c = rw (c.name_on.ensures, c.moved_at-place.ensures) at c.put_step.ensures

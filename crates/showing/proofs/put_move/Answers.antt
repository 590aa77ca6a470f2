-- `showing::put_move` meets its contract: what was weighed, then the step.
use Rattle.std.proofs.Common.{rules}
use Rattle.showing.specs.Work.{move_text}
use Rattle.writing.specs.inner.Page.{appended_then, written_whole}
use Rattle.showing.proofs.put_move.Goals as goal

pub returns : goal.returns
unfolding move_text
returns c =
    written_whole c.new-page.ensures.begun (appended_then c.put_weighed.ensures c.put_step.ensures) (search rules) c.place.ensures

-- `showing::put_start` meets its contract: the first line, then the states.
use Rattle.std.proofs.Common.{rules}
use Rattle.showing.specs.Work.{start_text}
use Rattle.writing.specs.inner.Page.{appended_then, written_whole}
use Rattle.showing.proofs.put_start.Goals as goal

pub returns : goal.returns
unfolding start_text
returns c =
    written_whole c.new-page.ensures.begun (appended_then c.put_head.ensures c.put_states.ensures) (search rules) c.place.ensures

-- `showing::put_end` meets its contract: the states.
use Rattle.std.proofs.Common.{rules}
use Rattle.showing.specs.Work.{end_text}
use Rattle.writing.specs.inner.Page.{written_whole}
use Rattle.showing.proofs.put_end.Goals as goal

pub returns : goal.returns
unfolding end_text
returns c = written_whole c.new-page.ensures.begun c.put_states.ensures (search rules) c.place.ensures

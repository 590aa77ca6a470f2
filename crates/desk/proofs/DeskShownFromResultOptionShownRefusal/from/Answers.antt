-- Each arm has that answer's number and values.
use Rattle.std.proofs.Common.{rules}
use Rattle.departure.specs.Answer.{shown_in, mark_in}
use Rattle.desk.specs.Interface.{exported_shown}
use Rattle.desk.specs.inner.Exported.{exported_answer}
use Rattle.desk.proofs.DeskShownFromResultOptionShownRefusal.from.Goals as goal

pub returns-in-Ok-Some : goal.returns-in-Ok-Some
unfolding exported_answer exported_shown shown_in mark_in
returns-in-Ok-Some c = search (rules, c.in-Ok-Some.is, c.in-Ok-Some.field-0-is, c.in-Ok-Some.field-0-0-is)

pub returns-in-Ok-None : goal.returns-in-Ok-None
unfolding exported_answer exported_shown shown_in mark_in
returns-in-Ok-None c = search (rules, c.in-Ok-None.is, c.in-Ok-None.field-0-is)

pub returns-in-Err : goal.returns-in-Err
unfolding exported_answer exported_shown shown_in mark_in
returns-in-Err c = rw (c.in-Err.is, c.number.ensures)

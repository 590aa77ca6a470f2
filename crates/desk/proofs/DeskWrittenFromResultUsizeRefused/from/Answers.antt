-- A refusal has no text.
use Rattle.desk.proofs.DeskWrittenFromResultUsizeRefused.from.Goals as goal

pub returns-in-Err : goal.returns-in-Err
returns-in-Err c = rw (c.in-Err.is, c.number.ensures)

-- The page has room for what is printed.
use Rattle.writing.specs.inner.Writing.{wrote_front}
use Rattle.allotment.proofs.main.Goals as goal

pub answer_register-requires-clause-fits : goal.answer_register-requires-clause-fits
answer_register-requires-clause-fits c = λ register before after size blank wrote. (wrote_front wrote.0 wrote.1).within

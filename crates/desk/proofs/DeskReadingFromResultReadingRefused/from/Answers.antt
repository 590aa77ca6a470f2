-- A reading goes over field by field, but for the method, of which the number is told; a refusal has everything else 0.
use Rattle.register.specs.Register.{refused, no_populations}
use Rattle.desk.specs.Interface.{exported_reading}
use Rattle.desk.proofs.DeskReadingFromResultReadingRefused.from.Goals as goal

pub returns : goal.returns
unfolding exported_reading
returns c = rw (c.in-Ok.is, c.from-2.ensures)

pub returns-in-Err : goal.returns-in-Err
unfolding exported_reading refused no_populations
returns-in-Err c = rw (c.in-Err.is, c.number.ensures, c.from.ensures)

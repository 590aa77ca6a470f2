-- `cleaning::write_clean` meets its contract: a register that is refused is refused with its line, and any other is written clean.
use Rattle.std.proofs.Common.{refl, arith, Ok}
use Rattle.register.specs.Register.{reading_outcome}
use Rattle.register.specs.inner.Sound.{GoodReading}
use Rattle.cleaning.specs.inner.Cleaned.{reading_refused, read_cleanable, read_cleaned}
use Rattle.cleaning.proofs.write_clean.Goals as goal
use Rattle.cleaning.proofs.write_clean.Goals.{In-Ok}

was_read : (c : In-Ok) → GoodReading c.args.register.now (reading_outcome (Ok c.in-Ok.reading))
was_read c = record { reading = rw c.in-Ok.is at c.read_places-read.ensures.reading; good = refl }

pub returns-in-Err : goal.returns-in-Err
returns-in-Err c = reading_refused _ _ c.in-Err.refused (rw c.in-Err.is at c.read_places-read.ensures.reading)

pub copy_by-requires : goal.copy_by-requires
copy_by-requires c =
    let fit = read_cleanable (was_read (goal.at.copy_by-requires c).In-Ok) c.of-rows.ensures in
    record {
      cleanable = (fit, omega arith, omega arith);
      placed = rw c.of-rows.ensures (rw c.in-Ok.is at c.read_places-read.ensures.placed);
    }

pub copy_by-requires-2 : goal.copy_by-requires-2
copy_by-requires-2 c =
    let fit = read_cleanable (was_read (goal.at.copy_by-requires-2 c).In-Ok) c.of-rows.ensures in
    record {
      cleanable = (fit, omega (arith, fit.sound.states), omega arith);
      placed = rw c.of-rows.ensures (rw c.in-Ok.is at c.read_places-read.ensures.placed);
    }

pub returns-then-reading-le-FEW_STATES : goal.returns-then-reading-le-FEW_STATES
returns-then-reading-le-FEW_STATES c =
    read_cleaned (was_read (goal.at.returns-then-reading-le-FEW_STATES c).In-Ok) c.of-rows.ensures c.copy_by.ensures

pub returns : goal.returns
returns c = read_cleaned (was_read (goal.at.returns c).In-Ok) c.of-rows.ensures c.copy_by-2.ensures

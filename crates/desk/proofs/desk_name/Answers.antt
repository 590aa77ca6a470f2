-- `desk::desk_name` is right because what is left from the state's line on is an end of the register, so that the line starts as far in as
-- the register is longer.
use Rattle.std.proofs.Common.{◌≡◌, ap, false, eqb}
use Rattle.apportionment.specs.Refusals.{accepted}
use Rattle.apportionment.specs.inner.Checks.{refusal_has_number}
use Rattle.register.specs.Register.{RefusalTold, rows_of, name_refusal_of}
use Rattle.register.specs.inner.Rows.{name_of_first}
use Rattle.desk.specs.Interface.{part_of}
use Rattle.desk.specs.inner.Part.{line_shorter}
use Rattle.desk.proofs.desk_name.Goals as goal

pub overflow_sub-start : goal.overflow_sub-start
overflow_sub-start c = rw (c.after-left.ensures, c.of.ensures) (line_shorter c.args.bytes.now c.args.place)

pub returns-in-Ok : goal.returns-in-Ok
unfolding part_of
returns-in-Ok c =
    rw (
      c.first_name-name.ensures,
      c.after-left.ensures,
      c.of.ensures,
      name_of_first c.args.place (rows_of c.args.bytes.now),
      ← c.in-Ok.ensures,
    )

pub returns-in-Err : goal.returns-in-Err
unfolding part_of
returns-in-Err c =
    let some : eqb (name_refusal_of c.args.bytes.now c.args.place).number accepted ≡ false =
    rw (ap (λ (t : RefusalTold). t.number) c.in-Err.ensures) at (refusal_has_number c.in-Err.refused.refusal) in
    rw (some, c.number.ensures, ← c.in-Err.ensures)

-- `name` goes to the state's line, of which it lends the first field.
use Rattle.std.proofs.Common.{◌≡◌, ap, ◌∙◌, false, eqb}
use Rattle.apportionment.specs.Refusals.{accepted}
use Rattle.apportionment.specs.inner.Checks.{refusal_has_number}
use Rattle.register.specs.Register.{RefusalTold, name_of, name_refusal_of}
use Rattle.register.proofs.name.Goals as goal

pub returns-in-Ok : goal.returns-in-Ok
unfolding name_of
returns-in-Ok c = c.name_on.ensures ∙ rw (c.of.ensures, ← c.in-Ok.ensures)

pub returns-in-Err : goal.returns-in-Err
unfolding name_of
returns-in-Err c =
    let some : eqb (name_refusal_of c.args.bytes.now c.args.place).number accepted ≡ false =
    rw (ap (λ (t : RefusalTold). t.number) c.in-Err.ensures) at (refusal_has_number c.in-Err.field-0.refusal) in
    rw some

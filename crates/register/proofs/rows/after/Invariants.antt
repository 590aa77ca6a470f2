-- `after` passes one row at a time: what is left after all of them is what is left after those passed.
use Rattle.std.proofs.Common.{◌≡◌}
use Rattle.register.specs.Register.{lines_after}
use Rattle.register.proofs.rows.after.Given as goal

abbrev pub invariant-loop : goal.invariant-loop
invariant-loop l = l.t ≡ lines_after l.counter l.rows

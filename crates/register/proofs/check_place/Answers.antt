-- `check_place` hands on reading's refusal, or tests the place.
use Rattle.std.proofs.Common.{rules, ◌≡◌, Err, lt-ltb, le-ltb}
use Rattle.apportionment.specs.inner.Checks.{refusal_has_number}
use Rattle.register.specs.Register.{refused, name_refusal_of, name_refusal_in}
use Rattle.register.proofs.check_place.Goals as goal

pub returns-in_err-reading : goal.returns-in_err-reading
unfolding name_refusal_of name_refusal_in refused
returns-in_err-reading c =
    let given : c.from_residual.result ≡ Err c.in_err-reading.field-0.0 = search rules in
    let is = c.in_err-reading.ensures in
    rw (given, ← is, refusal_has_number c.in_err-reading.field-0.0.refusal)

pub returns-then-place-reading : goal.returns-then-place-reading
unfolding name_refusal_of name_refusal_in
returns-then-place-reading c =
    let is = c.in_ok-reading.ensures in
    rw (← is, lt-ltb _ _ c.if-place-reading.true)

pub returns : goal.returns
unfolding name_refusal_of name_refusal_in
returns c =
    let is = c.in_ok-reading.ensures in
    rw (c.from.ensures, ← is, le-ltb _ _ c.if-place-reading.false)

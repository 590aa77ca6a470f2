-- `departure::departure_of` is right because what it does not refuse is within the limits, and there the exact departure is
-- shown and marked as document 01 has it.
use Rattle.std.proofs.Common.{◌≡◌, sym, rules, Err}
use native.Mathlib.Nat.{pos_of_ne-zero}
use Rattle.departure.specs.inner.Answer.{moderate_size, not_refused, refused_answer, seated_answer, unseated_answer}
use Rattle.departure.specs.inner.Exact.{exact_shown, exact_size}
use Rattle.wide.proofs.Signed.{read_back}
use Rattle.departure.proofs.departure_of.Goals as goal

pub returns-in_err-check_limits : goal.returns-in_err-check_limits
returns-in_err-check_limits c =
    let given : c.from_residual.result ≡ Err c.in_err-check_limits.field-0.0 = search rules in
    rw given (refused_answer _ _ _ _ c.in_err-check_limits.ensures)

pub returns-then-seats-eq0 : goal.returns-then-seats-eq0
returns-then-seats-eq0 c = unseated_answer _ _ _ _ (sym c.in_ok-check_limits.ensures) c.if-seats-eq0.true

pub of-exact-requires : goal.of-exact-requires
of-exact-requires c = not_refused _ _ _ _ (sym c.in_ok-check_limits.ensures)

pub shown-requires : goal.shown-requires
shown-requires c =
    rw (c.of-exact.ensures, exact_size)
    (moderate_size (not_refused _ _ _ _ (sym c.in_ok-check_limits.ensures)) (pos_of_ne-zero c.if-seats-eq0.false))

pub returns : goal.returns
returns c =
    rw (
      read_back c.shown.result c.shown.type_inv,
      c.shown.ensures,
      c.mark.ensures,
      c.of-exact.ensures,
      exact_shown,
      exact_size,
    )
    (seated_answer _ _ _ _ (sym c.in_ok-check_limits.ensures) c.if-seats-eq0.false)

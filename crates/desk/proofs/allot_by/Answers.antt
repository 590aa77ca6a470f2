-- A number that is no method is refused before anything is done, and any other is handed to allotting as its method.
use Rattle.std.proofs.Common.{◌≡◌, rules, Err}
use Rattle.desk.specs.inner.Allotting.{by_method, no_method}
use Rattle.desk.proofs.allot_by.Goals as goal

pub returns-in_err-method : goal.returns-in_err-method
returns-in_err-method c =
    let given : c.from_residual.result ≡ Err c.in_err-method.field-0.0 = search rules in
    rw given (no_method c.in_err-method.ensures)

pub returns : goal.returns
returns c = by_method c.in_ok-method.ensures c.allot.ensures

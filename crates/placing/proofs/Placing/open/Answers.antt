-- `Placing::open` meets its contract: the checks pick the case of the definition; where they pass there is a problem to be worked on.
use Rattle.std.proofs.Common.{◌≡◌, sym, false, eqb, eq-eqb}
use Rattle.apportionment.specs.Refusals.{accepted}
use Rattle.apportionment.specs.Allotment.{open_refusal}
use Rattle.apportionment.specs.inner.Checks.{refusal_has_number}
use Rattle.placing.specs.Placing.{opened_of}
use Rattle.placing.specs.inner.Telling.{opened_problem}
use Rattle.placing.proofs.Placing.open.Goals as goal

pub started-requires : goal.started-requires
started-requires c = opened_problem (sym c.in-Ok.ensures) c.total_of.ensures

pub returns-in-Ok : goal.returns-in-Ok
unfolding opened_of
returns-in-Ok c = rw (eq-eqb _ _ (sym c.in-Ok.ensures), c.started.ensures)

pub returns-in-Err : goal.returns-in-Err
unfolding opened_of
returns-in-Err c =
    let some : eqb (open_refusal c.args.populations.now c.args.house) accepted ≡ false =
    rw c.in-Err.ensures at (refusal_has_number c.in-Err.refusal) in
    rw (some, c.number.ensures, c.in-Err.ensures, c.empty.ensures)

-- `allot::allot` meets its contract: the checks pick the case of the definition; where they pass, the total is the sum.
use Rattle.std.proofs.Common.{◌≡◌, sym, ◌∙◌, rules, Err}
use Rattle.problem.specs.inner.Passed.{allot_passed, allottable_fillable}
use Rattle.problem.specs.inner.Total.{total_is_sum}
use Rattle.allot.specs.inner.Allot.{refused_untouched, accepted_filled}
use Rattle.allot.proofs.allot.Goals as goal

pub returns-in_err-check_allotting : goal.returns-in_err-check_allotting
returns-in_err-check_allotting c =
    let given : c.from_residual.result ≡ Err c.in_err-check_allotting.field-0.0 = search rules in
    rw given (refused_untouched c.in_err-check_allotting.ensures)

pub fill_seats-requires : goal.fill_seats-requires
fill_seats-requires c =
    let passed = allot_passed _ _ _ _ (sym c.in_ok-check_allotting.ensures) in
    let added = c.total_of-total.ensures ∙ total_is_sum _ passed.problem.states.sum_within in
    (allottable_fillable passed added, passed.seat_for_each)

pub returns : goal.returns
returns c = accepted_filled c.in_ok-check_allotting.ensures c.fill_seats.ensures

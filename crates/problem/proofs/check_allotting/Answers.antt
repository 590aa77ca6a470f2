-- `check_allotting` makes the checks of its list in their order, those of every problem first.
use Rattle.std.proofs.Common.{rules}
use Rattle.apportionment.specs.Refusals.{first_refusal}
use Rattle.apportionment.specs.Allotment.{allot_refusal, list_misfits}
use Rattle.apportionment.specs.inner.Checks.{refusal_has_number}
use Rattle.problem.specs.inner.Passed.{problem_then}
use Rattle.problem.proofs.check_allotting.Goals as goal

pub returns-in_err-check_problem : goal.returns-in_err-check_problem
unfolding allot_refusal first_refusal list_misfits
returns-in_err-check_problem c = search (rules, problem_then, refusal_has_number)

pub returns-then-room-populations : goal.returns-then-room-populations
unfolding allot_refusal first_refusal list_misfits
returns-then-room-populations c = search (rules, problem_then, refusal_has_number)

pub returns-then-seats_too_few : goal.returns-then-seats_too_few
unfolding allot_refusal first_refusal list_misfits
returns-then-seats_too_few c = search (rules, problem_then, refusal_has_number)

pub returns : goal.returns
unfolding allot_refusal first_refusal list_misfits
returns c = search (rules, problem_then, refusal_has_number)

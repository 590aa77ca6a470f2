-- `check_opening` makes the checks of its list in their order, those of every problem first.
use Rattle.std.proofs.Common.{rules}
use Rattle.apportionment.specs.Refusals.{first_refusal}
use Rattle.apportionment.specs.Allotment.{open_refusal}
use Rattle.apportionment.specs.inner.Checks.{refusal_has_number}
use Rattle.problem.specs.inner.Passed.{problem_then}
use Rattle.problem.proofs.check_opening.Goals as goal

pub returns-in_err-check_problem : goal.returns-in_err-check_problem
unfolding open_refusal first_refusal
returns-in_err-check_problem c = search (rules, problem_then, refusal_has_number)

pub returns-then-seats_too_few : goal.returns-then-seats_too_few
unfolding open_refusal first_refusal
returns-then-seats_too_few c = search (rules, problem_then, refusal_has_number)

pub returns : goal.returns
unfolding open_refusal first_refusal
returns c = search (rules, problem_then, refusal_has_number)

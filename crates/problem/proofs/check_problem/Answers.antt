-- `check_problem` makes the checks of its list in their order.
use Rattle.std.proofs.Common.{rules}
use Rattle.apportionment.specs.Refusals.{first_refusal}
use Rattle.apportionment.specs.Allotment.{problem_checks}
use Rattle.problem.specs.inner.Passed.{problem_refusal}
use Rattle.problem.proofs.check_problem.Goals as goal

pub returns-then-states_outside : goal.returns-then-states_outside
unfolding problem_refusal problem_checks first_refusal
returns-then-states_outside c = search rules

pub returns-then-house_outside : goal.returns-then-house_outside
unfolding problem_refusal problem_checks first_refusal
returns-then-house_outside c = search rules

pub returns-then-has_zero : goal.returns-then-has_zero
unfolding problem_refusal problem_checks first_refusal
returns-then-has_zero c = search rules

pub returns-then-sum_outside : goal.returns-then-sum_outside
unfolding problem_refusal problem_checks first_refusal
returns-then-sum_outside c = search rules

pub returns : goal.returns
unfolding problem_refusal problem_checks first_refusal
returns c = search rules

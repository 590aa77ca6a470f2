-- What holds once the checks of allotting or of opening refuse nothing. The operations behind the checks take it from here and
-- unfold no check.
-- Assumes nothing.
use Rattle.std.specs.Prelude.{◌≡◌, refl, Bool, true, false, cond, List, ◌++◌, ℕ, ◌≤◌, eqb, length}
use Rattle.std.proofs.Common.{sym, ◌∙◌, arith, eqb-true, ltb-false}
use Rattle.std.proofs.lemmas.Bool.{eqb-false, not-false}
use Rattle.apportionment.specs.Limits.{state_limit, house_limit, sum_limit}
use Rattle.apportionment.specs.Refusals.{accepted, states_out_of_limits, house_out_of_limits, population_zero, sum_too_large}
use Rattle.apportionment.specs.Refusals.{first_refusal}
use Rattle.apportionment.specs.inner.Checks.{inside_limits, check_passed}
use Rattle.apportionment.specs.inner.Problem.{Problem, Fillable}
use Rattle.apportionment.specs.inner.Tests.{either_way}
use Rattle.apportionment.specs.Lists.{sum}
use Rattle.apportionment.specs.Allotment.{states_outside, house_outside, has_zero, sum_outside, list_misfits, seats_every_state}
use Rattle.apportionment.specs.Allotment.{seats_too_few}
use Rattle.apportionment.specs.Allotment.{problem_checks, allot_refusal, open_refusal}
use Rattle.apportionment.specs.declared.Method.{Method}
use Rattle.apportionment.specs.declared.Method.TheVariants.{Leximin}
use Rattle.problem.specs.inner.Populations.{each_is_peopled}

-- What allotting adds to a problem: a seat list of the right length and, where each state has a seat, a house large enough.
pub record Allottable (m : Method) (H : ℕ) (ps : List ℕ) (room : ℕ) : Type 0 where
  pub problem : Problem ps (sum ps) H
  pub room_fits : room ≡ length ps
  pub seat_for_each : seats_every_state m ≡ true → length ps ≤ H

-- So the list can be filled, by whoever has added up the populations.
pub allottable_fillable : {m : Method} {H P : ℕ} {ps seats : List ℕ} → Allottable m H ps (length seats) → P ≡ sum ps → Fillable ps P H seats
allottable_fillable ok e = record { problem = rw e ok.problem; same_length = ok.room_fits }

-- What opening adds: a seat for each state.
pub record Openable (ps : List ℕ) (H : ℕ) : Type 0 where
  pub problem : Problem ps (sum ps) H
  pub seat_for_each : length ps ≤ H

-- ---- the checks that allotting and opening share

unfoldable pub problem_refusal : (ps : List ℕ) (H : ℕ) → ℕ
problem_refusal ps H = first_refusal (problem_checks ps H)

-- Whatever checks follow these are made where none of these fails.
pub problem_then : (ps : List ℕ) (H : ℕ) (later : List (Bool × ℕ))
    → first_refusal (problem_checks ps H ++ later)
    ≡ cond (eqb (problem_refusal ps H) accepted) (first_refusal later) (problem_refusal ps H)
unfolding problem_refusal problem_checks first_refusal
problem_then ps H later = by_tests (states_outside ps) (house_outside H) (has_zero ps) (sum_outside ps)
  where
    by_tests : (states house zero total : Bool)
        → cond states states_out_of_limits (cond house house_out_of_limits (cond zero population_zero
        (cond total sum_too_large (first_refusal later))))
        ≡ cond (eqb (cond states states_out_of_limits (cond house house_out_of_limits (cond zero population_zero
        (cond total sum_too_large accepted)))) accepted) (first_refusal later)
        (cond states states_out_of_limits (cond house house_out_of_limits (cond zero population_zero
        (cond total sum_too_large accepted))))
    by_tests true house zero total = refl
    by_tests false true zero total = refl
    by_tests false false true total = refl
    by_tests false false false true = refl
    by_tests false false false false = refl

-- Where nothing is refused, neither by these nor by those after them.
both_pass : (ps : List ℕ) (H : ℕ) (later : List (Bool × ℕ)) → first_refusal (problem_checks ps H ++ later) ≡ accepted
    → (problem_refusal ps H ≡ accepted) × (first_refusal later ≡ accepted)
both_pass ps H later e =
    let joined = sym (problem_then ps H later) ∙ e in
    either_way (eqb (problem_refusal ps H) accepted)
    (λ none. (eqb-true (problem_refusal ps H) accepted none, rw none at joined))
    (λ some. absurd (eqb-false (problem_refusal ps H) accepted some (rw some at joined)))

-- ---- all checks

pub checks_passed : (ps : List ℕ) (H : ℕ) → problem_refusal ps H ≡ accepted → Problem ps (sum ps) H
unfolding problem_refusal problem_checks states_outside house_outside sum_outside
checks_passed ps H e =
    let states = check_passed (states_outside ps) _ _ (omega arith) e in
    let house = check_passed (house_outside H) _ _ (omega arith) states.1 in
    let people = check_passed (has_zero ps) _ _ (omega arith) house.1 in
    let total = check_passed (sum_outside ps) _ _ (omega arith) people.1 in
    record {
      states = record {
        some_state = (inside_limits state_limit (length ps) states.0).0;
        states_within = (inside_limits state_limit (length ps) states.0).1;
        peopled = each_is_peopled ps people.0;
        sums = refl;
        sum_within = ltb-false sum_limit (sum ps) total.0;
      };
      some_seat = (inside_limits house_limit H house.0).0;
      house_within = (inside_limits house_limit H house.0).1;
    }

-- 15 is not given, so a method that seats every state has a seat for each.
house_passed : (m : Method) (ps : List ℕ) (H : ℕ) → seats_too_few m ps H ≡ false → seats_every_state m ≡ true → length ps ≤ H
unfolding seats_too_few
house_passed m ps H e every = ltb-false H (length ps) (simp every at e)

pub allot_passed : (m : Method) (H : ℕ) (ps : List ℕ) (room : ℕ) → allot_refusal m H ps room ≡ accepted → Allottable m H ps room
unfolding allot_refusal list_misfits
allot_passed m H ps room e =
    let both = both_pass ps H _ e in
    let lists = check_passed (list_misfits room ps) _ _ (omega arith) both.1 in
    let seats = check_passed (seats_too_few m ps H) _ _ (omega arith) lists.1 in
    record {
      problem = checks_passed ps H both.0;
      room_fits = eqb-true room (length ps) (not-false (eqb room (length ps)) lists.0);
      seat_for_each = house_passed m ps H seats.0;
    }

pub open_passed : (ps : List ℕ) (H : ℕ) → open_refusal ps H ≡ accepted → Openable ps H
unfolding open_refusal
open_passed ps H e =
    let both = both_pass ps H _ e in
    let seats = check_passed (seats_too_few Leximin ps H) _ _ (omega arith) both.1 in
    record { problem = checks_passed ps H both.0; seat_for_each = house_passed Leximin ps H seats.0 refl }

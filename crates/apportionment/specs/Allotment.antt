-- Document 01, "Operations": the checks of allotting and of opening in their order, and what allotting gives.
use Rattle.std.specs.Prelude.{◌&&◌, ◌∷◌, ◌++◌, Bool, true, false, cond, not, List, [], ℕ, ltb, eqb, length}
use Rattle.apportionment.specs.Words.{DivisorMethod, Method, Leximin, Adams, Dean, Hill, Webster, Jefferson, Remainders, Quota}
use Rattle.apportionment.specs.Refusals.{accepted, states_out_of_limits, house_out_of_limits, population_zero, sum_too_large}
use Rattle.apportionment.specs.Refusals.{seat_list_length}
use Rattle.apportionment.specs.Refusals.{house_below_states, outside, first_refusal}
use Rattle.apportionment.specs.{Limits.state_limit, Limits.house_limit, Limits.sum_limit, Lists.sum, Leximin.leximin_for, Leximin.gap}
use Rattle.apportionment.specs.{Divisor.divisor_seats, Remainders.remainder_seats, Quota.quota_seats}

unfoldable pub states_outside : (ps : List ℕ) → Bool  -- 10: the number of states is outside its limits.
states_outside ps = outside state_limit (length ps)

unfoldable pub house_outside : (H : ℕ) → Bool  -- 11: the house is outside its limits.
house_outside H = outside house_limit H

unfoldable pub has_zero : (ps : List ℕ) → Bool  -- 12: some population is 0.
has_zero [] = false
has_zero (p ∷ ps) = cond (eqb p 0) true (has_zero ps)

unfoldable pub sum_outside : (ps : List ℕ) → Bool  -- 13: the sum is too large.
sum_outside ps = ltb sum_limit (sum ps)

unfoldable pub list_misfits : (room : ℕ) (ps : List ℕ) → Bool  -- 14: the seat list has not a place for each state.
list_misfits room ps = not (eqb room (length ps))

abbrev pub seats_every_state : Method → Bool  -- The methods that give every state a seat.
seats_every_state Leximin = true
seats_every_state Adams = true
seats_every_state Dean = true
seats_every_state Hill = true
seats_every_state Webster = false
seats_every_state Jefferson = false
seats_every_state Remainders = false
seats_every_state Quota = false

unfoldable pub seats_too_few : Method → (ps : List ℕ) (H : ℕ) → Bool  -- 15: such a method, and fewer seats than states.
seats_too_few m ps H = seats_every_state m && ltb H (length ps)

unfoldable pub problem_checks : (ps : List ℕ) (H : ℕ) → List (Bool × ℕ)  -- The checks that allotting and opening share.
problem_checks ps H =
    (states_outside ps, states_out_of_limits)
    ∷ (house_outside H, house_out_of_limits)
    ∷ (has_zero ps, population_zero)
    ∷ (sum_outside ps, sum_too_large)
    ∷ []

unfoldable pub allot_refusal : Method → (H : ℕ) (ps : List ℕ) (room : ℕ) → ℕ  -- `room` is the length of the lent seat list.
allot_refusal m H ps room =
    first_refusal (problem_checks ps H ++ (list_misfits room ps, seat_list_length) ∷ (seats_too_few m ps H, house_below_states) ∷ [])

unfoldable pub open_refusal : (ps : List ℕ) (H : ℕ) → ℕ  -- The refusal of opening a placing.
open_refusal ps H = first_refusal (problem_checks ps H ++ (seats_too_few Leximin ps H, house_below_states) ∷ [])

unfoldable pub seats_of : Method → (ps : List ℕ) (H : ℕ) → List ℕ  -- The allotment of each method.
seats_of Leximin ps H = leximin_for ps H H
seats_of Adams ps H = divisor_seats DivisorMethod.Adams ps H
seats_of Dean ps H = divisor_seats DivisorMethod.Dean ps H
seats_of Hill ps H = divisor_seats DivisorMethod.Hill ps H
seats_of Webster ps H = divisor_seats DivisorMethod.Webster ps H
seats_of Jefferson ps H = divisor_seats DivisorMethod.Jefferson ps H
seats_of Remainders ps H = remainder_seats ps H
seats_of Quota ps H = quota_seats ps H

unfoldable pub steps_of : Method → (ps : List ℕ) (H : ℕ) → ℕ  -- The gap between L and H under leximin.
steps_of m ps H = elim m [ Leximin ↦ gap ps H | Adams ↦ 0 | Dean ↦ 0 | Hill ↦ 0 | Webster ↦ 0 | Jefferson ↦ 0 | Remainders ↦ 0 | Quota ↦ 0 ]

unfoldable pub seats_after : Method → (H : ℕ) (ps seats : List ℕ) → List ℕ  -- The lent seat list afterwards: untouched on a refusal.
seats_after m H ps seats = cond (eqb (allot_refusal m H ps (length seats)) accepted) (seats_of m ps H) seats

unfoldable pub steps_after : Method → (H : ℕ) (ps : List ℕ) (room : ℕ) → ℕ  -- The steps handed back: 0 on a refusal.
steps_after m H ps room = cond (eqb (allot_refusal m H ps room) accepted) (steps_of m ps H) 0

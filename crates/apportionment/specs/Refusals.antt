-- Document 01, "Operations and their refusals": the refusal numbers, and checks in the order written.
use Rattle.std.specs.Prelude.{◌∷◌, ℕ, Bool, false, cond, not, List, [], leb, eqb, Result, Ok, Err}
use Rattle.apportionment.specs.declared.refusals.Refusal.{Refusal}
use Rattle.apportionment.specs.declared.refusals.Refusal.TheVariants.{RegisterTooLong, LineIllFormed, NumberOutOfLimits, MethodUnknown}
use Rattle.apportionment.specs.declared.refusals.Refusal.TheVariants.{NameUsed, RunningSumTooLarge, TotalDiffers, StatesOutOfLimits}
use Rattle.apportionment.specs.declared.refusals.Refusal.TheVariants.{HouseOutOfLimits, PopulationZero, SumTooLarge, SeatListLength}
use Rattle.apportionment.specs.declared.refusals.Refusal.TheVariants.{HouseBelowStates, PlacingForeign, DepartureOutOfLimits}
use Rattle.apportionment.specs.declared.refusals.Refusal.TheVariants.{BufferTooShort, PlaceOutOfStates}

abbrev pub accepted : ℕ
accepted = 0

abbrev pub register_too_long : ℕ  -- Reading a register.
register_too_long = 1

abbrev pub line_ill_formed : ℕ
line_ill_formed = 2

abbrev pub number_out_of_limits : ℕ
number_out_of_limits = 3

abbrev pub method_unknown : ℕ
method_unknown = 4

abbrev pub name_used : ℕ
name_used = 5

abbrev pub running_sum_too_large : ℕ
running_sum_too_large = 6

abbrev pub total_differs : ℕ
total_differs = 7

abbrev pub states_out_of_limits : ℕ  -- Allotting and opening.
states_out_of_limits = 10

abbrev pub house_out_of_limits : ℕ
house_out_of_limits = 11

abbrev pub population_zero : ℕ
population_zero = 12

abbrev pub sum_too_large : ℕ
sum_too_large = 13

abbrev pub seat_list_length : ℕ
seat_list_length = 14

abbrev pub house_below_states : ℕ
house_below_states = 15

abbrev pub placing_foreign : ℕ  -- Moving a placing.
placing_foreign = 21

abbrev pub departure_out_of_limits : ℕ  -- Departure, listing, name.
departure_out_of_limits = 30

abbrev pub buffer_too_short : ℕ
buffer_too_short = 31

abbrev pub place_out_of_states : ℕ
place_out_of_states = 40

abbrev pub refusal_number : Refusal → ℕ  -- The number of a refusal.
refusal_number RegisterTooLong = register_too_long
refusal_number LineIllFormed = line_ill_formed
refusal_number NumberOutOfLimits = number_out_of_limits
refusal_number MethodUnknown = method_unknown
refusal_number NameUsed = name_used
refusal_number RunningSumTooLarge = running_sum_too_large
refusal_number TotalDiffers = total_differs
refusal_number StatesOutOfLimits = states_out_of_limits
refusal_number HouseOutOfLimits = house_out_of_limits
refusal_number PopulationZero = population_zero
refusal_number SumTooLarge = sum_too_large
refusal_number SeatListLength = seat_list_length
refusal_number HouseBelowStates = house_below_states
refusal_number PlacingForeign = placing_foreign
refusal_number DepartureOutOfLimits = departure_out_of_limits
refusal_number BufferTooShort = buffer_too_short
refusal_number PlaceOutOfStates = place_out_of_states

abbrev pub refusal_of : {A : Type 0} → Result A Refusal → ℕ  -- The number that a result gives: 0 where it is no refusal.
refusal_of (Ok _) = accepted
refusal_of (Err refusal) = refusal_number refusal

unfoldable pub within : (limit x : ℕ) → Bool  -- A number is at least 1 and at most the limit.
within limit x = cond (eqb x 0) false (leb x limit)

unfoldable pub outside : (limit x : ℕ) → Bool
outside limit x = not (within limit x)

unfoldable pub first_refusal : (checks : List (Bool × ℕ)) → ℕ  -- Pairs of a test, true where it fails, and a number; the first decides.
first_refusal [] = accepted
first_refusal (check ∷ later) = cond check.0 check.1 (first_refusal later)

-- Growth without loss: what an office may rely on between two runs of allotting that were not refused, `runs_one_seat_more` and
-- `runs_two_polls` below. Leximin and largest remainders keep to neither law, and quota to the first alone: `exceptions` has polls that
-- show it.
-- Assumes nothing.
use mathlib.Core.Path.{◌≡◌, refl, sym, ◌∙◌}
use mathlib.Core.Bool.{Bool, true, false, false≢true}
use mathlib.Core.List.{List, [], ◌∷◌}
use Prim.Native.Nat.{ℕ, suc, ◌<◌}
use native.Mathlib.Omega.{arith}
use lib.ListN.{length}
use contract.Lifetimes.{Lfts}
use denote.Triple.Clauses.{AtExit}
use borrow.Fn.Kinds.{Dens, ended_of}
use Rattle.apportionment.specs.Lists.{sum, first_place, among, count_below, list_of}
use Rattle.std.specs.Prelude.{Result}
use Rattle.apportionment.specs.Refusals.{accepted, refusal_of}
use Rattle.apportionment.specs.Refusals.{within, outside, first_refusal}
use Rattle.apportionment.specs.Quantities.{less, at_most, distance, size_of}
use Rattle.apportionment.specs.Leximin.{sizes_of, insert, largest_first, list_less, more_at_first, size_list, chosen_before, with_first}
use Rattle.apportionment.specs.Leximin.{allotments, first_of, first_of_all, leximin_for}
use Rattle.apportionment.specs.Divisor.{one_more, divisor_seats}
use Rattle.apportionment.specs.Remainders.{whole_part, remainder, served_before, seats_left, rank, remainder_seats_at, remainder_seats}
use Rattle.apportionment.specs.Quota.{able, quotient, quotient_before, seat_goes_to, quota_seats}
use Rattle.apportionment.specs.Allotment.{states_outside, house_outside, has_zero, sum_outside, list_misfits, seats_too_few, problem_checks}
use Rattle.apportionment.specs.Allotment.{allot_refusal, seats_of}
use Rattle.apportionment.specs.declared.DivisorMethod.{DivisorMethod}
use Rattle.apportionment.specs.declared.Method.{Method}
use Rattle.apportionment.specs.declared.Method.TheVariants.{Leximin, Adams, Dean, Hill, Webster, Jefferson, Remainders, Quota}
use Rattle.apportionment.specs.inner.Problem.{Problem}
use Rattle.claims.specs.Growth.{Allots, OneGains, house_monotone, AlabamaParadox}
use Rattle.claims.specs.Growth.{factor, grew_at_least_as, loses_to, population_monotone, PopulationParadox}
use Rattle.claims.specs.inner.Growth.{none_loses, divisor_one_more}
use Rattle.claims.proofs.Growth.{divisor_no_loss}
use Rattle.problem.specs.inner.Passed.{allot_passed}
use Rattle.quota.specs.inner.Serving.{problem_peopled}
use Rattle.quota.specs.inner.Quota.{quota_one_more}
use Rattle.allot.specs.Allot.{AllotmentIs}
use Rattle.allot.proofs.allot.Reads as allot-reads
use Rattle.allot.proofs.allot.Kinds as allot-kinds
use Rattle.allot.specs.inner.Allot.{seats_unless_refused}
use Rattle.apportionment.specs.declared.refusals.Refusal.{Refusal}

-- ---- by the definitions

module _ {ps : List ℕ} {H : ℕ} (ok : Problem ps (sum ps) H) where
  by_claims : (d : DivisorMethod) → OneGains (divisor_seats d ps H) (divisor_seats d ps (suc H))
  by_claims d = divisor_one_more d ps H ok.states.some_state

  one_more_under : (m : Method) → house_monotone m ≡ true → OneGains (seats_of m ps H) (seats_of m ps (suc H))
  unfolding seats_of
  one_more_under Leximin e = absurd (false≢true e)
  one_more_under Adams e = by_claims DivisorMethod.Adams
  one_more_under Dean e = by_claims DivisorMethod.Dean
  one_more_under Hill e = by_claims DivisorMethod.Hill
  one_more_under Webster e = by_claims DivisorMethod.Webster
  one_more_under Jefferson e = by_claims DivisorMethod.Jefferson
  one_more_under Remainders e = absurd (false≢true e)
  one_more_under Quota e = quota_one_more (problem_peopled ok) H

-- One seat more, where a house and the house of one seat more are accepted.
pub one_seat_more : {m : Method} → house_monotone m ≡ true → {H : ℕ} {ps xs ys : List ℕ}
    → Allots m H ps xs → Allots m (suc H) ps ys → OneGains xs ys
one_seat_more {m} monotone {H} {ps} house more =
    rw (house.allotment, more.allotment) (one_more_under (allot_passed m H ps (length ps) house.accepts).problem m monotone)

module _ {ps ps' : List ℕ} {H : ℕ} (ok : Problem ps (sum ps) H) (later : Problem ps' (sum ps') H) (same : length ps' ≡ length ps)
    (i j : ℕ) (hi : i < length ps) (hj : j < length ps) (grew : grew_at_least_as ps ps' i j ≡ true) where
  by_order_of_claims : (d : DivisorMethod) → loses_to (divisor_seats d ps H) (divisor_seats d ps' H) i j ≡ false
  by_order_of_claims d =
      divisor_no_loss ps ok.states.some_state ok.states.peopled d ps' same later.states.peopled H i j hi hj grew

  no_loss_under : (m : Method) → population_monotone m ≡ true → loses_to (seats_of m ps H) (seats_of m ps' H) i j ≡ false
  unfolding seats_of
  no_loss_under Leximin e = absurd (false≢true e)
  no_loss_under Adams e = by_order_of_claims DivisorMethod.Adams
  no_loss_under Dean e = by_order_of_claims DivisorMethod.Dean
  no_loss_under Hill e = by_order_of_claims DivisorMethod.Hill
  no_loss_under Webster e = by_order_of_claims DivisorMethod.Webster
  no_loss_under Jefferson e = by_order_of_claims DivisorMethod.Jefferson
  no_loss_under Remainders e = absurd (false≢true e)
  no_loss_under Quota e = absurd (false≢true e)

-- Two polls, where both are accepted at one house.
pub two_polls : {m : Method} → population_monotone m ≡ true → {H : ℕ} {ps ps' xs ys : List ℕ} → length ps' ≡ length ps
    → Allots m H ps xs → Allots m H ps' ys
    → (i j : ℕ) → i < length ps → j < length ps → grew_at_least_as ps ps' i j ≡ true → loses_to xs ys i j ≡ false
two_polls {m} monotone {H} {ps} {ps'} same first second i j hi hj grew =
    let ok = (allot_passed m H ps (length ps) first.accepts).problem in
    let later = (allot_passed m H ps' (length ps') second.accepts).problem in
    rw (first.allotment, second.allotment) (no_loss_under ok later same i j hi hj grew m monotone)

-- ---- by the contract: two runs

-- One run of allotting that was not refused: by its contract, given a method, a house and populations, it left these seats.
pub record Run (m : Method) (H : ℕ) (ps seats : List ℕ) : Type 0 where
  -- The run as its contract has it: for how long the two lists are lent, what is given, what stands there at the end, the answer.
  pub lasting : Lfts 2
  pub given : Dens lasting allot-kinds.ps
  pub ended : AtExit (ended_of 2 allot-kinds.ps allot-kinds.r) lasting
  pub answer : Result ℕ Refusal
  -- It was given m, H and ps, and left the seats in the other list.
  pub method : given.0 ≡ m
  pub house : given.1.0 ≡ H
  pub populations : given.1.1.0.now ≡ ps
  pub left : ended.1.1.1.0.now ≡ seats
  -- Its contract holds, and the answer is no refusal.
  pub contract : allot-reads.Post lasting given answer ended
  pub accepts : refusal_of answer ≡ accepted

-- So the method accepts, and the seats left are its own.
run_allots : {m : Method} {H : ℕ} {ps xs : List ℕ} → Run m H ps xs → Allots m H ps xs
run_allots {m} {H} {ps} {xs} run =
    let lent = run.given.1.1.1.0.now in
    let promise : AllotmentIs m H ps lent xs run.answer = rw (run.method, run.house, run.populations, run.left) at run.contract in
    let kept = seats_unless_refused promise run.accepts in
    let fits : length lent ≡ length ps = (allot_passed m H ps (length lent) kept.0).room_fits in
    record { accepts = rw fits at kept.0; allotment = kept.1 }

-- One seat more, of two runs: under Adams, Dean, Hill, Webster, Jefferson and quota, where one run allots a house and another, of the same
-- populations, the house of one seat more, and neither is refused, precisely one state gains one seat and no other state changes.
pub runs_one_seat_more : {m : Method} → house_monotone m ≡ true → {H : ℕ} {ps xs ys : List ℕ}
    → Run m H ps xs → Run m (suc H) ps ys → OneGains xs ys
runs_one_seat_more monotone run more = one_seat_more monotone (run_allots run) (run_allots more)

-- Two polls, of two runs: under Adams, Dean, Hill, Webster and Jefferson, where the same states in the same order are allotted the same
-- house at two polls, and neither run is refused, a state i whose count grew by at least as large a factor as state j's does not lose seats
-- while j gains, however the remaining counts change.
pub runs_two_polls : {m : Method} → population_monotone m ≡ true → {H : ℕ} {ps ps' xs ys : List ℕ} → length ps' ≡ length ps
    → Run m H ps xs → Run m H ps' ys
    → (i j : ℕ) → i < length ps → j < length ps → grew_at_least_as ps ps' i j ≡ true → loses_to xs ys i j ≡ false
runs_two_polls monotone same run later = two_polls monotone same (run_allots run) (run_allots later)

-- ---- the exceptions

-- A poll for each law and each method that does not keep to it, a second one where the law is about two.
pub record Exceptions : Type 0 where
  -- 69, 70, 150 with a house of 14 and of 15: the third state has 8 seats and then 7.
  pub leximin_houses : AlabamaParadox Leximin 14 (69 ∷ 70 ∷ 150 ∷ []) (3 ∷ 3 ∷ 8 ∷ []) (4 ∷ 4 ∷ 7 ∷ []) 2
  -- 1, 3, 3 with a house of 3 and of 4: the first state has a seat and then none.
  pub remainders_houses : AlabamaParadox Remainders 3 (1 ∷ 3 ∷ 3 ∷ []) (1 ∷ 1 ∷ 1 ∷ []) (0 ∷ 2 ∷ 2 ∷ []) 0
  -- 1, 6, 11 and then 5, 5, 9: the second count falls by a sixth and the third by more, two elevenths; yet the third gains from the second.
  pub leximin_polls : PopulationParadox Leximin 5 (1 ∷ 6 ∷ 11 ∷ []) (5 ∷ 5 ∷ 9 ∷ []) (1 ∷ 2 ∷ 2 ∷ []) (1 ∷ 1 ∷ 3 ∷ []) 1 2
  -- 2, 2, 5 and then 3, 1, 3: the third count falls by two fifths and the second by more, a half; yet the second gains from the third.
  pub remainders_polls : PopulationParadox Remainders 3 (2 ∷ 2 ∷ 5 ∷ []) (3 ∷ 1 ∷ 3 ∷ []) (1 ∷ 0 ∷ 2 ∷ []) (1 ∷ 1 ∷ 1 ∷ []) 2 1
  -- 1, 1, 4 and then 2, 1, 7: the first count doubles and the third grows by less, three quarters; yet the third gains from the first.
  pub quota_polls : PopulationParadox Quota 3 (1 ∷ 1 ∷ 4 ∷ []) (2 ∷ 1 ∷ 7 ∷ []) (1 ∷ 0 ∷ 2 ∷ []) (0 ∷ 0 ∷ 3 ∷ []) 0 2

-- They hold under the definitions themselves: antt goes through the allotments.
pub exceptions : Exceptions
unfolding allot_refusal first_refusal problem_checks states_outside house_outside has_zero sum_outside list_misfits seats_too_few outside
    within
    seats_of sum less at_most distance size_of sizes_of insert largest_first list_less more_at_first size_list chosen_before with_first
    allotments
    first_of first_of_all leximin_for first_place count_below list_of whole_part remainder served_before seats_left rank remainder_seats_at
    remainder_seats one_more among able quotient quotient_before seat_goes_to quota_seats factor grew_at_least_as loses_to
exceptions = record {
  leximin_houses = record { smaller = allots refl refl; larger = allots refl refl; loses = omega arith };
  remainders_houses = record { smaller = allots refl refl; larger = allots refl refl; loses = omega arith };
  leximin_polls = record { same_states = refl; first = allots refl refl; second = allots refl refl; grew = refl; loses = refl };
  remainders_polls = record { same_states = refl; first = allots refl refl; second = allots refl refl; grew = refl; loses = refl };
  quota_polls = record { same_states = refl; first = allots refl refl; second = allots refl refl; grew = refl; loses = refl };
}
  where
    allots : {m : Method} {H : ℕ} {ps xs : List ℕ} → allot_refusal m H ps (length ps) ≡ accepted → xs ≡ seats_of m ps H → Allots m H ps xs
    allots accepts allotment = record { accepts = accepts; allotment = allotment }

-- Where a state loses, more has happened than one state's gain.
pub paradox_is_no_gain : {m : Method} {H : ℕ} {ps before after : List ℕ} {i : ℕ} → AlabamaParadox m H ps before after i
    → OneGains before after → ⊥
paradox_is_no_gain {i = i} paradox one = omega (arith, none_loses one i, paradox.loses)

-- Some poll shows the paradox under a method.
abbrev pub AlabamaParadoxUnder : Method → Type 0
AlabamaParadoxUnder m = (H : ℕ) × (ps : List ℕ) × (before : List ℕ) × (after : List ℕ) × (i : ℕ) × AlabamaParadox m H ps before after i

-- Some two polls show the paradox under a method.
abbrev pub PopulationParadoxUnder : Method → Type 0
PopulationParadoxUnder m =
    (H : ℕ) × (ps : List ℕ) × (ps' : List ℕ) × (before : List ℕ) × (after : List ℕ) × (i : ℕ) × (j : ℕ)
    × PopulationParadox m H ps ps' before after i j

true_is_not_false : {t : Bool} {A : Type 0} → t ≡ true → t ≡ false → A
true_is_not_false holds fails = absurd (false≢true (sym fails ∙ holds))

-- So wherever a table of methods says false, some poll shows why. With the theorems above, neither table leaves out a method that keeps to
-- its law.
pub each_exception : (m : Method)
    → (house_monotone m ≡ false → AlabamaParadoxUnder m) × (population_monotone m ≡ false → PopulationParadoxUnder m)
each_exception Leximin =
    (λ _. (_, _, _, _, _, exceptions.leximin_houses), λ _. (_, _, _, _, _, _, _, exceptions.leximin_polls))
each_exception Adams = (true_is_not_false refl, true_is_not_false refl)
each_exception Dean = (true_is_not_false refl, true_is_not_false refl)
each_exception Hill = (true_is_not_false refl, true_is_not_false refl)
each_exception Webster = (true_is_not_false refl, true_is_not_false refl)
each_exception Jefferson = (true_is_not_false refl, true_is_not_false refl)
each_exception Remainders =
    (λ _. (_, _, _, _, _, exceptions.remainders_houses), λ _. (_, _, _, _, _, _, _, exceptions.remainders_polls))
each_exception Quota = (true_is_not_false refl, λ _. (_, _, _, _, _, _, _, exceptions.quota_polls))

-- The departure operation: its promise leaves one answer for each input, which answer that is in each case, and that it is refused exactly
-- outside the limits.
-- Assumes nothing.
use Rattle.std.specs.Prelude.{◌≡◌, refl, Bool, true, false, cond, ◌↔◌, List, ℕ, ◌*◌, ◌<◌, ◌≤◌, eqb, ltb, length, get_or}
use Rattle.std.specs.Prelude.{Option, Some, None, Result, Ok, Err}
use Rattle.std.proofs.Math.Path.{sym, ap}
use Rattle.std.proofs.Math.Nat.{mul-le-mul, mul-pos}
use Rattle.std.proofs.Common.{le_trans, le_refl, arith}
use borrow.Author.Tests.{ltb-false, le-ltb, eq-eqb, ne_eqb}
use Rattle.apportionment.specs.Limits.{house_limit, sum_limit}
use Rattle.apportionment.specs.Refusals.{accepted, departure_out_of_limits, refusal_number, refusal_of}
use Rattle.apportionment.specs.Refusals.{outside, first_refusal}
use Rattle.apportionment.specs.inner.Checks.{check_passed, inside_limits, inside_false, refusal_has_number, refusal_by_number}
use Rattle.apportionment.specs.Quantities.{distance, mark_for, mark_of, shown_of, size_of}
use Rattle.apportionment.specs.declared.refusals.Refusal.{Refusal}
use Rattle.departure.specs.declared.Shown.{Shown}
use Rattle.departure.specs.inner.Exact.{Moderate}
use Rattle.departure.specs.Answer.{departure_refusal, departure_shown, departure_mark}
use Rattle.departure.specs.Answer.{shown_in, mark_in, AnswerIs}

-- ---- what the operation promises

-- Answers with the same number, shown departure and mark are the same ..
same_answer : (r s : Result (Option Shown) Refusal) → refusal_of r ≡ refusal_of s → shown_in r ≡ shown_in s → mark_in r ≡ mark_in s → r ≡ s
unfolding shown_in mark_in
same_answer (Err e) (Err f) number shown mark = ap Err (refusal_by_number e f number)
same_answer (Err e) (Ok None) number shown mark = cc
same_answer (Err e) (Ok (Some x)) number shown mark = cc
same_answer (Ok None) (Err f) number shown mark = cc
same_answer (Ok None) (Ok None) number shown mark = refl
same_answer (Ok None) (Ok (Some x)) number shown mark = cc
same_answer (Ok (Some x)) (Err f) number shown mark = cc
same_answer (Ok (Some x)) (Ok None) number shown mark = cc
same_answer (Ok (Some x)) (Ok (Some y)) number shown mark =
    let departures : x.shown ≡ y.shown = cc in
    let marks : x.mark ≡ y.mark = cc in
    ap (λ (z : Shown). Ok (Some z)) (rw (departures, marks))

-- .. so the promise leaves one answer for each input.
pub one_answer : (p a P H : ℕ) (r s : Result (Option Shown) Refusal) → AnswerIs p a P H r → AnswerIs p a P H s → r ≡ s
one_answer p a P H r s first second = same_answer r s (cc) (cc) (cc)

-- ---- the limits

-- P and H within their limits, p within 1 to P, and a at most H.
pub record InLimits (p a P H : ℕ) : Type 0 where
  pub some_total : 0 < P
  pub total_limited : P ≤ sum_limit
  pub some_house : 0 < H
  pub house_limited : H ≤ house_limit
  pub some_people : 0 < p
  pub people_within_lem : p ≤ P
  pub seats_within_lem : a ≤ H

-- Each of several states within the limits, with a seat count for each population.
pub record AllInLimits (ps seats : List ℕ) (P H : ℕ) : Type 0 where
  pub paired : length seats ≡ length ps
  pub each : (i : ℕ) → i < length ps → InLimits (get_or ps i 0) (get_or seats i 0) P H

-- What is not refused is within the limits.
pub not_refused : (p a P H : ℕ) → departure_refusal p a P H ≡ accepted → InLimits p a P H
unfolding departure_refusal
not_refused p a P H e =
    let total = check_passed (outside sum_limit P) _ _ (omega arith) e in
    let house = check_passed (outside house_limit H) _ _ (omega arith) total.1 in
    let people = check_passed (outside P p) _ _ (omega arith) house.1 in
    let seats = check_passed (ltb H a) _ _ (omega arith) people.1 in
    record {
      some_total = (inside_limits sum_limit P total.0).0;
      total_limited = (inside_limits sum_limit P total.0).1;
      some_house = (inside_limits house_limit H house.0).0;
      house_limited = (inside_limits house_limit H house.0).1;
      some_people = (inside_limits P p people.0).0;
      people_within_lem = (inside_limits P p people.0).1;
      seats_within_lem = ltb-false H a seats.0;
    }

-- What is within the limits is not refused.
within_not_refused : (p a P H : ℕ) → InLimits p a P H → departure_refusal p a P H ≡ accepted
unfolding departure_refusal first_refusal
within_not_refused p a P H within =
    simp (
      inside_false sum_limit P (within.some_total, within.total_limited),
      inside_false house_limit H (within.some_house, within.house_limited),
      inside_false P p (within.some_people, within.people_within_lem),
      le-ltb H a within.seats_within_lem,
    )

-- A refusal is 30: no other number is given.
pub refused_is_30 : (p a P H : ℕ) → (departure_refusal p a P H ≡ accepted → ⊥) → departure_refusal p a P H ≡ departure_out_of_limits
unfolding departure_refusal first_refusal
refused_is_30 p a P H = by_tests (outside sum_limit P) (outside house_limit H) (outside P p) (ltb H a)
  where
    by_tests : (s t u v : Bool)
        → (cond s departure_out_of_limits (cond t departure_out_of_limits (cond u departure_out_of_limits
        (cond v departure_out_of_limits accepted))) ≡ accepted → ⊥)
        → cond s departure_out_of_limits (cond t departure_out_of_limits (cond u departure_out_of_limits
        (cond v departure_out_of_limits accepted))) ≡ departure_out_of_limits
    by_tests true t u v refused = refl
    by_tests false true u v refused = refl
    by_tests false false true v refused = refl
    by_tests false false false true refused = refl
    by_tests false false false false refused = absurd (refused refl)

-- So the refusal number is 0 exactly within the limits ..
pub accepted_exactly : (p a P H : ℕ) → departure_refusal p a P H ≡ accepted ↔ InLimits p a P H
accepted_exactly p a P H = (not_refused p a P H, within_not_refused p a P H)

-- .. and 30 exactly outside them.
pub refused_exactly : (p a P H : ℕ) → departure_refusal p a P H ≡ departure_out_of_limits ↔ (InLimits p a P H → ⊥)
refused_exactly p a P H = (
  λ e within. omega (arith, e, within_not_refused p a P H within),
  λ outside. refused_is_30 p a P H (λ e. outside (not_refused p a P H e)),
)

-- ---- which answer is promised

module _ (p a P H : ℕ) where
  pub refused_answer : {refusal : Refusal} → refusal_number refusal ≡ departure_refusal p a P H → AnswerIs p a P H (Err refusal)
  unfolding shown_in mark_in departure_shown departure_mark
  refused_answer {refusal} given =
      let no : eqb (departure_refusal p a P H) accepted ≡ false = rw given at (refusal_has_number refusal) in
      record { number = given; shown = simp no; mark = simp no }

  pub unseated_answer : departure_refusal p a P H ≡ accepted → a ≡ 0 → AnswerIs p a P H (Ok None)
  unfolding shown_in mark_in departure_shown departure_mark mark_for
  unseated_answer good unseated =
      let yes = eq-eqb (departure_refusal p a P H) accepted good in
      let bare = eq-eqb a 0 unseated in
      record { number = sym good; shown = simp (yes, bare); mark = simp (yes, bare) }

  pub seated_answer : departure_refusal p a P H ≡ accepted → (a ≡ 0 → ⊥)
      → AnswerIs p a P H (Ok (Some (record { shown = shown_of p a P H; mark = mark_of (size_of p a P H) })))
  unfolding shown_in mark_in departure_shown departure_mark mark_for
  seated_answer good seated =
      let yes = eq-eqb (departure_refusal p a P H) accepted good in
      let some_seat = ne_eqb a 0 seated in
      record { number = sym good; shown = simp (yes, some_seat); mark = simp (yes, some_seat) }

-- ---- what 64 bits can hold

-- The two products of a departure within the limits ..
module _ {p a P H : ℕ} (within : InLimits p a P H) where
  pub people_bounded : p * H ≤ sum_limit * house_limit
  people_bounded = mul-le-mul (le_trans within.people_within_lem within.total_limited) within.house_limited

  pub average_bounded : a * P ≤ house_limit * sum_limit
  average_bounded = mul-le-mul (le_trans within.seats_within_lem within.house_limited) within.total_limited

  -- .. and its size, which is one that 64 bits can round.
  pub moderate_size : 0 < a → Moderate (size_of p a P H)
  unfolding size_of distance
  moderate_size seated =
      record {
        positive = mul-pos seated within.some_total;
        narrow = average_bounded;
        low = omega (arith, mul-le-mul within.people_within_lem within.house_limited, mul-le-mul seated (le_refl P));
      }

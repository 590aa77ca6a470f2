-- Document 01, "Operations and their refusals": the departure operation, each answer in the document's terms, and the promise.
use Rattle.std.specs.Prelude.{◌≡◌, ◌∷◌, cond, [], ℕ, eqb, ltb, ℤ, Option as CodeOption, Some, None, Result, Ok, Err}
use Rattle.apportionment.specs.Words.{Option, none, some}
use Rattle.apportionment.specs.Refusals.{accepted, departure_out_of_limits, refusal_of, outside, first_refusal}
use Rattle.apportionment.specs.Limits.{house_limit, sum_limit}
use Rattle.apportionment.specs.{Quantities.shown_of, Quantities.mark_for, declared.Mark.Mark, declared.refusals.Refusal.Refusal}
use Rattle.departure.specs.declared.Shown.{Shown}

unfoldable pub departure_refusal : (p a P H : ℕ) → ℕ  -- 30: P or H outside its limits, p outside 1 to P, a above H.
departure_refusal p a P H = first_refusal (
    (outside sum_limit P, departure_out_of_limits)
    ∷ (outside house_limit H, departure_out_of_limits)
    ∷ (outside P p, departure_out_of_limits)
    ∷ (ltb H a, departure_out_of_limits)
    ∷ [])

unfoldable pub departure_shown : (p a P H : ℕ) → Option ℤ  -- The shown departure: none where refused or without a seat.
departure_shown p a P H = cond (eqb (departure_refusal p a P H) accepted) (cond (eqb a 0) none (some (shown_of p a P H))) none

unfoldable pub departure_mark : (p a P H : ℕ) → Option Mark  -- The mark: none at all where refused, and the mark `none` with 0 seats.
departure_mark p a P H = cond (eqb (departure_refusal p a P H) accepted) (some (mark_for p a P H)) none

unfoldable pub shown_in : Result (CodeOption Shown) Refusal → Option ℤ  -- The shown departure, where there is one.
shown_in (Err refusal) = none
shown_in (Ok None) = none
shown_in (Ok (Some answer)) = some answer.shown

unfoldable pub mark_in : Result (CodeOption Shown) Refusal → Option Mark  -- The mark, where there is one.
mark_in (Err refusal) = none
mark_in (Ok None) = some Mark.None
mark_in (Ok (Some answer)) = some answer.mark

-- An answer has the operation's number, shown departure and mark.
pub record AnswerIs (p a P H : ℕ) (answer : Result (CodeOption Shown) Refusal) : Type 0 where
  pub number : refusal_of answer ≡ departure_refusal p a P H
  pub shown : shown_in answer ≡ departure_shown p a P H
  pub mark : mark_in answer ≡ departure_mark p a P H

-- How near the shown size is to the exact one, and what is shown at the edges: at zero, at halves and at the largest departures. Laws for
-- every input, then one list of computed answers. How large a shown departure can be is in apportionment/specs/inner/Quantities.antt.
-- Assumes nothing.
use Rattle.std.specs.Prelude.{◌≡◌, refl, cond, List, [], ◌∷◌, map, ℕ, suc, ◌+◌, ◌*◌, ◌/◌, ◌<◌, ◌≤◌, ℤ, pos, negsuc, neg_ℤ}
use Rattle.std.proofs.Math.Option.{Option}
use Rattle.std.proofs.Common.{add-mul, mul_assoc, mul_left_comm, one-mul, div-add-mod', mod-lt, add-one, arith}
use Rattle.std.proofs.Math.Nat.{div-eq_of_lt, div-eq_of_lt-le}
use Rattle.apportionment.specs.Refusals.{within, outside, first_refusal}
use Rattle.apportionment.specs.inner.Tests.{cond_both}
use Rattle.apportionment.specs.Quantities.{Fraction, at_most, distance, is_below, mark_for, mark_of, nearest_whole, size_of}
use Rattle.apportionment.specs.Quantities.{shown_of, shown_scale, shown_size}
use Rattle.apportionment.specs.declared.Mark.{Mark}
use Rattle.apportionment.specs.declared.Mark.TheVariants.{In, High, Over}
use Rattle.std.specs.Prelude.{Option as CodeOption, Some, None, Result, Ok, Err}
use Rattle.apportionment.specs.Refusals.{refusal_of}
use Rattle.apportionment.specs.declared.refusals.Refusal.{Refusal}
use Rattle.apportionment.specs.declared.refusals.Refusal.TheVariants.{DepartureOutOfLimits}
use Rattle.departure.specs.declared.Shown.{Shown}
use Rattle.departure.specs.Answer.{departure_mark, departure_refusal, departure_shown, mark_in, shown_in}

-- ---- the nearest

-- A fraction and the whole number nearest to it are at most one half apart ..
within_a_half : (over under : ℕ) → 0 < under → distance (2 * over) (2 * (nearest_whole over under * under)) ≤ under
unfolding nearest_whole distance
within_a_half over under positive =
    let all = 2 * over + under in
    let some : 0 < 2 * under = omega arith in
    omega (arith, div-add-mod' all (2 * under), mod-lt all some, mul_left_comm (all / (2 * under)) 2 under)

-- .. so a size and what is shown of it are at most half a thousandth of a per cent apart.
pub shown_within_a_half : (s : Fraction) → 0 < s.under
    → distance (2 * (shown_scale * s.over)) (2 * (shown_size s * s.under)) ≤ s.under
unfolding shown_size
shown_within_a_half s positive = within_a_half (shown_scale * s.over) s.under positive

-- ---- zero

-- What rounds to zero has no sign.
pub zero_has_no_sign : (p a P H : ℕ) → shown_size (size_of p a P H) ≡ 0 → shown_of p a P H ≡ pos 0
unfolding shown_of
zero_has_no_sign p a P H e =
    rw e (cond_both (λ (shown : ℤ). shown ≡ pos 0) (is_below p a P H) (neg_ℤ (pos 0)) (pos 0) (λ _. refl) (λ _. refl))

nothing_over : (p a P H : ℕ) → 0 < a * P → p * H ≡ a * P → shown_size (size_of p a P H) ≡ 0
unfolding shown_size size_of distance nearest_whole
nothing_over p a P H positive e = div-eq_of_lt (omega arith)

-- A state at the average shows zero.
pub average_shows_zero : (p a P H : ℕ) → 0 < a * P → p * H ≡ a * P → shown_of p a P H ≡ pos 0
average_shows_zero p a P H positive e = zero_has_no_sign p a P H (nothing_over p a P H positive e)

-- ---- halves

-- Half way between two numbers the one further from zero is nearest.
pub half_goes_up : (over under k : ℕ) → 0 < under → 2 * over ≡ (2 * k + 1) * under → nearest_whole over under ≡ k + 1
unfolding nearest_whole
half_goes_up over under k positive e =
    div-eq_of_lt-le (2 * under)
    (omega (arith, simp (add-mul, mul_assoc, one-mul) at e, add-mul k 1 (2 * under), mul_left_comm k 2 under))
    (omega (
      arith,
      simp (add-mul, mul_assoc, one-mul) at e,
      add-mul k 1 (2 * under),
      add-mul (k + 1) 1 (2 * under),
      mul_left_comm k 2 under,
    ))

-- So a departure half way between k and k + 1 thousandths shows k + 1, on either side of zero.
pub half_goes_away_from_zero : (p a P H k : ℕ)
    → 0 < a * P
    → 2 * (shown_scale * distance (p * H) (a * P)) ≡ (2 * k + 1) * (a * P)
    → shown_of p a P H ≡ cond (is_below p a P H) (negsuc k) (pos (suc k))
unfolding shown_of shown_size size_of
half_goes_away_from_zero p a P H k positive e = simp (half_goes_up (shown_scale * distance (p * H) (a * P)) (a * P) k positive e, add-one)

-- ---- computed answers

pub data Input : Type 0 where
  departure : (p a P H : ℕ) → Input

abbrev Answer : Type 0
Answer = Result (CodeOption Shown) Refusal

abbrev shows : ℤ → Mark → Answer
shows thousandths mark = Ok (Some (record { shown = thousandths; mark = mark }))

abbrev no_seats : Answer
no_seats = Ok None

abbrev refused : Answer
refused = Err DepartureOutOfLimits

-- An input beside the answer that is wanted.
infixl 4 ◌gives◌
pub data Case : Type 0 where
  ◌gives◌ : Input → Answer → Case

-- What document 01 gives, and what is wanted: the refusal number, the shown departure and the mark.
unfoldable pub given : Case → ℕ × Option ℤ × Option Mark
given (departure p a P H gives answer) = (departure_refusal p a P H, departure_shown p a P H, departure_mark p a P H)

unfoldable pub wanted : Case → ℕ × Option ℤ × Option Mark
wanted (input gives answer) = (refusal_of answer, shown_in answer, mark_in answer)

unfoldable pub at_the_edges : List Case
at_the_edges =
    -- at the average; at 10 and 15 per cent exactly, on either side; and just above 10, where one shows the same and one does not
    (departure 10 1 20 2 gives shows (pos 0) In)
    ∷ (departure 9 1 20 2 gives shows (negsuc 9999) In)
    ∷ (departure 11 1 20 2 gives shows (pos 10000) In)
    ∷ (departure 1100001 1 2000000 2 gives shows (pos 10000) High)
    ∷ (departure 110001 1 200000 2 gives shows (pos 10001) High)
    ∷ (departure 23 1 40 2 gives shows (pos 15000) High)
    ∷ (departure 17 1 40 2 gives shows (negsuc 14999) High)
    -- halves of a thousandth
    ∷ (departure 200001 1 400000 2 gives shows (pos 1) In)
    ∷ (departure 199999 1 400000 2 gives shows (negsuc 0) In)
    ∷ (departure 200003 1 400000 2 gives shows (pos 2) In)
    ∷ (departure 199997 1 400000 2 gives shows (negsuc 1) In)
    ∷ (departure 133334 1 4000000000 30000 gives shows (pos 1) In)
    ∷ (departure 133330 1 4000000000 30000 gives shows (negsuc 2) In)
    ∷ (departure 3999999998 1 4000000000 30000 gives shows (pos 2999899999) Over)
    -- halves whose scaled remainder is beyond 2^63
    ∷ (departure 60000 30000 4000000000 30000 gives shows (negsuc 99998) Over)
    ∷ (departure 286331153 25600 4294967295 30000 gives shows (negsuc 92187) Over)
    -- less than half a thousandth
    ∷ (departure 250001 1 500000 2 gives shows (pos 0) In)
    ∷ (departure 249999 1 500000 2 gives shows (pos 0) In)
    -- the largest departures; below the average the scaled remainder is then beyond 2^63 too
    ∷ (departure 4294967295 1 4294967295 30000 gives shows (pos 2999900000) Over)
    ∷ (departure 1 30000 4294967295 30000 gives shows (negsuc 99999) Over)
    -- no seat, and each refusal beside what is still taken
    ∷ (departure 5 0 10 3 gives no_seats)
    ∷ (departure 5 3 10 3 gives shows (negsuc 49999) Over)
    ∷ (departure 5 4 10 3 gives refused)
    ∷ (departure 0 1 10 3 gives refused)
    ∷ (departure 10 1 10 3 gives shows (pos 200000) Over)
    ∷ (departure 11 1 10 3 gives refused)
    ∷ (departure 5 1 10 0 gives refused)
    ∷ (departure 5 0 10 30001 gives refused)
    ∷ (departure 5 1 0 3 gives refused)
    ∷ (departure 5 1 4294967296 3 gives refused)
    ∷ []

-- Each input gives what is wanted: antt computes them.
pub edges_hold : map given at_the_edges ≡ map wanted at_the_edges
unfolding given wanted at_the_edges departure_refusal departure_shown departure_mark shown_in mark_in first_refusal outside
    within shown_of is_below shown_size size_of distance nearest_whole mark_for mark_of at_most
edges_hold = refl

-- A state's departure as text: what an answer of the departure operation is written as within the limits, and how long that can be.
-- Assumes nothing.
use Rattle.std.specs.Prelude.{◌≡◌, refl, Bool, true, false, cond, ℕ, zero, suc, ◌+◌, ◌-◌, ◌*◌, ◌/◌, ◌<◌, ◌≤◌, eqb}
use Rattle.std.specs.Prelude.{ℤ, pos, neg_ℤ, Option as CodeOption, Result}
use Rattle.std.proofs.Math.Option.{none, some, Option-elim}
use mathlib.Core.List.{List}
use Rattle.std.proofs.Common.{pos_of_ne-zero, arith, eq-eqb}
use Rattle.std.proofs.lemmas.Bool.{eqb-false}
use Rattle.std.proofs.Math.ListN.{length}
use Rattle.apportionment.specs.Limits.{house_limit}
use Rattle.apportionment.specs.Refusals.{accepted}
use Rattle.apportionment.specs.Text.{bytes_of}
use Rattle.apportionment.specs.Quantities.{is_below, size_of, shown_scale, shown_size, shown_of, shown_text, departure_text, mark_for}
use Rattle.apportionment.specs.Quantities.{mark_text}
use Rattle.apportionment.specs.inner.Tests.{cond_both}
use Rattle.apportionment.specs.inner.Quantities.{largest_above, largest_below}
use Rattle.apportionment.specs.declared.refusals.Refusal.{Refusal}
use Rattle.departure.specs.declared.Shown.{Shown}
use Rattle.departure.specs.Answer.{departure_refusal, departure_shown, departure_mark, shown_in, mark_in, AnswerIs}
use Rattle.departure.specs.inner.Answer.{InLimits, accepted_exactly}
use Rattle.apportionment.specs.inner.Decimal.{decimal_length}
use Rattle.text.specs.inner.Bounds.{shown_size_length}

-- ---- what an answer is written as

shown_or_none : (t : Bool) (s : ℤ)
    → Option-elim (cond t none (some s)) (bytes_of "none") shown_text ≡ cond t (bytes_of "none") (shown_text s)
unfolding Option-elim
shown_or_none true s = refl
shown_or_none false s = refl

module _ {p a P H : ℕ} {answer : Result (CodeOption Shown) Refusal} (within : InLimits p a P H) (is : AnswerIs p a P H answer) where
  not_refused : eqb (departure_refusal p a P H) accepted ≡ true
  not_refused = eq-eqb (departure_refusal p a P H) accepted ((accepted_exactly p a P H).1 within)

  -- Within the limits an answer's shown departure is written as the state's ..
  pub answered_departure : Option-elim (shown_in answer) (bytes_of "none") shown_text ≡ departure_text p a P H
  unfolding departure_text departure_shown
  answered_departure = rw (is.shown, not_refused) (shown_or_none (eqb a 0) (shown_of p a P H))

  -- .. and its mark as the state's.
  pub answered_mark : Option-elim (mark_in answer) (bytes_of "none") mark_text ≡ mark_text (mark_for p a P H)
  unfolding departure_mark Option-elim
  answered_mark = rw (is.mark, not_refused)

-- ---- how long it can be

-- The room of a departure. Above the average it is at most the largest house less one: 29999 wholes, so seven digits, a point and three
-- more. Below it is at most one hundred per cent, so that the sign finds room there.
abbrev pub departure_room : ℕ
departure_room = 11

above_length : (s : ℕ) → s ≤ shown_scale * (house_limit - 1) → length (shown_text (pos s)) ≤ departure_room
unfolding shown_text
above_length s most = omega (arith, shown_size_length s, decimal_length 6 (s / 1000) (omega arith))

below_length : (s : ℕ) → s ≤ shown_scale → length (shown_text (neg_ℤ (pos s))) ≤ departure_room
unfolding shown_text
below_length zero most = omega (arith, shown_size_length 0, decimal_length 0 0 (omega arith))
below_length (suc s) most = omega (arith, shown_size_length (s + 1), decimal_length 2 ((s + 1) / 1000) (omega arith))

module _ {p a P H : ℕ} (within : InLimits p a P H) where
  shown_length : 0 < a → length (shown_text (shown_of p a P H)) ≤ departure_room
  unfolding shown_of
  shown_length seated =
      let size = shown_size (size_of p a P H) in
      cond_both (λ (s : ℤ). length (shown_text s) ≤ departure_room) (is_below p a P H) (neg_ℤ (pos size)) (pos size)
      (λ below. below_length size (largest_below p a P H seated within.some_total below))
      (λ above. above_length size (largest_above p a P H seated within.some_total within.people_within_lem within.house_limited))

  -- The departure of a state within the limits has at most so many bytes.
  pub departure_length : length (departure_text p a P H) ≤ departure_room
  unfolding departure_text
  departure_length =
      cond_both (λ (text : List ℕ). length text ≤ departure_room) (eqb a 0) (bytes_of "none") (shown_text (shown_of p a P H))
      (λ bare. omega arith)
      (λ seated. shown_length (pos_of_ne-zero (eqb-false a 0 seated)))

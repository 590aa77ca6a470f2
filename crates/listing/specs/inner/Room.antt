-- How much room a listing takes, line by line. A listing is first written into a page of just so many bytes, and whoever lends a buffer of
-- so many is never refused 31.
-- Assumes nothing.
use Rattle.std.specs.Prelude.{◌≡◌, refl, List, ℕ, ◌+◌, ◌*◌, ◌<◌, ◌≤◌, length, get_or}
use Rattle.std.proofs.Common.{sym, ◌∙◌, arith, length-append, length-take-le}
use Rattle.apportionment.specs.Limits.{house_limit, sum_limit, state_limit}
use Rattle.apportionment.specs.Lists.{sum}
use Rattle.apportionment.specs.Quantities.{mark_for}
use Rattle.apportionment.specs.Text.{bytes_of}
use Rattle.register.specs.inner.Rows.{name_limit}
use Rattle.text.specs.inner.Bounds.{decimal_of_sum, decimal_of_house, mark_length, lines_length}
use Rattle.text.specs.inner.Bounds.{numbers_length, head_line_length, total_line_length}
use Rattle.text.specs.inner.Departures.{departure_length}
use Rattle.register.specs.Register.{populations_in}
use Rattle.register.specs.Register.{ReadingOutcome}
use Rattle.departure.specs.inner.Answer.{InLimits, AllInLimits}
use Rattle.listing.specs.Listing.{state_line, state_lines, listing_in}

-- The room that each kind of line takes: its fields at their longest, its commas and its line end.
--   head: the word 9, the method 10, the house 5, the number of states 3;
--   state: the name 32, the population 10, the seats 5, the departure 11, the mark 4;
--   total: the word 5, the sum 10, the seats 5.
abbrev pub head_room : ℕ
head_room = 31

abbrev pub line_room : ℕ
line_room = 67

abbrev pub total_room : ℕ
total_room = 23

-- The room that every listing has enough of.
abbrev pub listing_room : ℕ
listing_room = head_room + state_limit * line_room + total_room

-- ---- lines

state_line_length : (name : List ℕ) {p a P H : ℕ} → length name ≤ name_limit → InLimits p a P H
    → length (state_line name p a P H) ≤ line_room
unfolding state_line
state_line_length name {p} {a} {P} {H} short fit =
    simp length-append
    (omega (
      arith,
      numbers_length p a (decimal_of_sum p (omega arith)) (decimal_of_house a (omega arith)),
      departure_length fit,
      mark_length (mark_for p a P H),
    ))

state_lines_length : (name : ℕ → List ℕ) (ps seats : List ℕ) (P H k : ℕ)
    → ((i : ℕ) → i < k → length (name i) ≤ name_limit)
    → ((i : ℕ) → i < k → InLimits (get_or ps i 0) (get_or seats i 0) P H)
    → length (state_lines name ps seats P H k) ≤ k * line_room
unfolding state_lines
state_lines_length name ps seats P H k short each =
    lines_length (state_lines name ps seats P H) (λ (i : ℕ). state_line (name i) (get_or ps i 0) (get_or seats i 0) P H) line_room k
    refl (λ i below. refl) (λ i below. state_line_length (name i) (short i below) (each i below))

-- ---- the listing

-- What was read may be listed with these names and seats: every number is within its limits, and no state's departure is refused.
pub record AllListable (r : ReadingOutcome) (name : ℕ → List ℕ) (seats : List ℕ) : Type 0 where
  pub few_states_lem : r.states ≤ state_limit
  pub house_limited : r.house ≤ house_limit
  pub total_limited : r.total ≤ sum_limit
  pub each_read : r.states ≤ length r.populations
  pub house_seated : sum seats ≡ r.house
  pub each_seated : length seats ≡ r.states
  pub short_names : (i : ℕ) → i < r.states → length (name i) ≤ name_limit
  pub each_in_limits : (i : ℕ) → i < r.states → InLimits (get_or (populations_in r) i 0) (get_or seats i 0) r.total r.house

pub listable_rows : {r : ReadingOutcome} {name : ℕ → List ℕ} {seats : List ℕ} → AllListable r name seats
    → AllInLimits (populations_in r) seats r.total r.house
listable_rows {r} fit =
    let counted : length (populations_in r) ≡ r.states = length-take-le r.states r.populations fit.each_read in
    record { paired = fit.each_seated ∙ sym counted; each = λ i below. fit.each_in_limits i (omega arith) }

pub listing_has_room : {r : ReadingOutcome} {name : ℕ → List ℕ} {seats : List ℕ} → AllListable r name seats
    → length (listing_in r name seats) ≤ listing_room
unfolding listing_in
listing_has_room {r} {name} {seats} fit =
    rw (length-append, length-append)
    (omega (
      arith,
      head_line_length (bytes_of "allotment") r.method r.house r.states fit.house_limited fit.few_states_lem,
      state_lines_length name (populations_in r) seats r.total r.house r.states fit.short_names fit.each_in_limits,
      total_line_length r.total (sum seats) (decimal_of_sum r.total fit.total_limited)
          (decimal_of_house (sum seats) (omega (arith, fit.house_seated))),
    ))

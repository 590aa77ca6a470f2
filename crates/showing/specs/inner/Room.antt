-- How much room a block of the work takes, so that each is written into a page of just so many bytes and fits. The longest is a step: every
-- state weighed, and the line of the one that moved.
-- Assumes nothing.
use Rattle.std.proofs.Math.Path.{refl}
use Rattle.std.specs.Prelude.{Bool, List, ℕ, ◌+◌, ◌*◌, ◌<◌, ◌≤◌, ltb, get_or}
use Rattle.std.proofs.Common.{le_trans}
use native.Mathlib.Omega.{arith}
use Rattle.std.proofs.Math.ListN.{length, length-append}
use Rattle.apportionment.specs.Limits.{state_limit}
use Rattle.apportionment.specs.Text.{bytes_of, decimal}
use Rattle.apportionment.specs.inner.Tests.{cond_both}
use Rattle.departure.specs.inner.Answer.{InLimits}
use Rattle.register.specs.Register.{name_in_row}
use Rattle.register.specs.inner.Rows.{name_limit}
use Rattle.apportionment.specs.inner.Decimal.{decimal_length}
use Rattle.text.specs.inner.Bounds.{decimal_of_sum, decimal_of_house, decimal_of_states, numbers_length}
use Rattle.text.specs.inner.Bounds.{total_line_length, lines_length}
use Rattle.text.specs.inner.Departures.{departure_length}
use Rattle.placing.specs.Placing.{people_of}
use Rattle.placing.specs.declared.Placing.{Placing}
use Rattle.showing.specs.Work.{head_line, state_line, state_lines, moved_text, weighed_line, weighed_lines}
use Rattle.showing.specs.Work.{verb_text, step_line, seats_in, states_text, start_text, end_text, weighed_text, moved_at, step_text}
use Rattle.showing.specs.Work.{move_text}
use Rattle.showing.specs.inner.Work.{weighed_at}
use Rattle.showing.specs.inner.Showable.{total_limit, Showable, ShowableStep, all_weighable, moved_from, moved_to}

-- The room that each kind of line takes: its fields at their longest, its commas and its line end.
--   state: the word 5, the name 32, the population 10, the seats 5, the departure 11;
--   total: the word 5, the sum 10, the seats 5;
--   weighed: the word 7, the step 3, the name 32, both seats 5 each, both departures 11 each;
--   step: the word 4, the step 3, `gives up` 8, the name 32, both seats 5 each, both departures 11 each, the total 5.
abbrev state_room : ℕ
state_room = 68

abbrev total_room : ℕ
total_room = 23

abbrev pub weighed_room : ℕ
weighed_room = 81

abbrev pub step_room : ℕ
step_room = 93

-- The room that every block has enough of.
abbrev pub page_room : ℕ
page_room = state_limit * weighed_room + step_room

decimal_of_total : (n : ℕ) → n ≤ total_limit → length (decimal n) ≤ 5
decimal_of_total n bound = decimal_length 4 n (omega arith)

-- ---- the lines of the start and the end

state_line_length : (word name : List ℕ) {p a P H : ℕ} → length word ≤ 6 → length name ≤ name_limit → InLimits p a P H
    → length (state_line word name p a P H) ≤ state_room
unfolding state_line
state_line_length word name {p} {a} brief short fit =
    simp length-append
    (omega (
      arith,
      numbers_length p a (decimal_of_sum p (omega arith)) (decimal_of_house a (omega arith)),
      departure_length fit,
    ))

module _ {rows : List ℕ} {p : Placing} {P : ℕ} (fit : Showable rows p P) where
  states_length : (word : List ℕ) → length word ≤ 6 → length (states_text word rows p P) ≤ state_limit * state_room + total_room
  unfolding states_text state_lines
  states_length word brief =
      rw length-append
      (omega (
        arith,
        fit.few_states_lem,
        lines_length (state_lines word rows (people_of p) (seats_in p) P p.house)
            (λ (i : ℕ). state_line word (name_in_row rows i) (get_or (people_of p) i 0) (get_or (seats_in p) i 0) P p.house)
            state_room p.states refl (λ i below. refl)
            (λ i below.
            state_line_length word (name_in_row rows i) brief (fit.short_names i below) (fit.in_limits.each i (rw fit.counted below))),
        total_line_length P p.total (decimal_of_sum P fit.sum_limited) (decimal_of_total p.total fit.total_limited),
      ))

  -- The start fits its page ..
  pub start_fits : length (start_text rows p P) ≤ page_room
  unfolding start_text head_line
  start_fits =
      simp length-append
      (omega (
        arith,
        numbers_length p.house p.states (decimal_of_house p.house fit.house_limited)
            (decimal_of_states p.states fit.few_states_lem),
        states_length (bytes_of "start,") (omega arith),
      ))

  -- .. and so does the end.
  pub end_fits : length (end_text rows p P) ≤ page_room
  unfolding end_text
  end_fits = omega (arith, states_length (bytes_of "end,") (omega arith))

-- ---- a step

moved_length : (name : List ℕ) {p a b P H : ℕ} → length name ≤ name_limit → InLimits p a P H → InLimits p b P H
    → length (moved_text name p a b P H) ≤ 68
unfolding moved_text
moved_length name {p} {a} {b} short from to =
    simp length-append
    (omega (
      arith,
      numbers_length a b (decimal_of_house a (le_trans from.seats_within_lem from.house_limited))
          (decimal_of_house b (le_trans to.seats_within_lem to.house_limited)),
      departure_length from,
      departure_length to,
    ))

weighed_length : (step : ℕ) (name : List ℕ) {p a b P H : ℕ} → step ≤ state_limit → length name ≤ name_limit
    → InLimits p a P H → InLimits p b P H → length (weighed_line step name p a b P H) ≤ weighed_room
unfolding weighed_line
weighed_length step name few short from to =
    simp length-append (omega (arith, decimal_of_states step few, moved_length name short from to))

verb_length : (a b : ℕ) → length (verb_text a b) ≤ 10
unfolding verb_text
verb_length a b =
    cond_both (λ (text : List ℕ). length text ≤ 10) (ltb a b) (bytes_of ",gains,") (bytes_of ",gives up,")
    (λ _. omega arith) (λ _. omega arith)

step_length : (step : ℕ) (name : List ℕ) {p a b P H : ℕ} (total : ℕ) → step ≤ state_limit → length name ≤ name_limit
    → InLimits p a P H → InLimits p b P H → total ≤ total_limit → length (step_line step name p a b P H total) ≤ step_room
unfolding step_line
step_length step name {p} {a} {b} total few short from to whole =
    simp length-append
    (omega (arith, decimal_of_states step few, verb_length a b, moved_length name short from to, decimal_of_total total whole))

module _ {rows : List ℕ} {before after : Placing} {P : ℕ} (step : ShowableStep rows before after P) where
  -- A seat is added, or withdrawn.
  abbrev adds : Bool
  adds = ltb before.total before.house

  weighings_length : length (weighed_text after.steps rows before P) ≤ state_limit * weighed_room
  unfolding weighed_text weighed_lines weighed_at
  weighings_length =
      let fit = step.earlier in
      omega (
        arith,
        fit.few_states_lem,
        lines_length (weighed_lines after.steps adds rows (people_of before) (seats_in before) P before.house)
            (weighed_at after.steps adds rows (people_of before) (seats_in before) P before.house)
            weighed_room before.states refl (λ i below. refl)
            (λ i below.
            let inside : i < length (people_of before) = rw fit.counted below in
            weighed_length after.steps (name_in_row rows i) step.later.few_steps (fit.short_names i below)
            (fit.in_limits.each i inside) ((all_weighable fit).as_they_would_be i inside)),
      )

  moved_line_length : length (step_text (moved_at before after) rows before after P) ≤ step_room
  unfolding step_text
  moved_line_length =
      step_length after.steps (name_in_row rows (moved_at before after)) after.total step.later.few_steps
      (step.earlier.short_names (moved_at before after) step.state_moved) (moved_from step) (moved_to step) step.later.total_limited

  -- A step fits its page.
  pub move_fits : length (move_text rows before after P) ≤ page_room
  unfolding move_text
  move_fits = rw length-append (omega (arith, weighings_length, moved_line_length))

-- How much room a clean form takes, line by line. It is first written on a page of at least so many bytes, and whoever lends a
-- buffer of so many for the most states is never refused 31.
-- Assumes nothing.
use Rattle.std.specs.Prelude.{◌≡◌, refl, List, [], ℕ, ◌+◌, ◌*◌, ◌<◌, ◌≤◌, length, get_or, take}
use Rattle.std.proofs.Common.{add-one, arith, length-append, length-take-le, take_all}
use Rattle.apportionment.specs.Limits.{state_limit, house_limit, sum_limit}
use Rattle.apportionment.specs.Lists.{sum}
use Rattle.apportionment.specs.inner.Lists.{entry_at_most_sum}
use Rattle.apportionment.specs.Text.{bytes_of}
use Rattle.apportionment.specs.declared.Method.{Method}
use Rattle.register.specs.Register.{populations_in}
use Rattle.register.specs.inner.Rows.{name_limit}
use Rattle.register.specs.inner.Sound.{ReadingSound}
use Rattle.register.specs.Register.{ReadingOutcome}
use Rattle.text.specs.inner.Bounds.{decimal_of_sum, head_line_length, lines_length}
use Rattle.cleaning.specs.Clean.{pair_line, state_lines, stored_text}
use Rattle.cleaning.specs.Clean.{no_tail, clean_in}
use Rattle.cleaning.specs.inner.Stored.{lines_more}

-- The room that each kind of line takes: its fields at their longest, its commas and its line end.
--   head: the word 8, the method 10, the house 5, the number of states 3;
--   state: the name 32, the population 10;
--   total: the word 5, the sum 10.
abbrev pub head_room : ℕ
head_room = 30

abbrev pub line_room : ℕ
line_room = 44

abbrev pub total_room : ℕ
total_room = 17

-- The room that the clean form of so many states has enough of, and that every clean form has.
abbrev pub room_for : (states : ℕ) → ℕ
room_for states = head_room + states * line_room + total_room

abbrev pub clean_room : ℕ
clean_room = room_for state_limit

-- ---- lines

-- Beside its word and its tail a line has a number, a comma and its end.
pair_length : (word : List ℕ) (n : ℕ) (tail : List ℕ) → n ≤ sum_limit → length (pair_line word n tail) ≤ length word + length tail + 12
unfolding pair_line
pair_length word n tail few = simp length-append (omega (arith, decimal_of_sum n few))

-- Lines whose names and tails have so much room together, at most.
state_lines_length : (name tail : ℕ → List ℕ) (room : ℕ) (ps : List ℕ)
    → ((i : ℕ) → i < length ps → length (name i) + length (tail i) ≤ room) → sum ps ≤ sum_limit
    → length (state_lines name tail 0 ps) ≤ length ps * (room + 12)
unfolding state_lines
state_lines_length name tail room ps short few =
    rw (take_all (length ps) ps (omega arith)) at
    (lines_length (λ (k : ℕ). state_lines name tail 0 (take k ps)) (λ (k : ℕ). pair_line (name k) (get_or ps k 0) (tail k)) (room + 12)
    (length ps) refl (λ k below. rw add-one at (lines_more name tail ps k below))
    (λ k below.
    omega (
      arith,
      pair_length (name k) (get_or ps k 0) (tail k) (omega (arith, entry_at_most_sum ps k)),
      short k below,
    )))

-- ---- the clean form

pub clean_length : (m : Method) (H : ℕ) (name : ℕ → List ℕ) (ps : List ℕ) → H ≤ house_limit → length ps ≤ state_limit → sum ps ≤ sum_limit
    → ((i : ℕ) → i < length ps → length (name i) ≤ name_limit)
    → length (stored_text (bytes_of "register") m H name no_tail ps) ≤ room_for (length ps)
unfolding stored_text
clean_length m H name ps house few limited short =
    rw (length-append, length-append)
    (omega (
      arith,
      head_line_length (bytes_of "register") m H (length ps) house few,
      state_lines_length name no_tail name_limit ps (λ i below. omega (arith, short i below)) limited,
      pair_length (bytes_of "total") (sum ps) [] limited,
    ))

-- What was read may be written clean with these names.
pub record Cleanable (r : ReadingOutcome) (name : ℕ → List ℕ) : Type 0 where
  pub sound : ReadingSound r
  pub short_names : (i : ℕ) → i < r.states → length (name i) ≤ name_limit

module _ {r : ReadingOutcome} {name : ℕ → List ℕ} (fit : Cleanable r name) where
  pub each_read : r.states ≤ length r.populations
  each_read = omega (arith, fit.sound.states, fit.sound.populations.room)

  pub counted : length (populations_in r) ≡ r.states
  counted = length-take-le r.states r.populations each_read

  pub clean_has_room : length (clean_in r name) ≤ room_for r.states
  unfolding clean_in
  clean_has_room =
      rw counted at
      (clean_length r.method r.house name (populations_in r) fit.sound.house.1 (omega (arith, counted, fit.sound.states))
      (omega (arith, fit.sound.populations.summed, fit.sound.populations.limited))
      (λ i below. fit.short_names i (omega (arith, counted))))

-- Leximin's work as text: the start, before each step every state as it is and as it would be, the step, and the end (docs/PROGRAMS.md).
-- P is the sum of the populations, H the house; `rows` is the register from the first state's line on.
use Rattle.std.specs.Prelude.{◌++◌, ◌+◌, ◌-◌, Bool, cond, List, [], ℕ, zero, suc, ltb, eqb, length, get_or, take}
use Rattle.apportionment.specs.{Text.bytes_of, Text.decimal, Quantities.departure_text}
use Rattle.placing.specs.{Placing.people_of, declared.Placing.Placing}
use Rattle.register.specs.Register.{name_in_row}
use Rattle.text.specs.Shared.{numbers_text, total_line}

unfoldable pub head_line : (H n : ℕ) → List ℕ  -- The first line: the word, the method, the house, the number of states.
head_line H n = bytes_of "work,leximin" ++ numbers_text H n ++ bytes_of "\n"

unfoldable pub state_line : (word name : List ℕ) (p a P H : ℕ) → List ℕ  -- Word, name, population, seats, departure.
state_line word name p a P H = word ++ name ++ numbers_text p a ++ bytes_of "," ++ departure_text p a P H ++ bytes_of "\n"

unfoldable pub state_lines : (word rows ps seats : List ℕ) (P H k : ℕ) → List ℕ  -- The lines of the first k states.
state_lines word rows ps seats P H zero = []
state_lines word rows ps seats P H (suc k) =
    state_lines word rows ps seats P H k ++ state_line word (name_in_row rows k) (get_or ps k 0) (get_or seats k 0) P H

unfoldable pub moved_text : (name : List ℕ) (p a b P H : ℕ) → List ℕ  -- A state with a seats and with b: name, seats, departures.
moved_text name p a b P H = name ++ numbers_text a b ++ bytes_of "," ++ departure_text p a P H ++ bytes_of "," ++ departure_text p b P H

-- The seats of a state if it is the one that moves, by a seat added or withdrawn.
unfoldable pub seats_if_moved : (adds : Bool) (a : ℕ) → ℕ
seats_if_moved adds a = cond adds (a + 1) (a - 1)

unfoldable pub weighed_line : (step : ℕ) (name : List ℕ) (p a b P H : ℕ) → List ℕ  -- A state weighed with a seats and with b.
weighed_line step name p a b P H = bytes_of "weighed," ++ decimal step ++ bytes_of "," ++ moved_text name p a b P H ++ bytes_of "\n"

unfoldable pub weighed_lines : (step : ℕ) (adds : Bool) (rows ps seats : List ℕ) (P H k : ℕ) → List ℕ  -- The first k states.
weighed_lines step adds rows ps seats P H zero = []
weighed_lines step adds rows ps seats P H (suc k) =
    let a = get_or seats k 0 in
    weighed_lines step adds rows ps seats P H k ++ weighed_line step (name_in_row rows k) (get_or ps k 0) a (seats_if_moved adds a) P H

unfoldable pub verb_text : (a b : ℕ) → List ℕ  -- What a state does that goes from a seats to b.
verb_text a b = cond (ltb a b) (bytes_of ",gains,") (bytes_of ",gives up,")

unfoldable pub step_line : (step : ℕ) (name : List ℕ) (p a b P H total : ℕ) → List ℕ  -- A step, and the total after it.
step_line step name p a b P H total =
    bytes_of "step," ++ decimal step ++ verb_text a b ++ moved_text name p a b P H ++ bytes_of "," ++ decimal total ++ bytes_of "\n"

unfoldable pub difference_from : (xs ys : List ℕ) (left i : ℕ) → ℕ  -- The first of `left` places from i on where two lists differ.
difference_from xs ys zero i = i
difference_from xs ys (suc left) i = cond (eqb (get_or xs i 0) (get_or ys i 0)) (difference_from xs ys left (i + 1)) i

unfoldable pub first_difference : (xs ys : List ℕ) → ℕ  -- The first place where two lists of one length differ, or their length.
first_difference xs ys = difference_from xs ys (length xs) 0

unfoldable pub seats_in : Placing → List ℕ  -- A placing's own seats, beside `people_of`, its own populations.
seats_in p = take p.states p.seats

unfoldable pub states_text : (word rows : List ℕ) → Placing → (P : ℕ) → List ℕ  -- A placing's states and their totals.
states_text word rows p P = state_lines word rows (people_of p) (seats_in p) P p.house p.states ++ total_line P p.total

unfoldable pub start_text : (rows : List ℕ) → Placing → (P : ℕ) → List ℕ  -- The start: every state at its nearest seats.
start_text rows p P = head_line p.house p.states ++ states_text (bytes_of "start,") rows p P

unfoldable pub end_text : (rows : List ℕ) → Placing → (P : ℕ) → List ℕ  -- The end: every state at the house.
end_text rows p P = states_text (bytes_of "end,") rows p P

unfoldable pub weighed_text : (step : ℕ) (rows : List ℕ) → Placing → (P : ℕ) → List ℕ  -- Every state weighed before a step.
weighed_text step rows p P = weighed_lines step (ltb p.total p.house) rows (people_of p) (seats_in p) P p.house p.states

unfoldable pub moved_at : (before after : Placing) → ℕ  -- The place of the state that moved between two placings: where their seats differ.
moved_at before after = first_difference (seats_in before) (seats_in after)

unfoldable pub step_text : (at : ℕ) (rows : List ℕ) (before after : Placing) (P : ℕ) → List ℕ  -- The step of the state at a place.
step_text at rows before after P =
    step_line after.steps (name_in_row rows at) (get_or before.populations at 0) (get_or before.seats at 0)
    (get_or after.seats at 0) P before.house after.total

unfoldable pub move_text : (rows : List ℕ) (before after : Placing) (P : ℕ) → List ℕ  -- What was weighed, and which state moved.
move_text rows before after P = weighed_text after.steps rows before P ++ step_text (moved_at before after) rows before after P

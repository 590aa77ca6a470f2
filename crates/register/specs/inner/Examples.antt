-- Document 01's register and two of its refusals, computed by the definitions.
-- Assumes nothing.
use Rattle.std.specs.Prelude.{◌≡◌, refl, List, [], ◌∷◌, ◌++◌, ℕ, zero, suc, ◌-◌, ◌<◌, get_or, replicate}
use Rattle.std.proofs.Common.{ap, ◌∙◌, arith}
use Rattle.apportionment.specs.Limits.{state_limit}
use Rattle.apportionment.specs.Refusals.{accepted, line_ill_formed, number_out_of_limits}
use Rattle.apportionment.specs.Lists.{same_list}
use Rattle.apportionment.specs.Text.{bytes_of}
use Rattle.apportionment.specs.Refusals.{within, outside, first_refusal}
use Rattle.apportionment.specs.declared.Method.TheVariants.{Leximin}
use Rattle.fields.specs.Grammar.{place_of, has, before, after, all_between}
use Rattle.apportionment.specs.Methods.{method_text}
use Rattle.fields.specs.Grammar.{line_feed, ended, last_byte, without_return, line_of, rest_of, field_of, fields_after, is_number}
use Rattle.fields.specs.Grammar.{value_from}
use Rattle.fields.specs.Grammar.{value_of, is_name, is_method_field, first_named, method_named}
use Rattle.lines.specs.Lines.{method_field, house_field, count_field, head_formed, is_head, head_refused, head_of, name_at, number_field}
use Rattle.lines.specs.Lines.{number_at}
use Rattle.lines.specs.Lines.{pair_formed, is_state_line, is_closing_line, used_in, state_refusal, closing_refusal}
use Rattle.lines.specs.Lines.{is_unknown, method_in, head_refusal, head_read}
use Rattle.register.specs.Register.{no_populations, refused, accepts, end_of, closing_of, states_from, states_of, lines_of, reading_of}
use Rattle.register.specs.Register.{rows_of, lines_after, name_in_row, name_refusal_in, name_refusal_of, name_of}
use Rattle.register.specs.inner.Sound.{name_there}
use Rattle.register.specs.Register.{ReadingOutcome}

-- Lines that end in LF, as bytes.
abbrev pub lines_ended : List (List ℕ) → List ℕ
lines_ended [] = []
lines_ended (line ∷ lines) = line ++ (line_feed ∷ lines_ended lines)

-- The register of "The listing in full".
abbrev pub example : List ℕ
example =
    lines_ended
    (bytes_of "register,leximin,20,5"
    ∷ bytes_of "A,26"
    ∷ bytes_of "B,27"
    ∷ bytes_of "C,28"
    ∷ bytes_of "D,29"
    ∷ bytes_of "E,91"
    ∷ bytes_of "total,201"
    ∷ [])

-- Two states, the second with no people, and a false total.
abbrev pub zero_population : List ℕ
zero_population =
    lines_ended
    (bytes_of "register,leximin,20,2" ∷ bytes_of "A,26" ∷ bytes_of "B,0" ∷ bytes_of "total,27" ∷ [])

-- The example as it is read.
abbrev pub example_reading : ReadingOutcome
example_reading = record {
  refusal = accepted;
  line = 0;
  method = Leximin;
  house = 20;
  states = 5;
  total = 201;
  populations = 26 ∷ 27 ∷ 28 ∷ 29 ∷ 91 ∷ replicate (state_limit - 5) 0;
}

-- The example reads as it should, and its state with place 4 is E; a file of no bytes is 2 on line 1; a population 0 on line 3
-- goes before a false total.
pub examples_hold :
    (reading_of example ≡ example_reading)
    × (name_of example 4 ≡ bytes_of "E")
    × (reading_of [] ≡ refused line_ill_formed 1)
    × (reading_of zero_population ≡ refused number_out_of_limits 3)
unfolding same_list within outside first_refusal place_of has before after all_between ended last_byte without_return line_of rest_of
    field_of
    fields_after is_number value_from value_of is_name is_method_field method_text first_named method_named method_field house_field
    count_field
    head_formed is_head is_unknown method_in head_refusal head_refused head_read head_of name_at number_field number_at pair_formed
    is_state_line is_closing_line used_in state_refusal closing_refusal no_populations refused accepts end_of closing_of states_from
    states_of
    lines_of reading_of lines_after name_refusal_in name_refusal_of name_of
examples_hold = (refl, refl, refl, refl)

-- The names of the example's states.
abbrev pub example_name : (place : ℕ) → List ℕ
example_name place =
    get_or (bytes_of "A" ∷ bytes_of "B" ∷ bytes_of "C" ∷ bytes_of "D" ∷ bytes_of "E" ∷ []) place []

example_in_row : (i : ℕ) → i < example_reading.states → name_in_row (rows_of example) i ≡ example_name i
unfolding place_of before after last_byte without_return line_of rest_of field_of name_at lines_after
example_in_row zero below = refl
example_in_row (suc zero) below = refl
example_in_row (suc (suc zero)) below = refl
example_in_row (suc (suc (suc zero))) below = refl
example_in_row (suc (suc (suc (suc zero)))) below = refl
example_in_row (suc (suc (suc (suc (suc i))))) below = absurd (omega arith)

pub example_named : (i : ℕ) → i < example_reading.states → name_of example i ≡ example_name i
example_named i below =
    name_there example i (ap (λ (r : ReadingOutcome). r.refusal) examples_hold.0) (rw examples_hold.0 below)
    ∙ example_in_row i below

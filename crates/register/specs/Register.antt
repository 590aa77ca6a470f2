-- Document 01, "Operations": reading a register line by line, and names. Each definition takes what is left of the bytes.
use Rattle.std.specs.Prelude.{◌+◌, cond, List, ℕ, zero, suc, ltb, eqb, length, take, set}
use Rattle.std.specs.Prelude.{replicate, [], Result, Ok, Err}
use Rattle.apportionment.specs.Refusals.{accepted, register_too_long, line_ill_formed, place_out_of_states}
use Rattle.apportionment.specs.{Limits.state_limit, Limits.register_limit, declared.Method.TheVariants.Leximin}
use Rattle.fields.specs.Grammar.{rest_of}
use Rattle.apportionment.specs.{Refusals.refusal_number, declared.Method.Method, declared.refusals.Refused.Refused}
use Rattle.lines.specs.{Lines.HeadOutcome, Lines.head_of, Lines.number_at, Lines.state_refusal, Lines.closing_refusal, Lines.name_at}
use Rattle.register.specs.declared.Reading.{Reading}

pub record ReadingOutcome : Type 0 where  -- What comes of reading: the refusal and the line at fault, 0 for none, and what was read.
  pub refusal : ℕ
  pub line : ℕ
  pub method : Method
  pub house : ℕ
  pub states : ℕ
  pub total : ℕ
  pub populations : List ℕ

pub record RefusalTold : Type 0 where  -- A refusal's number and line; 0 and 0 for none.
  pub number : ℕ
  pub line : ℕ

unfoldable pub no_populations : List ℕ  -- No populations yet.
no_populations = replicate state_limit 0

unfoldable pub refused : (refusal line : ℕ) → ReadingOutcome  -- But for the number and the line, all is 0 and the method leximin.
refused refusal line =
    record { refusal = refusal; line = line; method = Leximin; house = 0; states = 0; total = 0; populations = no_populations }

unfoldable pub accepts : HeadOutcome → (total : ℕ) (populations : List ℕ) → ReadingOutcome  -- A register that is read.
accepts h total people =
    record { refusal = accepted; line = 0; method = h.method; house = h.house; states = h.states; total = total; populations = people }

unfoldable pub end_of : HeadOutcome → (total : ℕ) (populations : List ℕ) → List ℕ → ReadingOutcome  -- Nothing follows the closing line.
end_of head total populations s = cond (eqb (length s) 0) (accepts head total populations) (refused line_ill_formed (head.states + 3))

unfoldable pub closing_of : HeadOutcome → (total : ℕ) (populations : List ℕ) → List ℕ → ReadingOutcome  -- The closing line, and more.
closing_of head total populations s =
    let refusal = closing_refusal total s in
    cond (eqb refusal accepted) (end_of head total populations (rest_of s)) (refused refusal (head.states + 2))

-- After k states, whose lines start at `first`.
unfoldable pub states_from : HeadOutcome → (first : List ℕ) (left k sum : ℕ) (populations : List ℕ) → List ℕ → ReadingOutcome
states_from head first zero k sum populations s = closing_of head sum populations s
states_from head first (suc left) k sum populations s =
    let refusal = state_refusal first k sum s in
    let p = number_at s in
    let next = states_from head first left (k + 1) (sum + p) (set populations k p) (rest_of s) in
    cond (eqb refusal accepted) next (refused refusal (k + 2))

unfoldable pub states_of : HeadOutcome → List ℕ → ReadingOutcome  -- Every line after the head.
states_of head s = states_from head s head.states 0 0 no_populations s

unfoldable pub lines_of : List ℕ → ReadingOutcome  -- The lines from the top.
lines_of s =
    let head = head_of s in
    cond (eqb head.refusal accepted) (states_of head (rest_of s)) (refused head.refusal 1)

unfoldable pub reading_of : List ℕ → ReadingOutcome  -- What reading a register gives.
reading_of s = cond (ltb register_limit (length s)) (refused register_too_long 0) (lines_of s)

abbrev pub reading_outcome : Result Reading Refused → ReadingOutcome  -- So the code tells it: a reading, or a refusal and its line.
reading_outcome (Ok r) =
    record {
      refusal = accepted;
      line = 0;
      method = r.method;
      house = r.house;
      states = r.states;
      total = r.total;
      populations = r.populations;
    }
reading_outcome (Err e) = refused (refusal_number e.refusal) e.line

abbrev pub populations_in : ReadingOutcome → List ℕ  -- The populations that were read, without the 0s past them.
populations_in r = take r.states r.populations

abbrev pub rows_of : List ℕ → List ℕ  -- The rows of a register: its lines from the first state's on.
rows_of s = rest_of s

unfoldable pub lines_after : (k : ℕ) → List ℕ → List ℕ  -- What is left after k lines.
lines_after zero s = s
lines_after (suc k) s = lines_after k (rest_of s)

abbrev pub name_in_row : (rows : List ℕ) (k : ℕ) → List ℕ  -- The first field of the line at place k among those whose rows start here.
name_in_row rows k = name_at (lines_after k rows)

unfoldable pub name_refusal_in : ReadingOutcome → (place : ℕ) → RefusalTold  -- Reading's refusal and line, then 40 for a place not below n.
name_refusal_in r place =
    cond (eqb r.refusal accepted)
    (cond (ltb place r.states) (record { number = accepted; line = 0 }) (record { number = place_out_of_states; line = 0 }))
    (record { number = r.refusal; line = r.line })

unfoldable pub name_refusal_of : List ℕ → (place : ℕ) → RefusalTold
name_refusal_of s place = name_refusal_in (reading_of s) place

unfoldable pub name_of : List ℕ → (place : ℕ) → List ℕ  -- The name of the state with a given place. Nothing where it is refused.
name_of s place = cond (eqb (name_refusal_of s place).number accepted) (name_in_row (rows_of s) place) []

abbrev pub refusal_told : {A : Type 0} → Result A Refused → RefusalTold  -- So the code tells a refusal of a name.
refusal_told (Ok _) = record { number = accepted; line = 0 }
refusal_told (Err e) = record { number = refusal_number e.refusal; line = e.line }

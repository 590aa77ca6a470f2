-- Document 01, "The register" and "Operations": the three kinds of line, from what is left of the bytes, and their checks in order.
use Rattle.std.specs.Prelude.{◌∷◌, ◌+◌, Bool, true, false, cond, not, List, [], Option, Some, None, Result, Ok, Err, ℕ}
use Rattle.std.specs.Prelude.{zero, suc, ltb, eqb}
use Rattle.apportionment.specs.Refusals.{accepted, line_ill_formed, number_out_of_limits, method_unknown, name_used, running_sum_too_large}
use Rattle.apportionment.specs.Refusals.{total_differs, outside, first_refusal}
use Rattle.apportionment.specs.Limits.{state_limit, house_limit, sum_limit}
use Rattle.apportionment.specs.{Lists.same_list, Text.bytes_of, declared.Method.Method, declared.Method.TheVariants.Leximin}
use Rattle.fields.specs.Grammar.{ended, line_of, rest_of, field_of, fields_after, is_number, value_of, is_name, is_method_field}
use Rattle.fields.specs.Grammar.{method_named}
use Rattle.apportionment.specs.{Refusals.refusal_number, declared.refusals.Refusal.Refusal}
use Rattle.lines.specs.declared.head.Head.{Head}

unfoldable pub method_field : List ℕ → List ℕ  -- The fields of the head.
method_field s = field_of (fields_after (line_of s))

unfoldable pub house_field : List ℕ → List ℕ
house_field s = field_of (fields_after (fields_after (line_of s)))

unfoldable pub count_field : List ℕ → List ℕ
count_field s = fields_after (fields_after (fields_after (line_of s)))

unfoldable pub head_formed : (is_ended : Bool) (word method house count : List ℕ) → Bool  -- The head is ended, each field as it should be.
head_formed is_ended word method house count =
    cond is_ended (cond (same_list word (bytes_of "register"))
    (cond (is_method_field method) (cond (is_number house) (is_number count) false) false) false) false

unfoldable pub is_head : List ℕ → Bool
is_head s = head_formed (ended s) (field_of (line_of s)) (method_field s) (house_field s) (count_field s)

unfoldable pub is_unknown : Option Method → Bool  -- A field names no method.
is_unknown = elim [ None ↦ true | Some m ↦ false ]

unfoldable pub method_in : Option Method → Method  -- The method that a field names; leximin where it names none.
method_in = elim [ None ↦ Leximin | Some m ↦ m ]

unfoldable pub head_refusal : List ℕ → ℕ  -- The refusal of the head.
head_refusal s = first_refusal (
    (not (is_head s), line_ill_formed)
    ∷ (is_unknown (method_named (method_field s)), method_unknown)
    ∷ (outside house_limit (value_of (house_field s)), number_out_of_limits)
    ∷ (outside state_limit (value_of (count_field s)), number_out_of_limits)
    ∷ [])

pub record HeadOutcome : Type 0 where  -- What comes of reading the head: its refusal, 0 for none, and what it says.
  pub refusal : ℕ
  pub method : Method
  pub house : ℕ
  pub states : ℕ

unfoldable pub head_refused : ℕ → HeadOutcome  -- A head that is refused: all but the number is 0, and the method is leximin.
head_refused refusal = record { refusal = refusal; method = Leximin; house = 0; states = 0 }

unfoldable pub head_read : Option Method → (house states : ℕ) → HeadOutcome  -- Not refused, it says its method, house and count of states.
head_read named house states = record { refusal = accepted; method = method_in named; house = house; states = states }

unfoldable pub head_of : List ℕ → HeadOutcome  -- What the head says.
head_of s =
    let read = head_read (method_named (method_field s)) (value_of (house_field s)) (value_of (count_field s)) in
    cond (eqb (head_refusal s) accepted) read (head_refused (head_refusal s))

abbrev pub head_accepted : Head → HeadOutcome  -- So the code tells it: a head that is not refused, or the refusal.
head_accepted head = record { refusal = accepted; method = head.method; house = head.house; states = head.states }

abbrev pub head_outcome : Result Head Refusal → HeadOutcome
head_outcome (Ok head) = head_accepted head
head_outcome (Err refusal) = head_refused (refusal_number refusal)

unfoldable pub name_at : List ℕ → List ℕ  -- The first field, which is the name on a state's line, and the number after it.
name_at s = field_of (line_of s)

unfoldable pub number_field : List ℕ → List ℕ
number_field s = fields_after (line_of s)

unfoldable pub number_at : List ℕ → ℕ
number_at s = value_of (number_field s)

unfoldable pub pair_formed : (is_ended passes : Bool) (digits : List ℕ) → Bool  -- Ended, the first field passes, a number follows.
pair_formed is_ended passes digits = cond is_ended (cond passes (is_number digits) false) false

unfoldable pub used_in : (k : ℕ) (s name : List ℕ) → Bool  -- The name stands on one of the k lines from here on.
used_in zero s name = false
used_in (suc k) s name = cond (same_list (name_at s) name) true (used_in k (rest_of s) name)

unfoldable pub is_state_line : List ℕ → Bool  -- A state's line: a name and a number.
is_state_line s = pair_formed (ended s) (is_name (name_at s)) (number_field s)

unfoldable pub is_closing_line : List ℕ → Bool  -- The closing line: `total` and a number.
is_closing_line s = pair_formed (ended s) (same_list (name_at s) (bytes_of "total")) (number_field s)

unfoldable pub state_refusal : (first : List ℕ) (k sum : ℕ) → List ℕ → ℕ  -- After k others, which start at `first` and sum to `sum`.
state_refusal first k sum s = first_refusal (
    (not (is_state_line s), line_ill_formed)
    ∷ (outside sum_limit (number_at s), number_out_of_limits)
    ∷ (used_in k first (name_at s), name_used)
    ∷ (ltb sum_limit (sum + number_at s), running_sum_too_large)
    ∷ [])

unfoldable pub closing_refusal : (sum : ℕ) → List ℕ → ℕ  -- The refusal of the closing line after states that sum to `sum`.
closing_refusal sum s = first_refusal (
    (not (is_closing_line s), line_ill_formed)
    ∷ (outside sum_limit (number_at s), number_out_of_limits)
    ∷ (not (eqb (number_at s) sum), total_differs)
    ∷ [])

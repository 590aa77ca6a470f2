-- What is written as a line of a register is read back: the head from its method and numbers, a line of two fields from both.
-- Assumes nothing.
use Rattle.std.specs.Prelude.{◌≡◌, true, false, List, ◌∷◌, ◌++◌, ℕ, ◌+◌, ◌^◌, ◌<◌, ◌≤◌}
use Rattle.std.proofs.Math.Path.{refl}
use Rattle.std.proofs.Common.{append_assoc, arith}
use borrow.Author.Tests.{eq-eqb, le-ltb}
use Rattle.apportionment.specs.Limits.{state_limit, house_limit, sum_limit}
use Rattle.apportionment.specs.Refusals.{accepted}
use Rattle.apportionment.specs.Refusals.{first_refusal}
use Rattle.apportionment.specs.Text.{bytes_of, decimal}
use Rattle.apportionment.specs.Methods.{method_text}
use Rattle.apportionment.specs.inner.Checks.{inside_false}
use Rattle.apportionment.specs.inner.Lists.{same_list_self}
use Rattle.apportionment.specs.declared.Method.{Method}
use Rattle.fields.specs.Grammar.{all_between}
use Rattle.fields.specs.Grammar.{digit_limit, line_feed, comma, ended, line_of, rest_of, field_of, is_name}
use Rattle.fields.specs.inner.Written.{Without, Printable, Starts, between_append, line_written, field_written, field_without_comma}
use Rattle.fields.specs.inner.Written.{value_written, number_written, number_printable, number_without_comma}
use Rattle.fields.specs.inner.Written.{method_field_written, method_printable, method_without_comma, method_written}
use Rattle.lines.specs.Lines.{method_field, house_field, count_field, head_formed, is_head, is_unknown, method_in}
use Rattle.lines.specs.Lines.{head_refusal, head_read, head_of, name_at, number_field, number_at, pair_formed, used_in}
use Rattle.lines.specs.Lines.{is_state_line, is_closing_line, state_refusal, closing_refusal}

-- Text, a comma, and more text may stand in a line if both may.
pub joined_printable : (f g : List ℕ) → Printable f → Printable g → Printable (f ++ comma ∷ g)
unfolding all_between
joined_printable f g plain more = between_append 32 126 f (comma ∷ g) plain more

-- ---- a line of two fields

-- What is left starts with a line of two fields, ended, and goes on after it.
pub record Pair (s f g rest : List ℕ) : Type 0 where
  pub closed : ended s ≡ true
  pub name : name_at s ≡ f
  pub digits : number_field s ≡ g
  pub then : rest_of s ≡ rest

-- Such a line as it is written.
abbrev pub pair_text : (name digits : List ℕ) → List ℕ
pair_text name digits = name ++ bytes_of "," ++ digits ++ bytes_of "\n"

pub pair_written : (name digits rest : List ℕ) → Printable name → Without comma name → Printable digits
    → Pair (pair_text name digits ++ rest) name digits rest
unfolding name_at number_field
pair_written name digits rest plain whole more =
    let line = line_written (name ++ comma ∷ digits) rest (joined_printable name digits plain more) in
    let fields = field_written name digits whole in
    rw laid
    (record { closed = line.closed; name = rw line.first fields.0; digits = rw line.first fields.1; then = line.then })
  where
    laid : pair_text name digits ++ rest ≡ (name ++ comma ∷ digits) ++ line_feed ∷ rest
    laid = simp append_assoc refl

-- A name that was read has no comma.
pub name_without_comma : (s : List ℕ) → Without comma (name_at s)
unfolding name_at
name_without_comma s = field_without_comma (line_of s)

module _ {s name : List ℕ} {p : ℕ} {rest : List ℕ} (pair : Pair s name (decimal p) rest) (few : p ≤ sum_limit) where
  pub pair_number : number_at s ≡ p
  unfolding number_at
  pair_number = rw pair.digits (value_written p (omega arith))

  pub pair_formed_lem : pair_formed (ended s) true (number_field s) ≡ true
  unfolding pair_formed
  pair_formed_lem = rw (pair.closed, pair.digits) (number_written p (omega arith))

  -- A state's line whose name was not used before, and whose population fits the sum so far.
  pub state_written : (first : List ℕ) (k sum : ℕ) → is_name name ≡ true → used_in k first name ≡ false → 1 ≤ p → sum + p ≤ sum_limit
      → state_refusal first k sum s ≡ accepted
  unfolding state_refusal is_state_line first_refusal
  state_written first k sum named unused some fits =
      rw (
        pair.name,
        named,
        pair_formed_lem,
        pair_number,
        inside_false sum_limit p (some, few),
        unused,
        le-ltb sum_limit (sum + p) fits,
      )

  -- The closing line with the sum of the states.
  pub closing_written : name ≡ bytes_of "total" → 1 ≤ p → closing_refusal p s ≡ accepted
  unfolding closing_refusal is_closing_line first_refusal
  closing_written word some =
      rw (
        pair.name,
        word,
        same_list_self (bytes_of "total"),
        pair_formed_lem,
        pair_number,
        inside_false sum_limit p (some, few),
        eq-eqb p p refl,
      )

-- ---- the head

-- What is left starts with the head of a stored form, ended, and goes on after it.
pub record HeadFields (s f : List ℕ) (m : Method) (H n : ℕ) (rest : List ℕ) : Type 0 where
  pub closed : ended s ≡ true
  pub word : field_of (line_of s) ≡ f
  pub method : method_field s ≡ method_text m
  pub house : house_field s ≡ decimal H
  pub states : count_field s ≡ decimal n
  pub then : rest_of s ≡ rest

-- The head as it is written.
abbrev pub head_text : (word : List ℕ) → Method → (H n : ℕ) → List ℕ
head_text word m H n =
    word ++ bytes_of "," ++ method_text m ++ (bytes_of "," ++ decimal H ++ bytes_of "," ++ decimal n) ++ bytes_of "\n"

module _ (word : List ℕ) (m : Method) (H n : ℕ) (rest : List ℕ) (plain : Printable word) (whole : Without comma word)
    (house : H < 10 ^ digit_limit) (states : n < 10 ^ digit_limit) where
  abbrev line : List ℕ
  line = word ++ comma ∷ (method_text m ++ comma ∷ (decimal H ++ comma ∷ decimal n))

  laid : head_text word m H n ++ rest ≡ line ++ line_feed ∷ rest
  laid = simp append_assoc refl

  starts : Starts (line ++ line_feed ∷ rest) line rest
  starts =
      line_written line rest
      (joined_printable word _ plain
      (joined_printable (method_text m) _ (method_printable m)
      (joined_printable (decimal H) (decimal n) (number_printable H house) (number_printable n states))))

  pub head_fields : HeadFields (head_text word m H n ++ rest) word m H n rest
  unfolding method_field house_field count_field
  head_fields =
      let numbers = field_written (decimal H) (decimal n) (number_without_comma H house) in
      let method = field_written (method_text m) (decimal H ++ comma ∷ decimal n) (method_without_comma m) in
      let first = field_written word (method_text m ++ comma ∷ (decimal H ++ comma ∷ decimal n)) whole in
      rw laid
      (record {
        closed = starts.closed;
        word = rw starts.first first.0;
        method = rw (starts.first, first.1) method.0;
        house = rw (starts.first, first.1, method.1) numbers.0;
        states = rw (starts.first, first.1, method.1) numbers.1;
        then = starts.then;
      })

-- The head of a register says its method, house and number of states.
module _ {s : List ℕ} {m : Method} {H n : ℕ} {rest : List ℕ} (fields : HeadFields s (bytes_of "register") m H n rest)
    (house : (1 ≤ H) × (H ≤ house_limit)) (states : (1 ≤ n) × (n ≤ state_limit)) where
  head_formed_lem : is_head s ≡ true
  unfolding is_head head_formed
  head_formed_lem =
      rw (
        fields.closed,
        fields.word,
        same_list_self (bytes_of "register"),
        fields.method,
        method_field_written m,
        fields.house,
        number_written H (omega arith),
        fields.states,
      )
      (number_written n (omega arith))

  pub head_written : head_of s ≡ record { refusal = accepted; method = m; house = H; states = n }
  unfolding head_of head_refusal head_read first_refusal is_unknown method_in
  head_written =
      rw (
        head_formed_lem,
        fields.method,
        method_written m,
        fields.house,
        value_written H (omega arith),
        inside_false house_limit H house,
        fields.states,
        value_written n (omega arith),
        inside_false state_limit n states,
      )

-- Document 01, "The register": parts of a run of bytes; what a line, a field, a number, a name and the word of a method are.
use Rattle.std.specs.Prelude.{◌∷◌, ◌+◌, ◌-◌, ◌*◌, Bool, true, false, cond, List, [], Option, Some, None, ℕ, suc, ltb, leb, eqb, length}
use Rattle.std.specs.Prelude.{take, drop, get_or}
use Rattle.apportionment.specs.{Lists.same_list, Methods.methods, Methods.method_text, Refusals.within, declared.Method.Method}

unfoldable pub place_of : (b : ℕ) → List ℕ → ℕ  -- The place of the first byte b, counted from 0; the length where there is none.
place_of b [] = 0
place_of b (x ∷ s) = cond (eqb x b) 0 (suc (place_of b s))

unfoldable pub has : (b : ℕ) → List ℕ → Bool  -- Some byte is b.
has b s = ltb (place_of b s) (length s)

unfoldable pub before : (b : ℕ) → List ℕ → List ℕ  -- What stands before the first byte b; all of it where there is none.
before b s = take (place_of b s) s

unfoldable pub after : (b : ℕ) → List ℕ → List ℕ  -- What stands after the first byte b; nothing where there is none.
after b s = drop (place_of b s + 1) s

unfoldable pub all_between : (lo hi : ℕ) → List ℕ → Bool  -- Every byte is at least lo and at most hi.
all_between lo hi [] = true
all_between lo hi (x ∷ s) = cond (leb lo x) (cond (leb x hi) (all_between lo hi s) false) false

abbrev pub line_feed : ℕ  -- The bytes that part lines and fields.
line_feed = 10

abbrev pub carriage_return : ℕ
carriage_return = 13

abbrev pub comma : ℕ
comma = 44

abbrev pub blank : ℕ
blank = 32

unfoldable pub ended : List ℕ → Bool  -- The first line of what is left has an end.
ended s = has line_feed s

unfoldable pub last_byte : List ℕ → ℕ  -- The last byte; 0 where there is none.
last_byte s = get_or s (length s - 1) 0

unfoldable pub without_return : List ℕ → List ℕ  -- A line without the CR of its end, if it has one.
without_return s = cond (eqb (last_byte s) carriage_return) (take (length s - 1) s) s

unfoldable pub line_of : List ℕ → List ℕ  -- The first line of what is left, without its end: LF, or CR LF.
line_of s = without_return (before line_feed s)

unfoldable pub rest_of : List ℕ → List ℕ  -- What is left after the first line.
rest_of s = after line_feed s

unfoldable pub field_of : List ℕ → List ℕ  -- The first field of a line, and what follows its comma. A missing field is empty.
field_of line = before comma line

unfoldable pub fields_after : List ℕ → List ℕ
fields_after line = after comma line

abbrev pub digit_limit : ℕ  -- The most digits of a number.
digit_limit = 10

unfoldable pub is_number : List ℕ → Bool  -- A number: 1 to 10 digits, leading zeros among them.
is_number f = cond (within digit_limit (length f)) (all_between 48 57 f) false

unfoldable pub value_from : (v : ℕ) → List ℕ → ℕ  -- The value of digits after those that came to v.
value_from v [] = v
value_from v (d ∷ f) = value_from (v * 10 + (d - 48)) f

unfoldable pub value_of : List ℕ → ℕ  -- The value of a number.
value_of f = value_from 0 f

abbrev pub word_limit : ℕ  -- The most bytes of a name or of a method field.
word_limit = 32

unfoldable pub is_name : List ℕ → Bool  -- A name: 1 to 32 bytes, no blank at either end, each from 32 to 126.
is_name f =
    cond (within word_limit (length f))
    (cond (eqb (get_or f 0 0) blank) false (cond (eqb (last_byte f) blank) false (all_between 32 126 f))) false

unfoldable pub is_method_field : List ℕ → Bool  -- A method field: 1 to 32 bytes from 33 to 126.
is_method_field f = cond (within word_limit (length f)) (all_between 33 126 f) false

unfoldable pub first_named : List ℕ → List Method → Option Method  -- The first of some methods whose word is the field.
first_named f [] = None
first_named f (m ∷ ms) = cond (same_list f (method_text m)) (Some m) (first_named f ms)

unfoldable pub method_named : List ℕ → Option Method  -- The method that a field names.
method_named f = first_named f methods

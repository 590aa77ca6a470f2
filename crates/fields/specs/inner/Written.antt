-- What is written is read back: a line before a line feed, a field before a comma, a number in base ten, the word of a method.
-- Assumes nothing.
use Rattle.std.specs.Prelude.{◌≡◌, refl, true, Some, List, [], ◌∷◌, ◌++◌, ℕ, suc, ◌+◌, ◌-◌, ◌*◌, ◌^◌, ◌<◌, ◌≤◌, ◌/◌, ◌%◌, leb, eqb, length}
use Rattle.std.specs.Prelude.{get_or}
use Rattle.std.proofs.Common.{ap, ◌∙◌, arith, eqb-true, eq-eqb, ne_eqb, lt-ltb, le-leb, leb-true, length-append}
use Rattle.std.proofs.Math.Seq.{take-append_seam, drop-append-add}
use Rattle.apportionment.specs.Text.{decimal, digit}
use Rattle.apportionment.specs.Methods.{method_text}
use Rattle.apportionment.specs.Lists.{same_list}
use Rattle.apportionment.specs.Refusals.{within}
use Rattle.apportionment.specs.inner.Tests.{either_way}
use Rattle.apportionment.specs.inner.Checks.{within_true}
use Rattle.apportionment.specs.inner.Decimal.{decimal_by_digits, decimal_length, decimal_some}
use Rattle.apportionment.specs.inner.Methods.{every_method}
use Rattle.apportionment.specs.declared.Method.{Method}
use Rattle.apportionment.specs.declared.Method.TheVariants.{Leximin, Adams, Dean, Hill, Webster, Jefferson, Remainders, Quota}
use Rattle.fields.specs.Grammar.{place_of, has, before, after, all_between}
use Rattle.fields.specs.Grammar.{line_feed, carriage_return, comma, blank, ended, last_byte, without_return, line_of, rest_of}
use Rattle.fields.specs.Grammar.{field_of, fields_after, is_name}
use Rattle.fields.specs.Grammar.{digit_limit, is_number, value_from, value_of, word_limit, is_method_field, first_named, method_named}
use Rattle.fields.specs.inner.Tests.{both, neither}
use Rattle.fields.specs.inner.Parts.{between_at}

-- ---- a byte that parts

-- No byte is b.
abbrev pub Without : (b : ℕ) → List ℕ → Type 0
Without b s = place_of b s ≡ length s

-- What stands before the first byte b has none.
pub before_without : (b : ℕ) (s : List ℕ) → Without b (before b s)
unfolding before place_of
before_without b [] = refl
before_without b (x ∷ s) =
    either_way (eqb x b) (λ here. rw here) (λ other. rw (other, other) (ap suc (before_without b s)))

-- Text without b, a byte b, and more: the three are told apart.
parted_at : (b : ℕ) (s t : List ℕ) → Without b s → place_of b (s ++ b ∷ t) ≡ length s
unfolding place_of
parted_at b [] t none = rw (eq-eqb b b refl)
parted_at b (x ∷ s) t none =
    either_way (eqb x b)
    (λ here. absurd (omega (arith, rw here at none)))
    (λ other. rw other (ap suc (parted_at b s t (omega (arith, rw other at none)))))

pub parted_has : (b : ℕ) (s t : List ℕ) → Without b s → has b (s ++ b ∷ t) ≡ true
unfolding has
parted_has b s t none =
    lt-ltb (place_of b (s ++ b ∷ t)) (length (s ++ b ∷ t)) (omega (arith, parted_at b s t none, length-append s (b ∷ t)))

pub parted_before : (b : ℕ) (s t : List ℕ) → Without b s → before b (s ++ b ∷ t) ≡ s
unfolding before
parted_before b s t none = rw (parted_at b s t none) (take-append_seam s (b ∷ t))

pub parted_after : (b : ℕ) (s t : List ℕ) → Without b s → after b (s ++ b ∷ t) ≡ t
unfolding after
parted_after b s t none = rw (parted_at b s t none) (drop-append-add s (b ∷ t) 1)

-- ---- bytes in a range

-- A byte below the range does not occur.
pub between_without : (lo hi b : ℕ) (s : List ℕ) → b < lo → all_between lo hi s ≡ true → Without b s
unfolding all_between place_of
between_without lo hi b [] low all = refl
between_without lo hi b (x ∷ s) low all =
    let first = both (leb lo x) _ all in
    let rest = both (leb x hi) _ first.1 in
    let other = ne_eqb x b (λ e. absurd (omega (arith, leb-true lo x first.0))) in
    rw other (ap suc (between_without lo hi b s low rest.1))

pub between_append : (lo hi : ℕ) (s t : List ℕ) → all_between lo hi s ≡ true → all_between lo hi t ≡ true
    → all_between lo hi (s ++ t) ≡ true
unfolding all_between
between_append lo hi [] t all more = more
between_append lo hi (x ∷ s) t all more =
    let first = both (leb lo x) _ all in
    let rest = both (leb x hi) _ first.1 in
    rw (first.0, rest.0) (between_append lo hi s t rest.1 more)

-- A narrower range.
pub between_wider : (lo hi from to : ℕ) (s : List ℕ) → from ≤ lo → hi ≤ to → all_between lo hi s ≡ true → all_between from to s ≡ true
unfolding all_between
between_wider lo hi from to [] low high all = refl
between_wider lo hi from to (x ∷ s) low high all =
    let first = both (leb lo x) _ all in
    let rest = both (leb x hi) _ first.1 in
    let above = le-leb from x (omega (arith, leb-true lo x first.0)) in
    let below = le-leb x to (omega (arith, leb-true x hi rest.0)) in
    rw (above, below) (between_wider lo hi from to s low high rest.1)

-- ---- lines

-- Text that may stand in a line.
abbrev pub Printable : List ℕ → Type 0
Printable s = all_between 32 126 s ≡ true

-- It does not end in a carriage return.
no_return : (s : List ℕ) → Printable s → without_return s ≡ s
unfolding without_return last_byte
no_return [] plain = refl
no_return (x ∷ s) plain =
    let last = between_at 32 126 (x ∷ s) plain (length (x ∷ s) - 1) (omega arith) in
    rw (ne_eqb (get_or (x ∷ s) (length (x ∷ s) - 1) 0) carriage_return (λ e. absurd (omega (arith, last))))

-- What is left starts with a line, ended, and goes on after it.
pub record Starts (s line rest : List ℕ) : Type 0 where
  pub closed : ended s ≡ true
  pub first : line_of s ≡ line
  pub then : rest_of s ≡ rest

pub line_written : (line rest : List ℕ) → Printable line → Starts (line ++ line_feed ∷ rest) line rest
unfolding ended line_of rest_of
line_written line rest plain =
    let none = between_without 32 126 line_feed line (omega arith) plain in
    record {
      closed = parted_has line_feed line rest none;
      first = rw (parted_before line_feed line rest none) (no_return line plain);
      then = parted_after line_feed line rest none;
    }

-- ---- fields

pub field_written : (f rest : List ℕ) → Without comma f → (field_of (f ++ comma ∷ rest) ≡ f) × (fields_after (f ++ comma ∷ rest) ≡ rest)
unfolding field_of fields_after
field_written f rest none = (parted_before comma f rest none, parted_after comma f rest none)

-- A field that was cut has no comma.
pub field_without_comma : (line : List ℕ) → Without comma (field_of line)
unfolding field_of
field_without_comma line = before_without comma line

-- ---- numbers

value_append : (v : ℕ) (s t : List ℕ) → value_from v (s ++ t) ≡ value_from (value_from v s) t
unfolding value_from
value_append v [] t = refl
value_append v (d ∷ s) t = value_append (v * 10 + (d - 48)) s t

-- A written number's bytes are digits ..
digit_between : (d : ℕ) → d < 10 → all_between 48 57 (digit d) ≡ true
unfolding all_between
digit_between d small = rw (le-leb 48 (48 + d) (omega arith), le-leb (48 + d) 57 (omega arith))

pub digits_written : (n : ℕ) → n < 10 ^ digit_limit → all_between 48 57 (decimal n) ≡ true
digits_written n bound =
    decimal_by_digits (λ (m : ℕ) (text : List ℕ). all_between 48 57 text ≡ true) digit_between
    (λ m tens. between_append 48 57 (decimal (m / 10)) (digit (m % 10)) tens (digit_between (m % 10) (omega arith))) 9 n bound

-- .. that come to the number.
value_of_digit : (d : ℕ) → d < 10 → value_of (digit d) ≡ d
unfolding value_of value_from
value_of_digit d small = omega arith

value_of_more : (n : ℕ) → value_of (decimal (n / 10)) ≡ n / 10 → value_of (decimal (n / 10) ++ digit (n % 10)) ≡ n
unfolding value_of value_from
value_of_more n tens = value_append 0 (decimal (n / 10)) (digit (n % 10)) ∙ omega (arith, tens)

pub value_written : (n : ℕ) → n < 10 ^ digit_limit → value_of (decimal n) ≡ n
value_written n bound = decimal_by_digits (λ (m : ℕ) (text : List ℕ). value_of text ≡ m) value_of_digit value_of_more 9 n bound

pub number_written : (n : ℕ) → n < 10 ^ digit_limit → is_number (decimal n) ≡ true
unfolding is_number
number_written n bound =
    rw (within_true digit_limit (length (decimal n)) (decimal_some n, decimal_length 9 n bound)) (digits_written n bound)

pub number_printable : (n : ℕ) → n < 10 ^ digit_limit → Printable (decimal n)
number_printable n bound = between_wider 48 57 32 126 (decimal n) (omega arith) (omega arith) (digits_written n bound)

pub number_without_comma : (n : ℕ) → n < 10 ^ digit_limit → Without comma (decimal n)
number_without_comma n bound = between_without 48 57 comma (decimal n) (omega arith) (digits_written n bound)

-- ---- names, and words of methods

-- A name may stand in a line.
pub name_printable : (f : List ℕ) → is_name f ≡ true → Printable f
unfolding is_name
name_printable f name =
    let start = (both (within word_limit (length f)) _ name).1 in
    let end = neither (eqb (get_or f 0 0) blank) _ start in
    neither (eqb (last_byte f) blank) _ end

pub method_field_written : (m : Method) → is_method_field (method_text m) ≡ true
unfolding is_method_field within all_between method_text
method_field_written m = every_method (λ m. is_method_field (method_text m)) refl refl m

pub method_printable : (m : Method) → Printable (method_text m)
unfolding is_method_field
method_printable m =
    between_wider 33 126 32 126 (method_text m) (omega arith) (omega arith)
    (both (within word_limit (length (method_text m))) _ (method_field_written m)).1

pub method_without_comma : (m : Method) → Without comma (method_text m)
unfolding place_of method_text
method_without_comma m =
    eqb-true (place_of comma (method_text m)) (length (method_text m))
    (every_method (λ m. eqb (place_of comma (method_text m)) (length (method_text m))) refl refl m)

pub method_written : (m : Method) → method_named (method_text m) ≡ Some m
unfolding method_named first_named same_list method_text
method_written Leximin = refl
method_written Adams = refl
method_written Dean = refl
method_written Hill = refl
method_written Webster = refl
method_written Jefferson = refl
method_written Remainders = refl
method_written Quota = refl

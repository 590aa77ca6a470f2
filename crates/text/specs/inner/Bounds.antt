-- How long each piece of text can be: by this a whole listing, and a block of the work, fits the page in which it is written.
-- Assumes nothing.
use Rattle.std.specs.Prelude.{◌≡◌, refl, List, ◌++◌, ℕ, zero, suc, ◌+◌, ◌*◌, ◌^◌, ◌<◌, ◌≤◌, ◌/◌, leb, length}
use Rattle.std.proofs.Common.{suc-mul, arith, leb-true, length-append}
use Rattle.apportionment.specs.Limits.{state_limit, house_limit, sum_limit}
use Rattle.apportionment.specs.Text.{decimal}
use Rattle.apportionment.specs.inner.Decimal.{decimal_length}
use Rattle.apportionment.specs.Quantities.{shown_size_text, mark_text}
use Rattle.apportionment.specs.declared.Mark.{Mark}
use Rattle.apportionment.specs.declared.Mark.TheVariants.{In, High, Over, None}
use Rattle.apportionment.specs.declared.Method.{Method}
use Rattle.apportionment.specs.Methods.{method_text}
use Rattle.apportionment.specs.inner.Methods.{every_method}
use Rattle.text.specs.Shared.{numbers_text, head_line, total_line, refusal_line}

-- Every u64 has at most 20 digits.
pub decimal_of_u64 : (n : ℕ) → n < 2 ^ 64 → length (decimal n) ≤ 20
decimal_of_u64 n bound = decimal_length 19 n (omega arith)

-- A population, or a sum of them, has at most 10 digits, a house or seats 5, and a number of states 3.
pub decimal_of_sum : (n : ℕ) → n ≤ sum_limit → length (decimal n) ≤ 10
decimal_of_sum n bound = decimal_length 9 n (omega arith)

pub decimal_of_house : (n : ℕ) → n ≤ house_limit → length (decimal n) ≤ 5
decimal_of_house n bound = decimal_length 4 n (omega arith)

pub decimal_of_states : (n : ℕ) → n ≤ state_limit → length (decimal n) ≤ 3
decimal_of_states n bound = decimal_length 2 n (omega arith)

-- A shown size has its whole per cent, a point and three digits.
pub shown_size_length : (s : ℕ) → length (shown_size_text s) ≡ length (decimal (s / 1000)) + 4
unfolding shown_size_text
shown_size_length s = simp length-append (omega arith)

-- A mark's word, and a method's.
pub mark_length : (mark : Mark) → length (mark_text mark) ≤ 4
unfolding mark_text
mark_length In = omega arith
mark_length High = omega arith
mark_length Over = omega arith
mark_length None = omega arith

pub method_length : (method : Method) → length (method_text method) ≤ 10
unfolding method_text
method_length method =
    leb-true (length (method_text method)) 10 (every_method (λ m. leb (length (method_text m)) 10) refl refl method)

-- The bytes of two numbers, each within its own bound.
pub numbers_length : {k l : ℕ} (x y : ℕ) → length (decimal x) ≤ k → length (decimal y) ≤ l → length (numbers_text x y) ≤ k + l + 2
unfolding numbers_text
numbers_length x y few some = simp length-append (omega arith)

-- The first line: the word, the method 10, the house 5, the number of states 3, three commas and the line end.
pub head_line_length : (word : List ℕ) (m : Method) (H n : ℕ) → H ≤ house_limit → n ≤ state_limit
    → length (head_line word m H n) ≤ length word + 22
unfolding head_line
head_line_length word m H n house states =
    simp length-append (omega (arith, method_length m, numbers_length H n (decimal_of_house H house) (decimal_of_states n states)))

-- The line of totals and a refusal's, each with its numbers' own bounds.
pub total_line_length : {k l : ℕ} (P allotted : ℕ) → length (decimal P) ≤ k → length (decimal allotted) ≤ l
    → length (total_line P allotted) ≤ k + l + 8
unfolding total_line
total_line_length P allotted few some = simp length-append (omega (arith, numbers_length P allotted few some))

pub refusal_line_length : (n l : ℕ) → n < 2 ^ 64 → l < 2 ^ 64 → length (refusal_line n l) ≤ 50
unfolding refusal_line
refusal_line_length n l few small =
    simp length-append (omega (arith, numbers_length n l (decimal_of_u64 n few) (decimal_of_u64 l small)))

-- Lines one after the other, each within its room, are within as many rooms.
pub lines_length : (lines line : ℕ → List ℕ) (room n : ℕ) → length (lines 0) ≡ 0
    → ((k : ℕ) → k < n → lines (suc k) ≡ lines k ++ line k)
    → ((k : ℕ) → k < n → length (line k) ≤ room) → length (lines n) ≤ n * room
lines_length lines line room zero empty more each = omega arith
lines_length lines line room (suc n) empty more each =
    rw (more n (omega arith), length-append, suc-mul)
    (omega (
      arith,
      lines_length lines line room n empty (λ k below. more k (omega arith)) (λ k below. each k (omega arith)),
      each n (omega arith),
    ))

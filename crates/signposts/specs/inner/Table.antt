-- What a row of the table of signposts stands for, and that it is worked out within machine words. The rows themselves stand in the code
-- alone (src/table.rt); that each of them gives document 01's signpost, up to the most seats that rounding can give, is the contract of
-- `signpost_of` there.
-- Assumes nothing.
use Rattle.std.specs.Prelude.{List, ℕ, ◌+◌, ◌*◌, ◌≤◌, get_or}
use Rattle.std.proofs.Common.{arith, le_trans, mul-le-mul}
use Rattle.apportionment.specs.Lists.{sum}
use Rattle.apportionment.specs.inner.Lists.{entry_at_most_sum}
use Rattle.apportionment.specs.Quantities.{Fraction}
use Rattle.signposts.specs.inner.Claims.{seat_limit}

-- The fraction that a row gives at a seats: a quadratic above, by the coefficients of a², of a and of 1, and a line below.
abbrev pub row_signpost : (row : List ℕ) (a : ℕ) → Fraction
row_signpost row a =
    record { over = get_or row 0 0 * (a * a) + get_or row 1 0 * a + get_or row 2 0; under = get_or row 3 0 * a + get_or row 4 0 }

-- ---- as the code works it out

-- What the coefficients of a row add up to is at most this: one digit, which leaves room for other rows, and far less than would take a
-- signpost past a word.
abbrev pub row_limit : ℕ
row_limit = 9

-- A row can be worked out in machine words at a seats.
pub record RowFits (row : List ℕ) (a : ℕ) : Type 0 where
  pub small : sum row ≤ row_limit
  pub seats_within : a ≤ seat_limit

module _ {row : List ℕ} {a : ℕ} (k : RowFits row a) where
  -- How large a line in the seats is, by two of the row's coefficients, and the quadratic, which has such a line in it.
  pub line_at_most : (i j : ℕ) → get_or row i 0 * a + get_or row j 0 ≤ row_limit * seat_limit + row_limit
  line_at_most i j =
      let slope = le_trans (entry_at_most_sum row i) k.small in
      omega (arith, k.small, mul-le-mul slope k.seats_within, entry_at_most_sum row j)

  pub quadratic_at_most : (get_or row 0 0 * a + get_or row 1 0) * a + get_or row 2 0 ≤
      (row_limit * seat_limit + row_limit) * seat_limit + row_limit
  quadratic_at_most = omega (arith, k.small, mul-le-mul (line_at_most 0 1) k.seats_within, entry_at_most_sum row 2)

-- Largest remainders, by rank: document 01, "The other methods", with the order that the electoral act (W-202) sets for equal remainders.
use Rattle.std.specs.Prelude.{◌+◌, ◌-◌, ◌*◌, ◌/◌, ◌%◌, Bool, true, false, cond, List, ℕ, ltb, length, get_or}
use Rattle.apportionment.specs.Lists.{sum, count_below, list_of}

unfoldable pub whole_part : (ps : List ℕ) (H i : ℕ) → ℕ  -- The whole part of p H / P, and the remainder of p H by P.
whole_part ps H i = get_or ps i 0 * H / sum ps

unfoldable pub remainder : (ps : List ℕ) (H i : ℕ) → ℕ
remainder ps H i = get_or ps i 0 * H % sum ps

unfoldable pub served_before : (ps : List ℕ) (H i j : ℕ) → Bool  -- State j goes before i: by remainder, then population, then place.
served_before ps H i j =
    cond (ltb (remainder ps H i) (remainder ps H j)) true (cond (ltb (remainder ps H j) (remainder ps H i)) false
    (cond (ltb (get_or ps i 0) (get_or ps j 0)) true (cond (ltb (get_or ps j 0) (get_or ps i 0)) false (ltb j i))))

unfoldable pub seats_left : (ps : List ℕ) (H : ℕ) → ℕ  -- The seats left once each state has its whole part.
seats_left ps H = H - sum (list_of (whole_part ps H) (length ps))

unfoldable pub rank : (ps : List ℕ) (H i : ℕ) → ℕ  -- How many are served before the state.
rank ps H i = count_below (served_before ps H i) (length ps)

unfoldable pub remainder_seats_at : (ps : List ℕ) (H i : ℕ) → ℕ  -- One seat beyond the whole part if the rank is below the seats left.
remainder_seats_at ps H i = whole_part ps H i + cond (ltb (rank ps H i) (seats_left ps H)) 1 0

unfoldable pub remainder_seats : (ps : List ℕ) (H : ℕ) → List ℕ
remainder_seats ps H = list_of (remainder_seats_at ps H) (length ps)

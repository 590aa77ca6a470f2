-- What an order of claims is, what it means that seats stand in it, and the moves that place or withdraw one seat.
-- Written (i, a): the claim of state i, which has a seats, to one more. `lo i` is the fewest seats of state i.
-- Assumes nothing.
use Rattle.std.specs.Prelude.{◌≡◌, Bool, true, false, not, cond, List, ℕ, zero, suc, ◌-◌, ◌<◌, ◌≤◌, ltb, length, get_or, set}
use Rattle.apportionment.specs.Lists.{first_place}
use Rattle.apportionment.specs.Divisor.{one_more}

-- A test of two claims, (i, a) and (j, b).
abbrev pub ClaimTest : Type 0
ClaimTest = (i a j b : ℕ) → Bool

-- `lt` orders the claims of n states by value: no two come before each other, claims that do not come before are passed on, and a
-- state's claims come in turn.
pub record ClaimOrder (n : ℕ) (lo : ℕ → ℕ) (lt : ClaimTest) : Type 0 where
  pub asym : (i a j b : ℕ) → i < n → lo i ≤ a → j < n → lo j ≤ b → lt i a j b ≡ true → lt j b i a ≡ false
  pub through : (i a j b k c : ℕ) → i < n → lo i ≤ a → j < n → lo j ≤ b → k < n → lo k ≤ c
      → lt i a j b ≡ false → lt j b k c ≡ false → lt i a k c ≡ false
  pub rises : (i a : ℕ) → i < n → lo i ≤ a → lt i a i (suc a) ≡ true

-- (i, a) comes before (j, b): its value does or, of equal values, its state is earlier in register order.
unfoldable pub comes : ClaimTest → ClaimTest
comes lt i a j b = cond (lt i a j b) true (cond (lt j b i a) false (ltb i j))

-- Seats stand: each claim met comes before each claim not met.
pub record Standing (n : ℕ) (lo : ℕ → ℕ) (lt : ClaimTest) (xs : List ℕ) : Type 0 where
  pub states : length xs ≡ n
  pub least : (i : ℕ) → i < n → lo i ≤ get_or xs i 0
  pub apart : (i a j b : ℕ) → i < n → lo i ≤ a → a < get_or xs i 0 → j < n → get_or xs j 0 ≤ b → comes lt i a j b ≡ true

-- ---- placing

-- State i's next claim comes before state j's.
unfoldable pub wants_before : ClaimTest → List ℕ → ℕ → ℕ → Bool
wants_before lt xs i j = lt i (get_or xs i 0) j (get_or xs j 0)

-- The state with the first claim not met, the earliest of equals.
unfoldable pub first_unmet : ClaimTest → ℕ → List ℕ → ℕ
first_unmet lt n xs = first_place (wants_before lt xs) (n - 1)

unfoldable pub placed : ClaimTest → ℕ → List ℕ → List ℕ
placed lt n xs = one_more xs (first_unmet lt n xs)

unfoldable pub placed_times : ClaimTest → ℕ → List ℕ → ℕ → List ℕ
placed_times lt n xs zero = xs
placed_times lt n xs (suc k) = placed lt n (placed_times lt n xs k)

-- ---- withdrawing

-- State i gives up a seat rather than state j: only above its fewest seats, and then the one whose last claim does not come before the
-- other's; so the latest of equals.
unfoldable pub gives_up_before : (ℕ → ℕ) → ClaimTest → List ℕ → ℕ → ℕ → Bool
gives_up_before lo lt xs i j =
    cond (ltb (lo i) (get_or xs i 0))
    (cond (ltb (lo j) (get_or xs j 0)) (not (lt i (get_or xs i 0 - 1) j (get_or xs j 0 - 1))) true)
    false

-- The state with the last claim met, the latest of equals.
unfoldable pub last_met : (ℕ → ℕ) → ClaimTest → ℕ → List ℕ → ℕ
last_met lo lt n xs = first_place (gives_up_before lo lt xs) (n - 1)

-- A seat is withdrawn.
unfoldable pub one_less : List ℕ → ℕ → List ℕ
one_less xs i = set xs i (get_or xs i 0 - 1)

unfoldable pub withdrawn : (ℕ → ℕ) → ClaimTest → ℕ → List ℕ → List ℕ
withdrawn lo lt n xs = one_less xs (last_met lo lt n xs)

unfoldable pub withdrawn_times : (ℕ → ℕ) → ClaimTest → ℕ → List ℕ → ℕ → List ℕ
withdrawn_times lo lt n xs zero = xs
withdrawn_times lo lt n xs (suc k) = withdrawn lo lt n (withdrawn_times lo lt n xs k)

-- ---- the test of a standing by its two ends

-- The last claim met comes before the first one not met; so too where none is met.
unfoldable pub ends_apart : (ℕ → ℕ) → ClaimTest → ℕ → List ℕ → Bool
ends_apart lo lt n xs =
    let i = last_met lo lt n xs in
    let j = first_unmet lt n xs in
    cond (ltb (lo i) (get_or xs i 0)) (comes lt i (get_or xs i 0 - 1) j (get_or xs j 0)) true

-- Words about lists of numbers that the other definitions share.
use Rattle.std.specs.Prelude.{◌&&◌, ◌∷◌, ◌+◌, Bool, true, false, cond, List, [], ℕ, zero, suc, eqb}

unfoldable pub sum : List ℕ → ℕ  -- The sum of a list.
sum [] = 0
sum (x ∷ xs) = x + sum xs

unfoldable pub same_list : List ℕ → List ℕ → Bool  -- The same numbers in the same order.
same_list [] [] = true
same_list [] (y ∷ ys) = false
same_list (x ∷ xs) [] = false
same_list (x ∷ xs) (y ∷ ys) = eqb x y && same_list xs ys

unfoldable pub first_place : (ℕ → ℕ → Bool) → ℕ → ℕ  -- The place from 0 to k that comes first under an order; the earliest of equals.
first_place before zero = 0
first_place before (suc k) =
    let best = first_place before k in
    cond (before (suc k) best) (suc k) best

unfoldable pub among : (ℕ → Bool) → (ℕ → ℕ → Bool) → ℕ → ℕ → Bool  -- Those that pass come first, by `before` among themselves.
among test before i j = cond (test i) (cond (test j) (before i j) true) false

unfoldable pub count_below : (ℕ → Bool) → ℕ → ℕ  -- How many places below k pass the test.
count_below test zero = 0
count_below test (suc k) = cond (test k) 1 0 + count_below test k

unfoldable pub list_of : (ℕ → ℕ) → ℕ → List ℕ  -- The list of f 0, f 1, .. f (n - 1).
list_of f zero = []
list_of f (suc n) = f 0 ∷ list_of (λ k. f (suc k)) n

-- Sums over the states: what a list holds at each state's place, with another number beside it.
-- Assumes nothing.
use Rattle.std.specs.Prelude.{◌≡◌, refl, List, ℕ, ◌+◌, ◌*◌, ◌<◌, ◌≤◌, length, get_or}
use Rattle.std.proofs.Common.{ap, ◌∙◌, arith}
use Rattle.apportionment.specs.Lists.{sum, list_of}
use Rattle.apportionment.specs.inner.Lists.{list_of_places, sum-list_of_both, sum-list_of_times, sum-list_of_at_most}

-- What stands at the places of n states sums to the list's sum.
pub sum_of_places : (n : ℕ) (xs : List ℕ) → length xs ≡ n → sum (list_of (λ (i : ℕ). get_or xs i 0) n) ≡ sum xs
sum_of_places n xs e = rw (← e) (ap sum (list_of_places xs))

-- Times one number.
pub sum_of_times : (n : ℕ) (xs : List ℕ) (c : ℕ) → length xs ≡ n → sum (list_of (λ (i : ℕ). get_or xs i 0 * c) n) ≡ sum xs * c
sum_of_times n xs c e = sum-list_of_times (λ (i : ℕ). get_or xs i 0) c n ∙ rw (sum_of_places n xs e)

-- Seats times one number and people times another.
pub sum_of_both : (ps xs : List ℕ) (c d : ℕ) → length xs ≡ length ps
    → sum (list_of (λ (i : ℕ). get_or xs i 0 * c + get_or ps i 0 * d) (length ps)) ≡ sum xs * c + sum ps * d
sum_of_both ps xs c d e =
    sum-list_of_both (λ (i : ℕ). get_or xs i 0 * c) (λ (i : ℕ). get_or ps i 0 * d) (length ps)
    ∙ rw (sum_of_times (length ps) xs c e, sum_of_times (length ps) ps d refl)

-- With another number beside it.
pub sum_beside : (n : ℕ) (xs : List ℕ) (f : ℕ → ℕ) → length xs ≡ n
    → sum (list_of (λ (i : ℕ). get_or xs i 0 + f i) n) ≡ sum xs + sum (list_of f n)
sum_beside n xs f e = sum-list_of_both (λ (i : ℕ). get_or xs i 0) f n ∙ rw (sum_of_places n xs e)

-- So an inequality at each state's place holds of the sums.
pub sums_beside : (n : ℕ) (xs ys : List ℕ) (f g : ℕ → ℕ) → length xs ≡ n → length ys ≡ n
    → ((i : ℕ) → i < n → get_or xs i 0 + f i ≤ get_or ys i 0 + g i) → sum xs + sum (list_of f n) ≤ sum ys + sum (list_of g n)
sums_beside n xs ys f g hx hy each =
    let all = sum-list_of_at_most (λ (i : ℕ). get_or xs i 0 + f i) (λ (i : ℕ). get_or ys i 0 + g i) n each in
    omega (arith, all, sum_beside n xs f hx, sum_beside n ys g hy)

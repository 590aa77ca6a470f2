-- Numbers in base ten, one digit at a time: what `decimal` says of a number below ten and of any other, whatever the fuel, and how many
-- digits there are. The code that writes numbers rests on it, and so does the law that a written number is read back.
-- Assumes nothing.
use Rattle.std.specs.Prelude.{◌≡◌, refl, cond, List, ◌++◌, ℕ, zero, suc, ◌^◌, ◌<◌, ◌≤◌, ◌/◌, ◌%◌, ltb, length}
use Rattle.std.proofs.Common.{ap, arith, ltb-true, ltb-false, lt-ltb, le-ltb, length-append}
use Rattle.apportionment.specs.Text.{decimal, decimal_with, digit}
use Rattle.apportionment.specs.inner.Tests.{either_way}

-- A digit less needs one less of fuel.
tens_fuel : (f n : ℕ) → n ≤ suc f → n / 10 ≤ f
tens_fuel f n enough = omega arith

-- Any fuel that is enough gives the same digits.
decimal_fuel : (f g n : ℕ) → n ≤ f → n ≤ g → decimal_with f n ≡ decimal_with g n
unfolding decimal_with
decimal_fuel zero zero n f-enough g-enough = refl
decimal_fuel zero (suc g) n f-enough g-enough = rw (lt-ltb n 10 (omega arith))
decimal_fuel (suc f) zero n f-enough g-enough = rw (lt-ltb n 10 (omega arith))
decimal_fuel (suc f) (suc g) n f-enough g-enough =
    ap (λ (l : List ℕ). cond (ltb n 10) (digit n) (l ++ digit (n % 10)))
    (decimal_fuel f g (n / 10) (tens_fuel f n f-enough) (tens_fuel g n g-enough))

-- A number below ten is its digit.
pub decimal_one : (n : ℕ) → n < 10 → decimal n ≡ digit n
unfolding decimal decimal_with
decimal_one zero small = refl
decimal_one (suc n) small = rw (lt-ltb (suc n) 10 small)

-- Any other is its tens followed by its last digit.
pub decimal_more : (n : ℕ) → 10 ≤ n → decimal n ≡ decimal (n / 10) ++ digit (n % 10)
unfolding decimal decimal_with
decimal_more zero large = absurd (omega arith)
decimal_more (suc n) large =
    rw (le-ltb (suc n) 10 large)
    (ap (λ (l : List ℕ). l ++ digit (suc n % 10))
    (decimal_fuel n (suc n / 10) (suc n / 10) (tens_fuel n (suc n) (omega arith)) (omega arith)))

-- So what holds of every digit, and of a number's digits with one more after them, holds of every written number of so many digits.
pub decimal_by_digits : (P : ℕ → List ℕ → Type 0) → ((d : ℕ) → d < 10 → P d (digit d))
    → ((n : ℕ) → P (n / 10) (decimal (n / 10)) → P n (decimal (n / 10) ++ digit (n % 10)))
    → (k n : ℕ) → n < 10 ^ suc k → P n (decimal n)
decimal_by_digits P one more zero n bound = rw (decimal_one n (omega arith)) (one n (omega arith))
decimal_by_digits P one more (suc k) n bound =
    either_way (ltb n 10)
    (λ e. rw (decimal_one n (ltb-true n 10 e)) (one n (ltb-true n 10 e)))
    (λ e.
    rw (decimal_more n (ltb-false n 10 e)) (more n (decimal_by_digits P one more k (n / 10) (omega arith))))

-- A number has a digit, and one below 10 ^ (k + 1) has at most k + 1.
pub decimal_length : (k n : ℕ) → n < 10 ^ suc k → length (decimal n) ≤ suc k
decimal_length zero n bound = rw (decimal_one n (omega arith)) (omega arith)
decimal_length (suc k) n bound =
    either_way (ltb n 10)
    (λ e. rw (decimal_one n (ltb-true n 10 e)) (omega arith))
    (λ e.
    rw (decimal_more n (ltb-false n 10 e), length-append) (omega (arith, decimal_length k (n / 10) (omega arith))))

pub decimal_some : (n : ℕ) → 1 ≤ length (decimal n)
decimal_some n =
    either_way (ltb n 10)
    (λ e. rw (decimal_one n (ltb-true n 10 e)) (omega arith))
    (λ e. rw (decimal_more n (ltb-false n 10 e), length-append) (omega arith))

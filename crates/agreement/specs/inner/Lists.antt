-- Tests of the lists that a placing holds: that every number is 0, and that every number is within a limit.
-- Assumes nothing.
use Rattle.std.specs.Prelude.{◌≡◌, refl, Bool, true, false, cond, ◌&&◌, List, [], ◌∷◌, ℕ, zero, suc, eqb, length}
use Rattle.std.specs.Prelude.{replicate, fold}
use Rattle.std.specs.List.{list_all}
use Rattle.std.proofs.Common.{◌∙◌, ap, arith, eqb-true, ne_eqb}
use Rattle.std.proofs.lemmas.Bool.{false≢true, eqb-false}
use Rattle.std.specs.Int.Bits.{bit_or, or_zero_l, or_add_and}
use Rattle.std.proofs.lemmas.Nat.{and_le_r}
use Rattle.apportionment.specs.inner.Tests.{either_way}
use Rattle.apportionment.specs.Refusals.{within}

-- Every number is 0.
unfoldable pub all_zero : List ℕ → Bool
all_zero [] = true
all_zero (x ∷ xs) = cond (eqb x 0) (all_zero xs) false

-- Every number is at least 1 and at most the limit.
unfoldable pub each_within : ℕ → List ℕ → Bool
each_within limit [] = true
each_within limit (x ∷ xs) = cond (within limit x) (each_within limit xs) false

-- ---- the tests, as the code makes them

-- Two numbers joined bit by bit are 0 exactly if both are.
joined_zero : (x y : ℕ) → eqb (bit_or x y) 0 ≡ (eqb x 0 && eqb y 0)
joined_zero x y =
    either_way (eqb x 0)
    (λ none. rw (none, eqb-true x 0 none, or_zero_l y))
    (λ some. rw some (ne_eqb (bit_or x y) 0 (λ e. eqb-false x 0 some (omega (arith, or_add_and x y, and_le_r x y, e)))))

-- Joining all numbers of a list bit by bit tells whether each is 0.
pub joined_zeros : (joined : ℕ) (xs : List ℕ) → eqb (fold bit_or joined xs) 0 ≡ (eqb joined 0 && all_zero xs)
unfolding all_zero
joined_zeros joined [] = either_way (eqb joined 0) (λ none. rw none) (λ some. rw some)
joined_zeros joined (x ∷ xs) =
    joined_zeros (bit_or joined x) xs
    ∙ rw (joined_zero joined x)
    (either_way (eqb joined 0) (λ none. rw none (either_way (eqb x 0) (λ e. rw e) (λ e. rw e))) (λ some. rw some))

-- Trying every number in turn is the definition.
pub each_within_all : (limit : ℕ) (xs : List ℕ) → list_all (within limit) xs ≡ each_within limit xs
unfolding each_within
each_within_all limit [] = refl
each_within_all limit (x ∷ xs) = either_way (within limit x) (λ e. rw e (each_within_all limit xs)) (λ e. rw e)

-- ---- lists of nothing but 0

pub all_zero_replicate : (xs : List ℕ) → all_zero xs ≡ true → xs ≡ replicate (length xs) 0
unfolding all_zero
all_zero_replicate [] e = refl
all_zero_replicate (x ∷ xs) e =
    either_way (eqb x 0)
    (λ none. ap (λ (y : ℕ). y ∷ xs) (eqb-true x 0 none) ∙ ap (λ (l : List ℕ). 0 ∷ l) (all_zero_replicate xs (rw none at e)))
    (λ some. absurd (false≢true (rw some at e)))

pub zeros_pass : (n : ℕ) → all_zero (replicate n 0) ≡ true
unfolding all_zero
zeros_pass zero = refl
zeros_pass (suc n) = zeros_pass n

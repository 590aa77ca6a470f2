-- Laws of one seat more or less at a place, of sums, and of lists set side by side, which the theory of standings cites.
-- Assumes nothing.
use Rattle.std.specs.Prelude.{◌≡◌, refl, ◌≢◌, ◌⊎◌, List, [], ◌∷◌, ℕ, zero, suc, ◌+◌, ◌-◌, ◌<◌, ◌≤◌, length, get_or, set}
use Rattle.std.proofs.Common.{sym, ap, ◌∙◌, inl, inr, ⊎_elim, suc-le-suc, suc-ne-zero, zero-lt-suc, le_of_suc-le-suc, not-suc-le-zero}
use Rattle.std.proofs.Common.{eq-or-lt_of_le, arith, length-set, get_or-set_same, get_or-set_other}
use Rattle.std.proofs.Math.Nat.{suc_inj}
use Rattle.std.proofs.Math.Decide.{dec_lt, ℕ_discrete}
use Rattle.apportionment.specs.Lists.{sum, list_of}
use Rattle.apportionment.specs.inner.Lists.{length-list_of, get_d_list_of}
use Rattle.apportionment.specs.Divisor.{one_more}
use Rattle.claims.specs.inner.Order.{one_less}

-- ---- one seat more, one seat less

pub length-one_more : (xs : List ℕ) (i : ℕ) → length (one_more xs i) ≡ length xs
unfolding one_more
length-one_more xs i = length-set xs i (get_or xs i 0 + 1)

pub length-one_less : (xs : List ℕ) (i : ℕ) → length (one_less xs i) ≡ length xs
unfolding one_less
length-one_less xs i = length-set xs i (get_or xs i 0 - 1)

pub get_d_one_more_same : (xs : List ℕ) (i : ℕ) → i < length xs → get_or (one_more xs i) i 0 ≡ suc (get_or xs i 0)
unfolding one_more
get_d_one_more_same xs i h = get_or-set_same xs i (get_or xs i 0 + 1) 0 h ∙ one_up (get_or xs i 0)
  where
    one_up : (x : ℕ) → x + 1 ≡ suc x
    one_up x = omega arith

pub get_d_one_more_other : (xs : List ℕ) (i j : ℕ) → j ≢ i → get_or (one_more xs i) j 0 ≡ get_or xs j 0
unfolding one_more
get_d_one_more_other xs i j h = get_or-set_other xs i j (get_or xs i 0 + 1) 0 h

pub get_d_one_less_same : (xs : List ℕ) (i : ℕ) → i < length xs → get_or (one_less xs i) i 0 ≡ get_or xs i 0 - 1
unfolding one_less
get_d_one_less_same xs i h = get_or-set_same xs i (get_or xs i 0 - 1) 0 h

pub get_d_one_less_other : (xs : List ℕ) (i j : ℕ) → j ≢ i → get_or (one_less xs i) j 0 ≡ get_or xs j 0
unfolding one_less
get_d_one_less_other xs i j h = get_or-set_other xs i j (get_or xs i 0 - 1) 0 h

-- What stands at place j, when place i has one more.
pub at_one_more : (xs : List ℕ) (i j : ℕ) → i < length xs
    → ((j ≡ i) × (get_or (one_more xs i) j 0 ≡ suc (get_or xs j 0))) ⊎ ((j ≢ i) × (get_or (one_more xs i) j 0 ≡ get_or xs j 0))
at_one_more xs i j h = by_place (ℕ_discrete j i)
  where
    by_place : Dec (j ≡ i)
        → ((j ≡ i) × (get_or (one_more xs i) j 0 ≡ suc (get_or xs j 0))) ⊎ ((j ≢ i) × (get_or (one_more xs i) j 0 ≡ get_or xs j 0))
    by_place (yes e) = inl (e, rw e (get_d_one_more_same xs i h))
    by_place (no other) = inr (other, get_d_one_more_other xs i j other)

-- What stands at place j, when place i has one less.
pub at_one_less : (xs : List ℕ) (i j : ℕ) → i < length xs
    → ((j ≡ i) × (get_or (one_less xs i) j 0 ≡ get_or xs j 0 - 1)) ⊎ ((j ≢ i) × (get_or (one_less xs i) j 0 ≡ get_or xs j 0))
at_one_less xs i j h = by_place (ℕ_discrete j i)
  where
    by_place : Dec (j ≡ i)
        → ((j ≡ i) × (get_or (one_less xs i) j 0 ≡ get_or xs j 0 - 1)) ⊎ ((j ≢ i) × (get_or (one_less xs i) j 0 ≡ get_or xs j 0))
    by_place (yes e) = inl (e, rw e (get_d_one_less_same xs i h))
    by_place (no other) = inr (other, get_d_one_less_other xs i j other)

-- A store changes the sum by what it changes at its place.
pub sum-set : (xs : List ℕ) (i v : ℕ) → i < length xs → sum (set xs i v) + get_or xs i 0 ≡ sum xs + v
unfolding sum
sum-set [] i v h = absurd (not-suc-le-zero h)
sum-set (x ∷ xs) zero v h = omega arith
sum-set (x ∷ xs) (suc i) v h = let rest = sum-set xs i v (le_of_suc-le-suc h) in omega (arith, rest)

pub sum-one_more : (xs : List ℕ) (i : ℕ) → i < length xs → sum (one_more xs i) ≡ suc (sum xs)
unfolding one_more
sum-one_more xs i h = omega (arith, sum-set xs i (get_or xs i 0 + 1) h)

pub sum-one_less : (xs : List ℕ) (i : ℕ) → i < length xs → 0 < get_or xs i 0 → suc (sum (one_less xs i)) ≡ sum xs
unfolding one_less
sum-one_less xs i h above = omega (arith, sum-set xs i (get_or xs i 0 - 1) h)

-- ---- lists set side by side

-- A list nowhere above another has no larger sum.
pub sum_le : (xs ys : List ℕ) → length xs ≡ length ys
    → ((i : ℕ) → i < length xs → get_or xs i 0 ≤ get_or ys i 0) → sum xs ≤ sum ys
unfolding sum
sum_le [] [] e h = omega arith
sum_le [] (y ∷ ys) e h = omega arith
sum_le (x ∷ xs) [] e h = absurd (suc-ne-zero (length xs) e)
sum_le (x ∷ xs) (y ∷ ys) e h =
    let rest = sum_le xs ys (suc_inj e) (λ i b. h (suc i) (suc-le-suc b)) in
    omega (arith, rest, h 0 (zero-lt-suc (length xs)))

-- Lists of equal sums, the one nowhere above the other, are the same.
pub le_same_sum : (xs ys : List ℕ) → length xs ≡ length ys
    → ((i : ℕ) → i < length xs → get_or xs i 0 ≤ get_or ys i 0) → sum xs ≡ sum ys → xs ≡ ys
unfolding sum
le_same_sum [] [] e h s = refl
le_same_sum [] (y ∷ ys) e h s = absurd (suc-ne-zero (length ys) (sym e))
le_same_sum (x ∷ xs) [] e h s = absurd (suc-ne-zero (length xs) e)
le_same_sum (x ∷ xs) (y ∷ ys) e h s = λ t. first t ∷ le_same_sum xs ys (suc_inj e) later (omega (arith, sums, first)) t
  where
    later : (i : ℕ) → i < length xs → get_or xs i 0 ≤ get_or ys i 0
    later i b = h (suc i) (suc-le-suc b)

    sums : x + sum xs ≡ y + sum ys
    sums = s

    first : x ≡ y
    first = omega (arith, sums, sum_le xs ys (suc_inj e) later, h 0 (zero-lt-suc (length xs)))

-- f is nowhere above g on the places below n, or it is somewhere.
pub nowhere_or_somewhere_above : (f g : ℕ → ℕ) (n : ℕ)
    → ((i : ℕ) → i < n → f i ≤ g i) ⊎ ((i : ℕ) × (i < n) × (g i < f i))
nowhere_or_somewhere_above f g zero = inl (λ i h. absurd (not-suc-le-zero h))
nowhere_or_somewhere_above f g (suc n) = join (nowhere_or_somewhere_above f g n) (dec_lt (g n) (f n))
  where
    Answer : ℕ → Type 0
    Answer k = ((i : ℕ) → i < k → f i ≤ g i) ⊎ ((i : ℕ) × (i < k) × (g i < f i))

    join : Answer n → Dec (g n < f n) → Answer (suc n)
    join rest (yes above) = inr (n, omega arith, above)
    join (inr (i, below, above)) (no h) = inr (i, omega arith, above)
    join (inl nowhere) (no h) = inl (λ i below. ⊎_elim
        (λ (e : i ≡ n). omega (arith, h, ap f e, ap g e)) (nowhere i) (eq-or-lt_of_le (le_of_suc-le-suc below)))

-- ---- a list beside a function

-- A larger sum than that of f's values is above f somewhere.
pub somewhere_above : (f : ℕ → ℕ) (n : ℕ) (xs : List ℕ) → length xs ≡ n → sum (list_of f n) < sum xs
    → (i : ℕ) × (i < n) × (f i < get_or xs i 0)
somewhere_above f n xs e h = found (nowhere_or_somewhere_above (λ i. get_or xs i 0) f n)
  where
    same_length : length xs ≡ length (list_of f n)
    same_length = e ∙ sym (length-list_of f n)

    found : ((i : ℕ) → i < n → get_or xs i 0 ≤ f i) ⊎ ((i : ℕ) × (i < n) × (f i < get_or xs i 0))
        → (i : ℕ) × (i < n) × (f i < get_or xs i 0)
    found (inr place) = place
    found (inl nowhere) =
        let below : (i : ℕ) → i < length xs → get_or xs i 0 ≤ get_or (list_of f n) i 0 =
        λ i b. rw (get_d_list_of f n i (rw e at b)) (nowhere i (rw e at b)) in
        absurd (omega (arith, h, sum_le xs (list_of f n) same_length below))

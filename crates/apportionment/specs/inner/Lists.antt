-- Laws of what Lists.antt defines, which proofs cite.
-- Assumes nothing.
use Rattle.std.specs.Prelude.{◌≡◌, refl, Bool, true, false, cond, List, [], ◌∷◌, map, ℕ, zero, suc, ◌+◌, ◌*◌, ◌≤◌, ◌<◌, leb, eqb, length}
use Rattle.std.specs.Prelude.{get_or, take, drop, replicate}
use Rattle.std.proofs.Common.{ap, sym, ◌∙◌, arith, add-mul, suc-mul, zero-mul, mul-zero, mul-one, add-one, drop_of_length-le, drop-cons}
use Rattle.std.proofs.Common.{ext_get_or, eq-eqb, ne_eqb, eqb-true, leb-true, leb-false}
use Rattle.std.proofs.lemmas.Bool.{false≢true, eqb-false}
use Rattle.std.proofs.lemmas.List.{length-map}
use Rattle.apportionment.specs.Lists.{sum, same_list, count_below, list_of}
use Rattle.apportionment.specs.inner.Tests.{cond_both, either_way}

-- ---- sums, and lists that are the same

-- No number is above the sum.
pub entry_at_most_sum : (xs : List ℕ) (i : ℕ) → get_or xs i 0 ≤ sum xs
unfolding sum
entry_at_most_sum [] i = omega arith
entry_at_most_sum (x ∷ xs) zero = omega arith
entry_at_most_sum (x ∷ xs) (suc i) = omega (arith, entry_at_most_sum xs i)

-- A list of zeros.
pub sum_zeros : (n : ℕ) → sum (replicate n 0) ≡ 0
unfolding sum
sum_zeros zero = refl
sum_zeros (suc n) = omega (arith, sum_zeros n)

pub sum_first_zeros : (k n : ℕ) → sum (take k (replicate n 0)) ≡ 0
unfolding sum
sum_first_zeros zero n = refl
sum_first_zeros (suc k) zero = refl
sum_first_zeros (suc k) (suc n) = omega (arith, sum_first_zeros k n)

pub zeros_at : (n i : ℕ) → ◌≡◌ {A = ℕ} (get_or (replicate n 0) i 0) 0
zeros_at zero i = refl
zeros_at (suc n) zero = refl
zeros_at (suc n) (suc i) = zeros_at n i

pub same_list_self : (xs : List ℕ) → same_list xs xs ≡ true
unfolding same_list
same_list_self [] = refl
same_list_self (x ∷ xs) = rw (eq-eqb x x refl) (same_list_self xs)

pub same_list_equal : (xs ys : List ℕ) → same_list xs ys ≡ true → xs ≡ ys
unfolding same_list
same_list_equal [] [] e = refl
same_list_equal [] (y ∷ ys) e = absurd (false≢true e)
same_list_equal (x ∷ xs) [] e = absurd (false≢true e)
same_list_equal (x ∷ xs) (y ∷ ys) e =
    either_way (eqb x y)
    (λ same. rw (eqb-true x y same, same_list_equal xs ys (rw same at e)))
    (λ differ. absurd (false≢true (rw differ at e)))

-- ---- two lists compared place by place

pub same_next : (xs ys : List ℕ) (i : ℕ) → i < length xs → i < length ys → get_or xs i 0 ≡ get_or ys i 0
    → same_list (drop i xs) (drop i ys) ≡ same_list (drop (i + 1) xs) (drop (i + 1) ys)
unfolding same_list
same_next xs ys i h k e = rw (drop-cons xs i 0 h, drop-cons ys i 0 k, add-one i, eq-eqb _ _ e)

pub differ_found : (xs ys : List ℕ) (i : ℕ) → i < length xs → i < length ys → (get_or xs i 0 ≡ get_or ys i 0 → ⊥)
    → same_list (drop i xs) (drop i ys) ≡ false
unfolding same_list
differ_found xs ys i h k apart = rw (drop-cons xs i 0 h, drop-cons ys i 0 k, ne_eqb _ _ apart)

pub same_to_the_end : (xs ys : List ℕ) (i : ℕ) → length xs ≤ i → length ys ≤ i → same_list (drop i xs) (drop i ys) ≡ true
unfolding same_list
same_to_the_end xs ys i h k = rw (drop_of_length-le xs h, drop_of_length-le ys k)

-- ---- lists made of a function

pub length-list_of : (f : ℕ → ℕ) (n : ℕ) → length (list_of f n) ≡ n
unfolding list_of
length-list_of f zero = refl
length-list_of f (suc n) = ap suc (length-list_of (λ k. f (suc k)) n)

pub get_d_list_of : (f : ℕ → ℕ) (n i : ℕ) → i < n → get_or (list_of f n) i 0 ≡ f i
unfolding list_of
get_d_list_of f zero i h = absurd (omega arith)
get_d_list_of f (suc n) zero h = refl
get_d_list_of f (suc n) (suc i) h = get_d_list_of (λ k. f (suc k)) n i (omega arith)

-- A list with the right number at each place is the list of these numbers.
pub is_list_of : (xs : List ℕ) (f : ℕ → ℕ) (n : ℕ) → length xs ≡ n → ((i : ℕ) → i < n → get_or xs i 0 ≡ f i) → xs ≡ list_of f n
is_list_of xs f n long right =
    ext_get_or 0 xs (list_of f n) (long ∙ sym (length-list_of f n)) (λ i h. right i (omega arith) ∙ sym (get_d_list_of f n i (omega arith)))

pub list_of_agrees : (f g : ℕ → ℕ) (n : ℕ) → ((i : ℕ) → i < n → f i ≡ g i) → list_of f n ≡ list_of g n
list_of_agrees f g n h = is_list_of (list_of f n) g n (length-list_of f n) (λ (i : ℕ) (l : i < n). get_d_list_of f n i l ∙ h i l)

-- A list is what stands at its places.
pub list_of_places : (xs : List ℕ) → list_of (λ (i : ℕ). get_or xs i 0) (length xs) ≡ xs
list_of_places xs = sym (is_list_of xs (λ (i : ℕ). get_or xs i 0) (length xs) refl (λ i h. refl))

-- ---- lists made of another list

pub get_d_map : (f : ℕ → ℕ) (xs : List ℕ) (i : ℕ) → i < length xs → get_or (map f xs) i 0 ≡ f (get_or xs i 0)
get_d_map f [] i h = absurd (omega arith)
get_d_map f (x ∷ xs) zero h = refl
get_d_map f (x ∷ xs) (suc i) h = get_d_map f xs i (omega arith)

pub map_is_list_of : (f : ℕ → ℕ) (xs : List ℕ) → map f xs ≡ list_of (λ (i : ℕ). f (get_or xs i 0)) (length xs)
map_is_list_of f xs = is_list_of (map f xs) (λ (i : ℕ). f (get_or xs i 0)) (length xs) (length-map xs f) (get_d_map f xs)

-- What bounds f's values on a list bounds what stands at any place of its image, and 0 past the end.
pub map_bounded : (f : ℕ → ℕ) (xs : List ℕ) (top : ℕ) → ((i : ℕ) → f (get_or xs i 0) ≤ top) → (i : ℕ) → get_or (map f xs) i 0 ≤ top
map_bounded f [] top h i = omega arith
map_bounded f (x ∷ xs) top h zero = h zero
map_bounded f (x ∷ xs) top h (suc i) = map_bounded f xs top (λ j. h (suc j)) i

-- ---- their sums

pub sum-list_of_none : (f : ℕ → ℕ) → sum (list_of f 0) ≡ 0
unfolding sum list_of
sum-list_of_none f = refl

sum-list_of_suc : (f : ℕ → ℕ) (n : ℕ) → sum (list_of f (suc n)) ≡ sum (list_of f n) + f n
unfolding sum list_of
sum-list_of_suc f zero = omega arith
sum-list_of_suc f (suc n) = omega (arith, sum-list_of_suc (λ (k : ℕ). f (suc k)) n)

-- One place more adds its number.
pub sum-list_of_more : (f : ℕ → ℕ) (n : ℕ) → sum (list_of f (n + 1)) ≡ sum (list_of f n) + f n
sum-list_of_more f n = rw add-one (sum-list_of_suc f n)

-- The first places sum to no more than the whole list.
pub sum-list_of_places : (xs : List ℕ) (k : ℕ) → sum (list_of (λ (i : ℕ). get_or xs i 0) k) ≤ sum xs
unfolding sum list_of
sum-list_of_places xs zero = omega arith
sum-list_of_places [] (suc k) = omega (arith, sum-list_of_places [] k)
sum-list_of_places (x ∷ xs) (suc k) = omega (arith, sum-list_of_places xs k)

-- An inequality of multiples at every place holds of the sums.
pub sum-list_of_scaled : (f g : ℕ → ℕ) (a b : ℕ) → ((i : ℕ) → f i * a ≤ g i * b)
    → (k : ℕ) → sum (list_of f k) * a ≤ sum (list_of g k) * b
unfolding sum list_of
sum-list_of_scaled f g a b h zero = omega arith
sum-list_of_scaled f g a b h (suc k) =
    let rest = sum-list_of_scaled (λ (i : ℕ). f (suc i)) (λ (i : ℕ). g (suc i)) a b (λ (i : ℕ). h (suc i)) k in
    simp add-mul (omega (arith, h 0))

pub sum-list_of_both : (f g : ℕ → ℕ) (n : ℕ) → sum (list_of (λ (i : ℕ). f i + g i) n) ≡ sum (list_of f n) + sum (list_of g n)
unfolding sum list_of
sum-list_of_both f g zero = refl
sum-list_of_both f g (suc n) = omega (arith, sum-list_of_both (λ (i : ℕ). f (suc i)) (λ (i : ℕ). g (suc i)) n)

pub sum-list_of_times : (f : ℕ → ℕ) (c n : ℕ) → sum (list_of (λ (i : ℕ). f i * c) n) ≡ sum (list_of f n) * c
unfolding sum list_of
sum-list_of_times f c zero = sym (zero-mul c)
sum-list_of_times f c (suc n) = simp add-mul (omega (arith, sum-list_of_times (λ (i : ℕ). f (suc i)) c n))

-- Numbers that are at most others, place by place, sum to no more; and to less where one of them is less.
pub sum-list_of_at_most : (f g : ℕ → ℕ) (n : ℕ) → ((i : ℕ) → i < n → f i ≤ g i) → sum (list_of f n) ≤ sum (list_of g n)
sum-list_of_at_most f g zero h = rw (sum-list_of_none f) (omega arith)
sum-list_of_at_most f g (suc n) h =
    let rest = sum-list_of_at_most f g n (λ (i : ℕ) (l : i < n). h i (omega arith)) in
    omega (arith, sum-list_of_suc f n, sum-list_of_suc g n, h n (omega arith))

pub sum-list_of_less : (f g : ℕ → ℕ) (n : ℕ) → ((i : ℕ) → i < n → f i ≤ g i) → (j : ℕ) → j < n → f j < g j
    → sum (list_of f n) < sum (list_of g n)
sum-list_of_less f g zero h j within less = absurd (omega arith)
sum-list_of_less f g (suc n) h j within less =
    let below : (i : ℕ) → i < n → f i ≤ g i = λ (i : ℕ) (l : i < n). h i (omega arith) in
    either_way (eqb j n)
    (λ e.
    let here : f n < g n = rw (eqb-true j n e) at less in
    omega (arith, sum-list_of_suc f n, sum-list_of_suc g n, sum-list_of_at_most f g n below))
    (λ e.
    let rest = sum-list_of_less f g n below j (omega (arith, eqb-false j n e)) less in
    omega (arith, sum-list_of_suc f n, sum-list_of_suc g n, h n (omega arith)))

-- The same number at every place.
pub sum-list_of_constant : (c n : ℕ) → sum (list_of (λ _. c) n) ≡ n * c
unfolding sum list_of
sum-list_of_constant c zero = sym (zero-mul c)
sum-list_of_constant c (suc n) = let rest = sum-list_of_constant c n in omega (arith, rest, suc-mul n c)

pub sum-list_of_zero : (n : ℕ) → sum (list_of (λ _. 0) n) ≡ 0
sum-list_of_zero n = sum-list_of_constant 0 n ∙ mul-zero n

pub sum-list_of_one : (n : ℕ) → sum (list_of (λ _. 1) n) ≡ n
sum-list_of_one n = sum-list_of_constant 1 n ∙ mul-one n

-- ---- counts

pub count_none : (test : ℕ → Bool) → count_below test 0 ≡ 0
unfolding count_below
count_none test = refl

pub count_one_more : (test : ℕ → Bool) (k : ℕ) → count_below test (k + 1) ≡ cond (test k) 1 0 + count_below test k
unfolding count_below
count_one_more test k = rw add-one

pub at_most_one : (t : Bool) → cond t 1 0 ≤ 1
at_most_one t = cond_both (λ (x : ℕ). x ≤ 1) t 1 0 (λ _. omega arith) (λ _. omega arith)

pub count_within : (test : ℕ → Bool) (k : ℕ) → count_below test k ≤ k
unfolding count_below
count_within test zero = omega arith
count_within test (suc k) = omega (arith, count_within test k, at_most_one (test k))

pub count_agrees : (f g : ℕ → Bool) (n : ℕ) → ((k : ℕ) → k < n → f k ≡ g k) → count_below f n ≡ count_below g n
unfolding count_below
count_agrees f g zero h = refl
count_agrees f g (suc n) h = rw (h n (omega arith), count_agrees f g n (λ k l. h k (omega arith)))

-- A test that is one test before place i and another from it on is counted in two parts.
pub count_splits : (f early late : ℕ → Bool) (i : ℕ) → ((k : ℕ) → k < i → f k ≡ early k) → ((k : ℕ) → i ≤ k → f k ≡ late k)
    → (n : ℕ) → i ≤ n → count_below f n + count_below late i ≡ count_below early i + count_below late n
unfolding count_below
count_splits f early late zero before after zero h = refl
count_splits f early late (suc i) before after zero h = absurd (omega arith)
count_splits f early late i before after (suc n) h =
    either_way (leb i n)
    (λ e. rw (after n (leb-true i n e)) (omega (arith, count_splits f early late i before after n (leb-true i n e))))
    (λ e.
    let end : i ≡ suc n = omega (arith, leb-false i n e) in
    rw end (omega (arith, count_agrees f early (suc n) (λ (k : ℕ) (l : k < suc n). before k (omega arith)))))

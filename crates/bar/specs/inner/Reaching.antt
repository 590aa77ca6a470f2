-- Counts of the states that reach a precedence, and the bar: a precedence with no more states above it than seats are left, and at least
-- as many at it or above. There always is one, which `bar_of` finds.
-- Assumes nothing.
use Rattle.std.specs.Prelude.{◌≡◌, refl, Bool, true, false, cond, count_by, ◌⊎◌, List, [], ◌∷◌, ℕ, zero, suc, ◌+◌, ◌-◌, ◌≤◌, ◌<◌, leb}
use Rattle.std.specs.Prelude.{length, get_or}
use Rattle.std.proofs.Common.{◌∙◌, inl, inr, arith, add-one, zero-add, suc-add, leb-true, leb-false, le-leb}
use Rattle.std.proofs.lemmas.Bool.{lt-leb}
use Rattle.std.proofs.lemmas.List.Recursion.{is_count_by}
use Rattle.apportionment.specs.Lists.{sum, count_below}
use Rattle.apportionment.specs.inner.Lists.{entry_at_most_sum, count_none, count_one_more}
use Rattle.apportionment.specs.inner.Tests.{either_way}

-- ---- counts of those who reach a precedence

-- Place j has a precedence of `least` or more.
unfoldable pub reaches : (xs : List ℕ) (least j : ℕ) → Bool
reaches xs least j = leb least (get_or xs j 0)

-- One place more is counted if it reaches.
pub count_reached : (xs : List ℕ) (least j : ℕ) → least ≤ get_or xs j 0
    → count_below (reaches xs least) (j + 1) ≡ 1 + count_below (reaches xs least) j
unfolding reaches
count_reached xs least j h = count_one_more (reaches xs least) j ∙ simp (le-leb least (get_or xs j 0) h)

pub count_passed_by : (xs : List ℕ) (least j : ℕ) → get_or xs j 0 < least
    → count_below (reaches xs least) (j + 1) ≡ count_below (reaches xs least) j
unfolding reaches
count_passed_by xs least j h = count_one_more (reaches xs least) j ∙ simp (lt-leb least (get_or xs j 0) h, zero-add)

-- How many of the first k states reach a precedence.
abbrev pub reaching : (xs : List ℕ) (least k : ℕ) → ℕ
reaching xs least k = count_below (reaches xs least) k

-- All places counted are the precedences that pass, taken from the front.
count_from_front : (test : ℕ → Bool) (n : ℕ) → count_below test (suc n) ≡ cond (test 0) 1 0 + count_below (λ k. test (suc k)) n
unfolding count_below
count_from_front test zero = refl
count_from_front test (suc n) = omega (arith, count_from_front test n)

cond_plus : (t : Bool) (n : ℕ) → cond t 1 0 + n ≡ cond t (1 + n) n
cond_plus true n = refl
cond_plus false n = omega arith

-- So they are as many as the list has of `least` or more.
pub all_reaching : (xs : List ℕ) (least : ℕ) → reaching xs least (length xs) ≡ count_by (λ x. leb least x) xs
unfolding reaches
all_reaching xs least = is_count_by (λ ys. reaching ys least (length ys)) (λ x. leb least x) (count_none (reaches [] least)) step xs
  where
    step : (x : ℕ) (ys : List ℕ) → reaching (x ∷ ys) least (length (x ∷ ys))
        ≡ cond (leb least x) (1 + reaching ys least (length ys)) (reaching ys least (length ys))
    step x ys =
        count_from_front (reaches (x ∷ ys) least) (length ys)
        ∙ cond_plus (leb least x) (reaching ys least (length ys))

-- One place more is counted, or not.
abbrev pub Counted : (xs : List ℕ) (least k : ℕ) → Type 0
Counted xs least k =
    ((least ≤ get_or xs k 0) × (reaching xs least (k + 1) ≡ 1 + reaching xs least k))
    ⊎ ((get_or xs k 0 < least) × (reaching xs least (k + 1) ≡ reaching xs least k))

pub counted : (xs : List ℕ) (least k : ℕ) → Counted xs least k
counted xs least k =
    either_way (leb least (get_or xs k 0))
    (λ e. inl (leb-true least (get_or xs k 0) e, count_reached xs least k (leb-true least (get_or xs k 0) e)))
    (λ e. inr (leb-false least (get_or xs k 0) e, count_passed_by xs least k (leb-false least (get_or xs k 0) e)))

-- From place i on, a lower precedence is reached at least as often as a higher one.
falls_from : (xs : List ℕ) (low high i : ℕ) → low ≤ high → (d : ℕ)
    → reaching xs high (d + i) + reaching xs low i ≤ reaching xs low (d + i) + reaching xs high i
falls_from xs low high i h zero = rw zero-add (omega arith)
falls_from xs low high i h (suc d) =
    rw (suc-add, ← (add-one (d + i))) (by_place (falls_from xs low high i h d) (counted xs low (d + i)) (counted xs high (d + i)))
  where
    by_place : reaching xs high (d + i) + reaching xs low i ≤ reaching xs low (d + i) + reaching xs high i
        → Counted xs low (d + i)
        → Counted xs high (d + i)
        → reaching xs high (d + i + 1) + reaching xs low i ≤ reaching xs low (d + i + 1) + reaching xs high i
    by_place ih (inl l) (inl r) = omega arith
    by_place ih (inl l) (inr r) = omega arith
    by_place ih (inr l) (inl r) = omega arith
    by_place ih (inr l) (inr r) = omega arith

pub falls_between : (xs : List ℕ) (low high i n : ℕ) → low ≤ high → i ≤ n
    → reaching xs high n + reaching xs low i ≤ reaching xs low n + reaching xs high i
falls_between xs low high i n h l = let all : n - i + i ≡ n = omega arith in rw all at (falls_from xs low high i h (n - i))

pub falls : (xs : List ℕ) (low high k : ℕ) → low ≤ high → reaching xs high k ≤ reaching xs low k
falls xs low high k h =
    omega (arith, falls_between xs low high 0 k h (omega arith), count_none (reaches xs low), count_none (reaches xs high))

-- Where every state is at `low` or above, all are counted.
pub all_reach_lem : (xs : List ℕ) (low : ℕ) → ((i : ℕ) → i < length xs → low ≤ get_or xs i 0)
    → (k : ℕ) → k ≤ length xs → reaching xs low k ≡ k
all_reach_lem xs low h zero l = count_none (reaches xs low)
all_reach_lem xs low h (suc k) l =
    rw (← (add-one k)) (omega (arith, count_reached xs low k (h k (omega arith)), all_reach_lem xs low h k (omega arith)))

-- Where no state is above `top`, none is counted above it.
pub none_above : (xs : List ℕ) (top : ℕ) → ((i : ℕ) → i < length xs → get_or xs i 0 ≤ top)
    → (k : ℕ) → k ≤ length xs → reaching xs (top + 1) k ≡ 0
none_above xs top h zero l = count_none (reaches xs (top + 1))
none_above xs top h (suc k) l =
    let low : get_or xs k 0 < top + 1 = omega (arith, h k (omega arith)) in
    rw (← (add-one k)) (omega (arith, count_passed_by xs (top + 1) k low, none_above xs top h k (omega arith)))

-- ---- the bar

-- Above the bar there are no more states than seats left; at it or above, at least as many.
pub record Bar (xs : List ℕ) (left bar : ℕ) : Type 0 where
  pub above : reaching xs (bar + 1) (length xs) ≤ left
  pub enough : left ≤ reaching xs bar (length xs)

-- A precedence with just as many states above it as seats are left is a bar.
pub just_as_many : (xs : List ℕ) (left bar : ℕ) → reaching xs (bar + 1) (length xs) ≡ left → Bar xs left bar
just_as_many xs left bar just =
    record { above = omega arith; enough = omega (arith, falls xs bar (bar + 1) (length xs) (omega arith)) }

-- Going down from where nobody is, there is a bar.
bar_below : (xs : List ℕ) (left : ℕ) → left ≤ length xs
    → (top : ℕ) → reaching xs (top + 1) (length xs) ≤ left → (bar : ℕ) × Bar xs left bar
bar_below xs left few zero h =
    let all = all_reach_lem xs 0 (λ (i : ℕ) (l : i < length xs). omega arith) (length xs) (omega arith) in
    (0, record { above = h; enough = omega (arith, all) })
bar_below xs left few (suc top) h =
    let above = reaching xs (top + 1) (length xs) in
    either_way (leb above left)
    (λ e. bar_below xs left few top (leb-true above left e))
    (λ e. (suc top, record { above = h; enough = rw (← (add-one top)) (omega (arith, leb-false above left e)) }))

pub bar_exists : (xs : List ℕ) (left : ℕ) → left ≤ length xs → (bar : ℕ) × Bar xs left bar
bar_exists xs left few =
    let none = none_above xs (sum xs) (λ (i : ℕ) (h : i < length xs). entry_at_most_sum xs i) (length xs) (omega arith) in
    bar_below xs left few (sum xs) (omega arith)

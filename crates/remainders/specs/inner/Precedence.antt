-- The precedence of a state is the number by which the seats that are left are served, the larger first; equal ones go in register order.
-- What the method says of the order of states is told once, by `precedence_decides`: another order is another precedence.
-- Assumes nothing.
use Rattle.std.specs.Prelude.{◌≡◌, refl, Bool, true, false, cond, List, ℕ, suc, ◌+◌, ◌*◌, ◌/◌, ◌%◌, ◌≤◌, ◌<◌, ltb, leb, length, get_or}
use Rattle.std.proofs.Common.{sym, arith, le_refl, suc-mul, mul-le-mul_right, Fits, ltb-true, ltb-false, lt-ltb, le-ltb, le-leb}
use Rattle.std.specs.Int.{w64}
use Rattle.std.proofs.lemmas.Bool.{lt-leb}
use Rattle.apportionment.specs.Limits.{sum_limit}
use Rattle.apportionment.specs.Lists.{sum, count_below, list_of}
use Rattle.apportionment.specs.Remainders.{remainder, served_before, rank}
use Rattle.apportionment.specs.inner.Tests.{either_way}
use Rattle.apportionment.specs.inner.Problem.{States, Problem, sum_above_zero, entry_at_most_total}
use Rattle.apportionment.specs.inner.MachineWords.{product_fits}
use Rattle.apportionment.specs.inner.Lists.{length-list_of, get_d_list_of, count_agrees, count_splits}
use Rattle.bar.specs.inner.Reaching.{reaches}
use Rattle.apportionment.specs.inner.WholeParts.{share_fits}

-- What a remainder counts in a precedence: more than any population.
abbrev pub remainder_weight : ℕ
remainder_weight = sum_limit + 1

-- The precedence of a state of population p: its remainder, and among equal remainders its population.
unfoldable pub precedence_of : (p P H : ℕ) → ℕ
precedence_of p P H = p * H % P * remainder_weight + p

-- A state's share of the house as it is worked out, with its whole part: the numbers from which its precedence is made.
pub record Share (p whole P H : ℕ) : Type 0 where
  pub fits : Fits w64 (p * H)
  pub whole_is : whole ≡ p * H / P
  pub someone : 0 < P
  pub people : p ≤ P
  pub sum_within : P ≤ sum_limit

pub state_share : {ps : List ℕ} {P H : ℕ} → Problem ps P H → (i : ℕ) → Share (get_or ps i 0) (get_or ps i 0 * H / P) P H
state_share ok i = record {
  fits = share_fits ok i;
  whole_is = refl;
  someone = sum_above_zero ok.states;
  people = entry_at_most_total ok.states i;
  sum_within = ok.states.sum_within;
}

-- A number up to the largest sum has room for its weight, and for another such number beside it.
pub weighted_fits : {x : ℕ} → x ≤ sum_limit → Fits w64 (x * remainder_weight)
weighted_fits within = product_fits sum_limit remainder_weight within (le_refl remainder_weight) tt

pub weighted_leaves_room : {x y : ℕ} → x ≤ sum_limit → y ≤ sum_limit → Fits w64 (x * remainder_weight + y)
weighted_leaves_room within beside = record { fits = omega (arith, mul-le-mul_right remainder_weight within, beside) }

-- The precedences of all states.
abbrev pub precedence_at : (ps : List ℕ) (H i : ℕ) → ℕ
precedence_at ps H i = precedence_of (get_or ps i 0) (sum ps) H

abbrev pub precedences_of : (ps : List ℕ) (H : ℕ) → List ℕ
precedences_of ps H = list_of (precedence_at ps H) (length ps)

-- By the precedences xs, state j is served before state i: its own is higher, or as high and it is earlier in register order.
unfoldable pub precedes : (xs : List ℕ) (i j : ℕ) → Bool
precedes xs i j =
    cond (ltb (get_or xs i 0) (get_or xs j 0)) true
    (cond (ltb (get_or xs j 0) (get_or xs i 0)) false (ltb j i))

-- How many are served before state i.
unfoldable pub rank_in : (xs : List ℕ) (i : ℕ) → ℕ
rank_in xs i = count_below (precedes xs i) (length xs)

-- The seat beyond its whole part that state i has if `left` seats are left.
unfoldable pub extra_in : (xs : List ℕ) (left i : ℕ) → ℕ
extra_in xs left i = cond (ltb (rank_in xs i) left) 1 0

-- The seats once the seats that are left are given too.
abbrev pub with_extra_at : (xs : List ℕ) (left : ℕ) (seats : List ℕ) (i : ℕ) → ℕ
with_extra_at xs left seats i = get_or seats i 0 + extra_in xs left i

abbrev pub with_extra : (xs : List ℕ) (left : ℕ) (seats : List ℕ) → List ℕ
with_extra xs left seats = list_of (with_extra_at xs left seats) (length seats)

-- ---- the method's order is that of precedences

-- Of two numbers made of a first part, weighted, and a second one below the weight, the first parts decide and, where these are equal, the
-- second.
weighted_test : (w r s p q : ℕ) → p < w → q < w
    → ltb (r * w + p) (s * w + q) ≡ cond (ltb r s) true (cond (ltb s r) false (ltb p q))
weighted_test w r s p q hp hq =
    either_way (ltb r s)
    (λ less.
    let one_more : suc r * w ≤ s * w = mul-le-mul_right w (ltb-true r s less) in
    rw less (lt-ltb (r * w + p) (s * w + q) (omega (arith, one_more, suc-mul r w))))
    (λ not_less. either_way (ltb s r)
    (λ more.
    let one_more : suc s * w ≤ r * w = mul-le-mul_right w (ltb-true s r more) in
    rw (not_less, more) (le-ltb (r * w + p) (s * w + q) (omega (arith, one_more, suc-mul s w))))
    (λ not_more.
    let same : r ≡ s = omega (arith, ltb-false r s not_less, ltb-false s r not_more) in
    rw (not_less, not_more) (rw same (added_test (s * w) p q))))
  where
    added_test : (x a b : ℕ) → ltb (x + a) (x + b) ≡ ltb a b
    added_test x a b =
        either_way (ltb a b)
        (λ less. rw less (lt-ltb (x + a) (x + b) (omega (arith, ltb-true a b less))))
        (λ not_less. rw not_less (le-ltb (x + a) (x + b) (omega (arith, ltb-false a b not_less))))

-- Two tests in turn are one test of both, read from either side.
tests_in_turn : (a b c d e : Bool) → cond a true (cond b false (cond c true (cond d false e)))
    ≡ cond (cond a true (cond b false c)) true (cond (cond b true (cond a false d)) false e)
tests_in_turn true b c d e = refl
tests_in_turn false true c d e = refl
tests_in_turn false false c d e = refl

below_weight : {ps : List ℕ} {P : ℕ} → States ps P → (i : ℕ) → get_or ps i 0 < remainder_weight
below_weight k i = omega (arith, entry_at_most_total k i, k.sum_within)

-- A state is served before another exactly if its precedence says so.
pub precedence_decides : {ps : List ℕ} {P : ℕ} → States ps P → (H i j : ℕ) → i < length ps → j < length ps
    → served_before ps H i j ≡ precedes (precedences_of ps H) i j
unfolding served_before remainder precedes precedence_of
precedence_decides {ps} k H i j hi hj =
    let r : ℕ → ℕ = λ (n : ℕ). get_or ps n 0 * H % sum ps in
    rw (
      get_d_list_of (precedence_at ps H) (length ps) i hi,
      get_d_list_of (precedence_at ps H) (length ps) j hj,
      weighted_test remainder_weight (r i) (r j) (get_or ps i 0) (get_or ps j 0) (below_weight k i) (below_weight k j),
      weighted_test remainder_weight (r j) (r i) (get_or ps j 0) (get_or ps i 0) (below_weight k j) (below_weight k i),
    )
    (tests_in_turn (ltb (r i) (r j)) (ltb (r j) (r i)) (ltb (get_or ps i 0) (get_or ps j 0)) (ltb (get_or ps j 0) (get_or ps i 0))
    (ltb j i))

-- So ranks are those of the precedences.
pub rank_is : {ps : List ℕ} {P : ℕ} → States ps P → (H i : ℕ) → i < length ps → rank ps H i ≡ rank_in (precedences_of ps H) i
unfolding rank rank_in
rank_is {ps} k H i hi =
    rw (length-list_of (precedence_at ps H) (length ps))
    (count_agrees
    (served_before ps H i)
    (precedes (precedences_of ps H) i)
    (length ps)
    (λ (j : ℕ) (hj : j < length ps). precedence_decides k H i j hi hj))

-- ---- a rank is two counts of plain comparisons

-- An earlier state is served before if its precedence is as high, a later one only if it is higher.
precedes_reaches : (a x : ℕ) (early : Bool) → cond (ltb a x) true (cond (ltb x a) false early) ≡ cond early (leb a x) (leb (a + 1) x)
precedes_reaches a x early = by_tests (ltb a x) (ltb x a) early refl refl
  where
    by_tests : (t u s : Bool) → ltb a x ≡ t → ltb x a ≡ u → cond t true (cond u false s) ≡ cond s (leb a x) (leb (a + 1) x)
    by_tests true u true e d = sym (le-leb a x (omega (arith, ltb-true a x e)))
    by_tests true u false e d = sym (le-leb (a + 1) x (omega (arith, ltb-true a x e)))
    by_tests false true true e d = sym (lt-leb a x (ltb-true x a d))
    by_tests false true false e d = sym (lt-leb (a + 1) x (omega (arith, ltb-true x a d)))
    by_tests false false true e d = sym (le-leb a x (ltb-false x a d))
    by_tests false false false e d = sym (lt-leb (a + 1) x (omega (arith, ltb-false a x e)))

-- So a rank is two counts, of the states before place i and of those from it on.
pub rank_in_parts : (xs : List ℕ) (i : ℕ) → i < length xs
    → rank_in xs i + count_below (reaches xs (get_or xs i 0 + 1)) i
    ≡ count_below (reaches xs (get_or xs i 0)) i + count_below (reaches xs (get_or xs i 0 + 1)) (length xs)
unfolding rank_in precedes reaches
rank_in_parts xs i h =
    count_splits
    (precedes xs i)
    (reaches xs (get_or xs i 0))
    (reaches xs (get_or xs i 0 + 1))
    i
    (λ (k : ℕ) (l : k < i). simp (lt-ltb k i l) (precedes_reaches (get_or xs i 0) (get_or xs k 0) true))
    (λ (k : ℕ) (l : i ≤ k). simp (le-ltb k i l) (precedes_reaches (get_or xs i 0) (get_or xs k 0) false))
    (length xs)
    (omega arith)

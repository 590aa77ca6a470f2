-- How many of a state's first m seats it was able to have by number s: those a < m with a P < p s. And the sums of these over all states.
-- Assumes nothing.
use Rattle.std.specs.Prelude.{◌≡◌, cond, List, ℕ, zero, suc, ◌+◌, ◌-◌, ◌*◌, ◌<◌, ◌≤◌, ltb, length, get_or}
use Rattle.std.proofs.Common.{◌∙◌, mul-le-mul_left, mul-le-mul_right, le_trans, lt_of_lt_of_le, zero-add, suc-add, add-one, arith, lt-ltb}
use Rattle.std.proofs.Common.{le-ltb, ltb-true, ltb-false}
use Rattle.apportionment.specs.Lists.{sum, count_below, list_of}
use Rattle.apportionment.specs.inner.Tests.{either_way}
use Rattle.apportionment.specs.inner.Lists.{count_none, count_one_more, count_within, at_most_one}

-- Those of one state.
unfoldable pub released : (p P m s : ℕ) → ℕ
released p P m s = count_below (λ (a : ℕ). ltb (a * P) (p * s)) m

-- The same for every state's seats xs, added up.
unfoldable pub released_all : (ps xs : List ℕ) (s : ℕ) → ℕ
released_all ps xs s = sum (list_of (λ (i : ℕ). released (get_or ps i 0) (sum ps) (get_or xs i 0) s) (length ps))

module _ (p P s : ℕ) where
  pub released_none : released p P 0 s ≡ 0
  unfolding released
  released_none = count_none _

  pub released_within : (m : ℕ) → released p P m s ≤ m
  unfolding released
  released_within m = count_within _ m

  pub released_more : (m : ℕ) → released p P (m + 1) s ≡ cond (ltb (m * P) (p * s)) 1 0 + released p P m s
  unfolding released
  released_more m = count_one_more _ m

  pub released_next : (m : ℕ) → m * P < p * s → released p P (m + 1) s ≡ 1 + released p P m s
  released_next m h = released_more m ∙ rw (lt-ltb (m * P) (p * s) h)

  pub released_late : (m : ℕ) → p * s ≤ m * P → released p P (m + 1) s ≡ released p P m s
  released_late m h = released_more m ∙ rw (le-ltb (m * P) (p * s) h, zero-add)

  pub released_step : (m : ℕ) → released p P (m + 1) s ≤ 1 + released p P m s
  released_step m = omega (arith, released_more m, at_most_one (ltb (m * P) (p * s)))

  -- From m seats on to d more: at least as many; all of them where it was able to have the last, and none where it was not able to have
  -- the first.
  grows : (m d : ℕ) → released p P m s ≤ released p P (d + m) s
  grows m zero = rw zero-add (omega arith)
  grows m (suc d) =
      rw (suc-add, ← (add-one (d + m))) (omega (arith, grows m d, released_more (d + m)))

  all_out : (m d : ℕ) → (0 < d → (d + m - 1) * P < p * s) → d + released p P m s ≡ released p P (d + m) s
  all_out m zero h = rw (zero-add, zero-add)
  all_out m (suc d) h =
      let last : suc d + m - 1 ≡ d + m = omega arith in
      let here : (d + m) * P < p * s = rw last at (h (omega arith)) in
      let before : (d + m - 1) * P ≤ (d + m) * P = mul-le-mul_right P (omega arith) in
      let up : suc d + m ≡ d + m + 1 = omega arith in
      rw up (omega (arith, released_next (d + m) here, all_out m d (λ _. omega (arith, here, before))))

  none_out : (m d : ℕ) → p * s ≤ m * P → released p P (d + m) s ≡ released p P m s
  none_out m zero h = rw zero-add
  none_out m (suc d) h =
      let later : m * P ≤ (d + m) * P = mul-le-mul_right P (omega arith) in
      rw (suc-add, ← (add-one (d + m))) (released_late (d + m) (omega (arith, h, later)) ∙ none_out m d h)

  pub released_grows : (m k : ℕ) → m ≤ k → released p P m s ≤ released p P k s
  released_grows m k h = let up : k - m + m ≡ k = omega arith in rw up at (grows m (k - m))

  pub released_all_lem : (m k : ℕ) → m ≤ k → (m < k → (k - 1) * P < p * s) → k + released p P m s ≡ m + released p P k s
  released_all_lem m k h last =
      let up : k - m + m ≡ k = omega arith in
      let all = rw up at (all_out m (k - m) (λ some. rw up (last (omega (arith, some))))) in
      omega (arith, all, up)

  pub released_stops : (m k : ℕ) → m ≤ k → p * s ≤ m * P → released p P k s ≡ released p P m s
  released_stops m k h late = let up : k - m + m ≡ k = omega arith in rw up at (none_out m (k - m) late)

  -- Where not even m seats are too many for it, those that it was able to have make up its share.
  pub released_share : (m : ℕ) → p * s ≤ m * P → p * s ≤ released p P m s * P
  released_share zero h = le_trans h (mul-le-mul_right P (omega arith))
  released_share (suc m) h =
      rw (← (add-one m))
      (either_way (ltb (m * P) (p * s))
      (λ e.
      let last : m + 1 - 1 ≡ m = omega arith in
      let all = released_all_lem 0 (m + 1) (omega arith) (λ _. rw last (ltb-true (m * P) (p * s) e)) in
      let so : released p P (m + 1) s ≡ m + 1 = omega (arith, all, released_none) in
      rw so (rw (← (add-one m)) at h))
      (λ e.
      let late = ltb-false (m * P) (p * s) e in
      rw (released_late m late) (released_share m late)))

-- By a later number, at least as many.
pub released_later : (p P m s t : ℕ) → s ≤ t → released p P m s ≤ released p P m t
released_later p P zero s t h = rw (released_none p P s) (omega arith)
released_later p P (suc m) s t h =
    rw (← (add-one m))
    (either_way (ltb (m * P) (p * s))
    (λ e.
    let now_able : m * P < p * t = lt_of_lt_of_le (ltb-true (m * P) (p * s) e) (mul-le-mul_left p h) in
    omega (arith, released_next p P s m (ltb-true (m * P) (p * s) e), released_next p P t m now_able, released_later p P m s t h))
    (λ e.
    omega (
      arith,
      released_late p P s m (ltb-false (m * P) (p * s) e),
      released_grows p P t m (m + 1) (omega arith),
      released_later p P m s t h,
    )))

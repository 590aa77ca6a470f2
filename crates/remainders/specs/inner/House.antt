-- The seats of largest remainders add up to the house: no more seats are left than there are states, and served by a bar as many go out
-- as are left.
-- Assumes nothing.
use Rattle.std.specs.Prelude.{◌≡◌, List, length, get_or}
use Rattle.std.proofs.Common.{sym, ap, ◌∙◌, add-one}
use Prim.Native.Nat.{ℕ, zero, suc, ◌+◌, ◌≤◌}
use native.Mathlib.Omega.{arith}
use Rattle.apportionment.specs.Lists.{sum, list_of}
use Rattle.apportionment.specs.Remainders.{whole_part, seats_left, remainder_seats}
use Rattle.apportionment.specs.inner.Lists.{list_of_places, length-list_of, sum-list_of_none, sum-list_of_more, sum-list_of_both}
use Rattle.apportionment.specs.inner.Lists.{count_none}
use Rattle.apportionment.specs.inner.Problem.{Problem}
use Rattle.apportionment.specs.inner.WholeParts.{whole_parts, whole_parts_within, left_within_states}
use Rattle.bar.specs.inner.Reaching.{reaches}
use Rattle.remainders.specs.inner.Precedence.{precedence_at, precedences_of, extra_in}
use Rattle.bar.specs.inner.Reaching.{reaching, Bar, bar_exists}
use Rattle.remainders.specs.inner.Serving.{spare_at, spare_for, spare_is, one_more_served, served_by_rank}
use Rattle.remainders.specs.inner.Seats.{parts_are_allotted}

-- ---- as many seats go out as are left

module _ (xs : List ℕ) (left bar : ℕ) (b : Bar xs left bar) where
  -- The first k states have the seats above the bar and what is no longer to spare.
  seats_of_first : (k : ℕ) → k ≤ length xs
      → sum (list_of (extra_in xs left) k) + spare_at xs bar (spare_for xs left bar) k ≡ reaching xs (bar + 1) k + spare_for xs left bar
  unfolding spare_at
  seats_of_first zero h = omega (arith, sum-list_of_none (extra_in xs left), count_none (reaches xs (bar + 1)))
  seats_of_first (suc k) h =
      let spare = spare_at xs bar (spare_for xs left bar) k in
      rw (← (add-one k))
      (omega (
        arith,
        sum-list_of_more (extra_in xs left) k,
        served_by_rank xs left bar b k (omega arith),
        one_more_served xs bar spare k,
        seats_of_first k (omega arith),
      ))

  extras_by_bar : sum (list_of (extra_in xs left) (length xs)) ≡ left
  extras_by_bar =
      omega (
        arith,
        seats_of_first (length xs) (omega arith),
        spare_is xs bar (spare_for xs left bar) (length xs),
        b.above,
        b.enough,
      )

extras_are_left : (xs : List ℕ) (left : ℕ) → left ≤ length xs → sum (list_of (extra_in xs left) (length xs)) ≡ left
extras_are_left xs left few = let found = bar_exists xs left few in extras_by_bar xs left found.0 found.1

-- ---- the house

-- The seats of largest remainders add up to the house.
pub seats_sum_to_house : {ps : List ℕ} {P H : ℕ} → Problem ps P H → sum (remainder_seats ps H) ≡ H
unfolding seats_left
seats_sum_to_house {ps} {P} {H} ok =
    let xs = precedences_of ps H in
    let wholes = whole_parts ps H in
    let left = seats_left ps H in
    let long : length xs ≡ length ps = length-list_of (precedence_at ps H) (length ps) in
    let same : length wholes ≡ length xs = length-list_of (whole_part ps H) (length ps) ∙ sym long in
    let gone : sum (list_of (extra_in xs left) (length wholes)) ≡ left
    = rw same (extras_are_left xs left (omega (arith, left_within_states ok))) in
    let parts : sum (list_of (λ (i : ℕ). get_or wholes i 0) (length wholes)) ≡ sum wholes = ap sum (list_of_places wholes) in
    let both = sum-list_of_both (λ (i : ℕ). get_or wholes i 0) (extra_in xs left) (length wholes) in
    ap sum (sym (parts_are_allotted ok.states H)) ∙ both ∙ omega (arith, whole_parts_within ok (length ps))

-- What holds of seats that stand in an order of claims: their total fixes them, placing the first claim not met or withdrawing the last
-- one met leaves them standing, and they stand just where that last claim comes before that first one.
-- Assumes nothing.
use Rattle.std.specs.Prelude.{◌≡◌, refl, ◌≢◌, ◌⊎◌, Bool, false, not, cond, List, ltb, length}
use Rattle.std.proofs.Common.{sym, ap, ◌∙◌, inl, inr, ⊎_elim, le_refl, lt_irrefl, eq-or-lt_of_le, lt_of_lt_of_le, add-suc, arith}
use Rattle.std.proofs.Math.Bool.{true}
use Rattle.std.proofs.lemmas.Bool.{false≢true}
use Prim.Native.Nat.{ℕ, zero, suc, ◌+◌, ◌-◌, ◌<◌, ◌≤◌}
use Rattle.std.proofs.Math.Nat.{le_trans, add-zero}
use borrow.Author.Tests.{ltb-true, ltb-false, lt-ltb, not-true, not-false}
use Rattle.std.proofs.Math.ListN.{get_or}
use Rattle.apportionment.specs.Lists.{sum, list_of}
use Rattle.apportionment.specs.Divisor.{one_more}
use Rattle.apportionment.specs.inner.Tests.{cond_both, either_way}
use Rattle.claims.specs.inner.Order.{ClaimTest, ClaimOrder, comes, Standing, ends_apart}
use Rattle.claims.specs.inner.Order.{wants_before, first_unmet, placed, placed_times, gives_up_before, last_met, one_less, withdrawn}
use Rattle.claims.specs.inner.Order.{withdrawn_times}
use Rattle.claims.specs.inner.StandingMoves.{length-one_more, length-one_less, at_one_more, at_one_less}
use Rattle.claims.specs.inner.StandingMoves.{sum-one_more, sum-one_less, le_same_sum, nowhere_or_somewhere_above, somewhere_above}
use Rattle.claims.specs.inner.StandingOrder.{first_place_le, first_place_holds, first_place_first, comes_by_value, not_comes}
use Rattle.claims.specs.inner.StandingOrder.{comes_otherwise, Claim}
use Rattle.claims.specs.inner.StandingOrder.{claims_asym, claims_through, before_no_earlier, no_later_before, claims_irreflexive}
use Rattle.claims.specs.inner.StandingOrder.{rises_far, never_falls, comes_order}

-- ---- the states picked, and the lengths and sums of seats placed and withdrawn

pub first_unmet_lt : (n : ℕ) (lt : ClaimTest) (xs : List ℕ) → 0 < n → first_unmet lt n xs < n
unfolding first_unmet
first_unmet_lt n lt xs some = omega (arith, first_place_le (wants_before lt xs) (n - 1))

pub last_met_lt : (n : ℕ) (lo : ℕ → ℕ) (lt : ClaimTest) (xs : List ℕ) → 0 < n → last_met lo lt n xs < n
unfolding last_met
last_met_lt n lo lt xs some = omega (arith, first_place_le (gives_up_before lo lt xs) (n - 1))

pub length_placed : (n : ℕ) (lt : ClaimTest) (xs : List ℕ) → length (placed lt n xs) ≡ length xs
unfolding placed
length_placed n lt xs = length-one_more xs (first_unmet lt n xs)

pub length-placed_times : (n : ℕ) (lt : ClaimTest) (xs : List ℕ) (k : ℕ) → length (placed_times lt n xs k) ≡ length xs
unfolding placed_times
length-placed_times n lt xs zero = refl
length-placed_times n lt xs (suc k) = length_placed n lt (placed_times lt n xs k) ∙ length-placed_times n lt xs k

pub sum_placed : (n : ℕ) (lt : ClaimTest) (xs : List ℕ) → 0 < n → length xs ≡ n → sum (placed lt n xs) ≡ suc (sum xs)
unfolding placed
sum_placed n lt xs some states = sum-one_more xs (first_unmet lt n xs) (rw states (first_unmet_lt n lt xs some))

pub sum-placed_times : (n : ℕ) (lt : ClaimTest) (xs : List ℕ) (k : ℕ) → 0 < n → length xs ≡ n
    → sum (placed_times lt n xs k) ≡ sum xs + k
unfolding placed_times
sum-placed_times n lt xs zero some states = sym (add-zero (sum xs))
sum-placed_times n lt xs (suc k) some states =
    sum_placed n lt (placed_times lt n xs k) some (length-placed_times n lt xs k ∙ states)
    ∙ ap suc (sum-placed_times n lt xs k some states) ∙ sym (add-suc (sum xs) k)

pub length_withdrawn : (n : ℕ) (lo : ℕ → ℕ) (lt : ClaimTest) (xs : List ℕ) → length (withdrawn lo lt n xs) ≡ length xs
unfolding withdrawn
length_withdrawn n lo lt xs = length-one_less xs (last_met lo lt n xs)

pub length-withdrawn_times : (n : ℕ) (lo : ℕ → ℕ) (lt : ClaimTest) (xs : List ℕ) (k : ℕ)
    → length (withdrawn_times lo lt n xs k) ≡ length xs
unfolding withdrawn_times
length-withdrawn_times n lo lt xs zero = refl
length-withdrawn_times n lo lt xs (suc k) = length_withdrawn n lo lt (withdrawn_times lo lt n xs k) ∙ length-withdrawn_times n lo lt xs k

-- ---- the first claim not met and the last one met

-- State i gives up a seat before state j: it is above its fewest and, if j is too, i's last claim does not come first.
pub gives_up : (lo : ℕ → ℕ) (lt : ClaimTest) (xs : List ℕ) (i j : ℕ) → gives_up_before lo lt xs i j ≡ true
    → (lo i < get_or xs i 0) × (lo j < get_or xs j 0 → lt i (get_or xs i 0 - 1) j (get_or xs j 0 - 1) ≡ false)
unfolding gives_up_before
gives_up lo lt xs i j e = by_test (ltb (lo i) (get_or xs i 0)) (ltb (lo j) (get_or xs j 0)) refl refl e
  where
    earlier : Bool
    earlier = lt i (get_or xs i 0 - 1) j (get_or xs j 0 - 1)

    by_test : (t u : Bool) → ltb (lo i) (get_or xs i 0) ≡ t → ltb (lo j) (get_or xs j 0) ≡ u
        → cond t (cond u (not earlier) true) false ≡ true
        → (lo i < get_or xs i 0) × (lo j < get_or xs j 0 → earlier ≡ false)
    by_test true true et eu c = (ltb-true (lo i) (get_or xs i 0) et, λ above. not-true earlier c)
    by_test true false et eu c =
        (ltb-true (lo i) (get_or xs i 0) et, λ above. absurd (omega (arith, above, ltb-false (lo j) (get_or xs j 0) eu)))
    by_test false u et eu c = absurd (false≢true c)

-- State i does not give up a seat before state j, though it is above its fewest: j is too, and i's last claim comes first.
pub keeps_seat : (lo : ℕ → ℕ) (lt : ClaimTest) (xs : List ℕ) (i j : ℕ) → gives_up_before lo lt xs i j ≡ false → lo i < get_or xs i 0
    → (lo j < get_or xs j 0) × (lt i (get_or xs i 0 - 1) j (get_or xs j 0 - 1) ≡ true)
unfolding gives_up_before
keeps_seat lo lt xs i j e above =
    let kept = rw (lt-ltb (lo i) (get_or xs i 0) above) at e in
    either_way (ltb (lo j) (get_or xs j 0))
    (λ more. (ltb-true (lo j) (get_or xs j 0) more, not-false (lt i (get_or xs i 0 - 1) j (get_or xs j 0 - 1)) (rw more at kept)))
    (λ none. absurd (false≢true (sym (rw none at kept))))

module _ (n : ℕ) (lo : ℕ → ℕ) (lt : ClaimTest) (order : ClaimOrder n lo lt) where
  -- No state's next claim comes before the first one not met, and that one comes before each earlier state's.
  pub first_unmet_first : (xs : List ℕ) → 0 < n → ((i : ℕ) → i < n → lo i ≤ get_or xs i 0) → (i : ℕ) → i < n
      → let j = first_unmet lt n xs in
      (lt i (get_or xs i 0) j (get_or xs j 0) ≡ false) × (i < j → lt j (get_or xs j 0) i (get_or xs i 0) ≡ true)
  unfolding first_unmet wants_before
  first_unmet_first xs some least i hi = first_place_first (wants_before lt xs) (n - 1)
      (λ i j hi hj. claims_asym n lo lt order (next i hi) (next j hj))
      (λ i j k hi hj hk. claims_through n lo lt order (next i hi) (next j hj) (next k hk)) i (omega arith)
    where
      next : (i : ℕ) → i ≤ n - 1 → Claim n lo
      next i h = let hi : i < n = omega (arith, some, h) in (i, get_or xs i 0, hi, least i hi)

  -- Where any state is above its fewest seats, so is the state with the last claim met; its claim does not come before the last claim of
  -- such a state, and comes after that of a later one.
  pub last_met_last : (xs : List ℕ) → 0 < n → (i : ℕ) → i < n → lo i < get_or xs i 0
      → let j = last_met lo lt n xs in
      (lo j < get_or xs j 0) × (lt j (get_or xs j 0 - 1) i (get_or xs i 0 - 1) ≡ false)
      × (j < i → lt i (get_or xs i 0 - 1) j (get_or xs j 0 - 1) ≡ true)
  unfolding last_met
  last_met_last xs some i hi = first_place_holds (gives_up_before lo lt xs) Last (n - 1) same stays takes i (omega arith)
    where
      Last : ℕ → ℕ → Type 0
      Last i j = lo i < get_or xs i 0
          → (lo j < get_or xs j 0) × (lt j (get_or xs j 0 - 1) i (get_or xs i 0 - 1) ≡ false)
          × (j < i → lt i (get_or xs i 0 - 1) j (get_or xs j 0 - 1) ≡ true)

      last : (i : ℕ) → i ≤ n - 1 → lo i < get_or xs i 0 → Claim n lo
      last i h above = (i, get_or xs i 0 - 1, omega (arith, some, h), omega (arith, above))

      same : (i : ℕ) → i ≤ n - 1 → Last i i
      same i h above =
          (above, claims_irreflexive n lo lt order (last i h above), λ ii. absurd (lt_irrefl i ii))

      stays : (i j : ℕ) → i < j → j ≤ n - 1 → gives_up_before lo lt xs j i ≡ false → Last j i
      stays i j ij h e above =
          let known = keeps_seat lo lt xs j i e above in
          (known.0, claims_asym n lo lt order (last j h above) (last i (omega (arith, ij, h)) known.0) known.1, λ b. known.1)

      takes : (l i j : ℕ) → l < j → i < j → j ≤ n - 1 → gives_up_before lo lt xs j i ≡ true → Last l i → Last l j
      takes l i j lj ij h e rest above =
          let known = gives_up lo lt xs j i e in
          let was = rest above in (
            known.0,
            claims_through n lo lt order (last j h known.0) (last i (omega (arith, ij, h)) was.0)
                (last l (omega (arith, lj, h)) above) (known.1 was.0) was.1,
            λ jl. absurd (omega (arith, jl, lj)),
          )

  -- No claim not met comes before the first one.
  unmet_no_earlier : (xs : List ℕ) → 0 < n → ((i : ℕ) → i < n → lo i ≤ get_or xs i 0) → (i b : ℕ) → i < n → get_or xs i 0 ≤ b
      → let j = first_unmet lt n xs in comes lt i b j (get_or xs j 0) ≡ false
  unmet_no_earlier xs some least i b hi beyond =
      claims_through n lo (comes lt) (comes_order n lo lt order) (i, b, hi, le_trans (least i hi) beyond) (i, get_or xs i 0, hi, least i hi)
      (j, get_or xs j 0, hj, least j hj)
      (never_falls n lo (comes lt) (comes_order n lo lt order) i (get_or xs i 0) b hi (least i hi) beyond)
      (not_comes lt i (get_or xs i 0) j (get_or xs j 0) first.0 first.1)
    where
      j : ℕ
      j = first_unmet lt n xs

      hj : j < n
      hj = first_unmet_lt n lt xs some

      first : (lt i (get_or xs i 0) j (get_or xs j 0) ≡ false) × (i < j → lt j (get_or xs j 0) i (get_or xs i 0) ≡ true)
      first = first_unmet_first xs some least i hi

  -- The last claim met comes before none that is met.
  met_no_later : (xs : List ℕ) → 0 < n → (i a : ℕ) → i < n → lo i ≤ a → a < get_or xs i 0
      → let j = last_met lo lt n xs in (lo j < get_or xs j 0) × (comes lt j (get_or xs j 0 - 1) i a ≡ false)
  met_no_later xs some i a hi la met = (
    final.0,
    claims_through n lo (comes lt) (comes_order n lo lt order) (j, get_or xs j 0 - 1, last_met_lt n lo lt xs some, omega (arith, final.0))
        (i, get_or xs i 0 - 1, hi, omega (arith, la, met)) (i, a, hi, la)
        (not_comes lt j (get_or xs j 0 - 1) i (get_or xs i 0 - 1) final.1 final.2)
        (never_falls n lo (comes lt) (comes_order n lo lt order) i a (get_or xs i 0 - 1) hi la (omega (arith, met))),
  )
    where
      j : ℕ
      j = last_met lo lt n xs

      final : (lo j < get_or xs j 0) × (lt j (get_or xs j 0 - 1) i (get_or xs i 0 - 1) ≡ false)
          × (j < i → lt i (get_or xs i 0 - 1) j (get_or xs j 0 - 1) ≡ true)
      final = last_met_last xs some i hi (omega (arith, la, met))

  -- ---- the total fixes the seats

  -- Seats that stand and have one total are the same: a seat too many in one place and one too few in another would be two claims, each
  -- coming before the other.
  pub standing_unique : (xs ys : List ℕ) → Standing n lo lt xs → Standing n lo lt ys → sum xs ≡ sum ys → xs ≡ ys
  standing_unique xs ys s t e = by_places (nowhere_or_somewhere_above x y n) (nowhere_or_somewhere_above y x n)
    where
      x : ℕ → ℕ
      x i = get_or xs i 0

      y : ℕ → ℕ
      y i = get_or ys i 0

      same_length : length xs ≡ length ys
      same_length = s.states ∙ sym t.states

      both_ways : (i : ℕ) × (i < n) × (y i < x i) → (j : ℕ) × (j < n) × (x j < y j) → ⊥
      both_ways (i, hi, yx) (j, hj, xy) =
          let p : Claim n lo = (i, y i, hi, t.least i hi) in
          let q : Claim n lo = (j, x j, hj, s.least j hj) in
          false≢true (sym (claims_asym n lo (comes lt) (comes_order n lo lt order) p q
          (s.apart i (y i) j (x j) hi (t.least i hi) yx hj (le_refl (x j))))
          ∙ t.apart j (x j) i (y i) hj (s.least j hj) xy hi (le_refl (y i)))

      by_places : ((i : ℕ) → i < n → x i ≤ y i) ⊎ ((i : ℕ) × (i < n) × (y i < x i))
          → ((i : ℕ) → i < n → y i ≤ x i) ⊎ ((i : ℕ) × (i < n) × (x i < y i)) → xs ≡ ys
      by_places (inl below) c = le_same_sum xs ys same_length (λ i h. below i (rw s.states at h)) e
      by_places (inr above) (inl below) = sym (le_same_sum ys xs (sym same_length) (λ i h. below i (rw t.states at h)) (sym e))
      by_places (inr above) (inr below) = absurd (both_ways above below)

  -- ---- one seat placed

  -- One more seat where no claim not met comes before keeps seats standing.
  pub one_more_standing : (xs : List ℕ) (j : ℕ) → Standing n lo lt xs → j < n
      → ((k b : ℕ) → k < n → get_or xs k 0 ≤ b → comes lt k b j (get_or xs j 0) ≡ false) → Standing n lo lt (one_more xs j)
  one_more_standing xs j s hj first = record {
    states = length-one_more xs j ∙ s.states;
    least = λ i hi. le_trans (s.least i hi) (no_fewer i);
    apart = λ i a k b hi la met hk beyond. ⊎_elim
        (λ old. s.apart i a k b hi la old hk (le_trans (no_fewer k) beyond))
        (λ new. rw (new.0, new.1) (new_comes k b hk beyond)) (old_or_new i a met);
  }
    where
      new_seats : ℕ → ℕ
      new_seats i = get_or (one_more xs j) i 0

      at : (i : ℕ) → ((i ≡ j) × (new_seats i ≡ suc (get_or xs i 0))) ⊎ ((i ≢ j) × (new_seats i ≡ get_or xs i 0))
      at i = at_one_more xs j i (rw s.states hj)

      no_fewer : (i : ℕ) → get_or xs i 0 ≤ new_seats i
      no_fewer i = ⊎_elim (λ h. omega (arith, h.1)) (λ h. omega (arith, h.1)) (at i)

      old_or_new : (i a : ℕ) → a < new_seats i → (a < get_or xs i 0) ⊎ ((a ≡ get_or xs i 0) × (i ≡ j))
      old_or_new i a met = ⊎_elim
          (λ h. ⊎_elim (λ e. inr (e, h.0)) inl (eq-or-lt_of_le (omega (arith, h.1, met))))
          (λ h. inl (omega (arith, h.1, met))) (at i)

      new_comes : (k b : ℕ) → k < n → new_seats k ≤ b → comes lt j (get_or xs j 0) k b ≡ true
      new_comes k b hk beyond = ⊎_elim
          (λ h. rw h.0 (comes_by_value lt j (get_or xs j 0) j b
          (rises_far n lo lt order j (get_or xs j 0) b hj (s.least j hj) (rw h.0 at (past k b h.1 beyond)))))
          (λ h. comes_otherwise lt k b j (get_or xs j 0) (first k b hk (omega (arith, h.1, beyond))) h.0) (at k)
        where
          past : (k b : ℕ) → new_seats k ≡ suc (get_or xs k 0) → new_seats k ≤ b → get_or xs k 0 < b
          past k b e h = omega (arith, e, h)

  -- Placing the first claim not met keeps seats standing.
  pub placed_standing : (xs : List ℕ) → 0 < n → Standing n lo lt xs → Standing n lo lt (placed lt n xs)
  unfolding placed
  placed_standing xs some s =
      one_more_standing xs (first_unmet lt n xs) s (first_unmet_lt n lt xs some) (unmet_no_earlier xs some s.least)

  -- ---- one seat withdrawn

  -- One seat less where no claim met comes after keeps seats standing.
  pub one_less_standing : (xs : List ℕ) (j : ℕ) → Standing n lo lt xs → j < n → lo j < get_or xs j 0
      → ((i a : ℕ) → i < n → lo i ≤ a → a < get_or xs i 0 → comes lt j (get_or xs j 0 - 1) i a ≡ false) → Standing n lo lt (one_less xs j)
  one_less_standing xs j s hj above last = record {
    states = length-one_less xs j ∙ s.states;
    least = λ i hi. ⊎_elim (λ h. omega (arith, h.1, rw (← h.0) at above)) (λ h. omega (arith, h.1, s.least i hi)) (at i);
    apart = λ i a k b hi la met hk beyond. ⊎_elim
        (λ old. s.apart i a k b hi la (lt_of_lt_of_le met (no_more i)) hk old)
        (λ new. rw (new.0, new.1) (comes_last i a hi la met)) (old_or_new k b beyond);
  }
    where
      new_seats : ℕ → ℕ
      new_seats i = get_or (one_less xs j) i 0

      at : (i : ℕ) → ((i ≡ j) × (new_seats i ≡ get_or xs i 0 - 1)) ⊎ ((i ≢ j) × (new_seats i ≡ get_or xs i 0))
      at i = at_one_less xs j i (rw s.states hj)

      no_more : (i : ℕ) → new_seats i ≤ get_or xs i 0
      no_more i = ⊎_elim (λ h. omega (arith, h.1)) (λ h. omega (arith, h.1)) (at i)

      old_or_new : (k b : ℕ) → new_seats k ≤ b → (get_or xs k 0 ≤ b) ⊎ ((b ≡ get_or xs k 0 - 1) × (k ≡ j))
      old_or_new k b beyond = ⊎_elim
          (λ h. ⊎_elim (λ e. inr (sym e ∙ h.1, h.0)) (λ past. inl (omega (arith, h.1, past))) (eq-or-lt_of_le beyond))
          (λ h. inl (omega (arith, h.1, beyond))) (at k)

      comes_last : (i a : ℕ) → i < n → lo i ≤ a → a < new_seats i → comes lt i a j (get_or xs j 0 - 1) ≡ true
      comes_last i a hi la met = ⊎_elim
          (λ h. rw (← h.0) (comes_by_value lt i a i (get_or xs i 0 - 1)
          (rises_far n lo lt order i a (get_or xs i 0 - 1) hi la (omega (arith, h.1, met)))))
          (λ h. comes_otherwise lt j (get_or xs j 0 - 1) i a (last i a hi la (lt_of_lt_of_le met (no_more i))) (λ e. h.0 (sym e))) (at i)

  -- Above the fewest seats in all, the state with the last claim met is above its own.
  pub last_met_above : (xs : List ℕ) → 0 < n → length xs ≡ n → sum (list_of lo n) < sum xs
      → let j = last_met lo lt n xs in lo j < get_or xs j 0
  last_met_above xs some states more =
      let found = somewhere_above lo n xs states more in
      (last_met_last xs some found.0 found.1 found.2).0

  pub sum_withdrawn : (xs : List ℕ) → 0 < n → length xs ≡ n → sum (list_of lo n) < sum xs → suc (sum (withdrawn lo lt n xs)) ≡ sum xs
  unfolding withdrawn
  sum_withdrawn xs some states more =
      sum-one_less xs (last_met lo lt n xs) (rw states (last_met_lt n lo lt xs some)) (omega (arith, last_met_above xs some states more))

  -- Withdrawing the last claim met keeps seats standing, as long as some state is above its fewest.
  pub withdrawn_standing : (xs : List ℕ) → 0 < n → Standing n lo lt xs → sum (list_of lo n) < sum xs
      → Standing n lo lt (withdrawn lo lt n xs)
  unfolding withdrawn
  withdrawn_standing xs some s more =
      one_less_standing xs (last_met lo lt n xs) s (last_met_lt n lo lt xs some) (last_met_above xs some s.states more)
      (λ i a hi la met. (met_no_later xs some i a hi la met).1)

  -- ---- many seats placed or withdrawn

  pub placed_times_standing : (xs : List ℕ) (k : ℕ) → 0 < n → Standing n lo lt xs → Standing n lo lt (placed_times lt n xs k)
  unfolding placed_times
  placed_times_standing xs zero some s = s
  placed_times_standing xs (suc k) some s = placed_standing (placed_times lt n xs k) some (placed_times_standing xs k some s)

  pub sum-withdrawn_times : (xs : List ℕ) (k : ℕ) → 0 < n → length xs ≡ n → sum (list_of lo n) + k ≤ sum xs
      → sum (withdrawn_times lo lt n xs k) + k ≡ sum xs
  unfolding withdrawn_times
  sum-withdrawn_times xs zero some states enough = add-zero (sum xs)
  sum-withdrawn_times xs (suc k) some states enough =
      let before = sum-withdrawn_times xs k some states (omega (arith, enough)) in
      let long = length-withdrawn_times n lo lt xs k ∙ states in
      omega (arith, before, sum_withdrawn (withdrawn_times lo lt n xs k) some long (omega (arith, enough, before)))

  pub withdrawn_times_standing : (xs : List ℕ) (k : ℕ) → 0 < n → Standing n lo lt xs → sum (list_of lo n) + k ≤ sum xs
      → Standing n lo lt (withdrawn_times lo lt n xs k)
  unfolding withdrawn_times
  withdrawn_times_standing xs zero some s enough = s
  withdrawn_times_standing xs (suc k) some s enough =
      let fewer : sum (list_of lo n) + k ≤ sum xs = omega (arith, enough) in
      withdrawn_standing (withdrawn_times lo lt n xs k) some (withdrawn_times_standing xs k some s fewer)
      (omega (arith, enough, sum-withdrawn_times xs k some s.states fewer))

  -- ---- the test by the two ends

  -- Seats whose last claim met comes before the first one not met stand.
  pub ends_standing : (xs : List ℕ) → length xs ≡ n → 0 < n → ((i : ℕ) → i < n → lo i ≤ get_or xs i 0)
      → ends_apart lo lt n xs ≡ true → Standing n lo lt xs
  unfolding ends_apart
  ends_standing xs states some least e = record {
    states = states;
    least = least;
    apart = λ i a k b hi la met hk beyond.
        let final = met_no_later xs some i a hi la met in
        let P : Claim n lo = (p, get_or xs p 0 - 1, last_met_lt n lo lt xs some, omega (arith, final.0)) in
        let Q : Claim n lo = (q, get_or xs q 0, first_unmet_lt n lt xs some, least q (first_unmet_lt n lt xs some)) in
        let C : Claim n lo = (i, a, hi, la) in
        let D : Claim n lo = (k, b, hk, le_trans (least k hk) beyond) in
        before_no_earlier n lo (comes lt) (comes_order n lo lt order) C Q D
        (no_later_before n lo (comes lt) (comes_order n lo lt order) C P Q final.1 (ends final.0))
        (unmet_no_earlier xs some least k b hk beyond);
  }
    where
      p : ℕ
      p = last_met lo lt n xs

      q : ℕ
      q = first_unmet lt n xs

      ends : lo p < get_or xs p 0 → comes lt p (get_or xs p 0 - 1) q (get_or xs q 0) ≡ true
      ends above = rw (lt-ltb (lo p) (get_or xs p 0) above) at e

  -- And seats that stand pass that test.
  pub standing_ends : (xs : List ℕ) → 0 < n → Standing n lo lt xs → ends_apart lo lt n xs ≡ true
  unfolding ends_apart
  standing_ends xs some s =
      let p = last_met lo lt n xs in
      let q = first_unmet lt n xs in
      cond_both (λ (b : Bool). b ≡ true) (ltb (lo p) (get_or xs p 0)) (comes lt p (get_or xs p 0 - 1) q (get_or xs q 0)) true
      (λ e.
      let above : lo p < get_or xs p 0 = ltb-true (lo p) (get_or xs p 0) e in
      s.apart p (get_or xs p 0 - 1) q (get_or xs q 0) (last_met_lt n lo lt xs some) (omega (arith, above)) (omega (arith, above))
      (first_unmet_lt n lt xs some) (le_refl (get_or xs q 0)))
      (λ _. refl)

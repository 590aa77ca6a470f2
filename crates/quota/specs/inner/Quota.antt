-- The quota is kept. Of the seats that the method gives, h in all, a state of population p has no fewer than the whole part of p h / P and
-- no more than that quotient rounded up: after every seat h, whatever the house. And at every seat some state is able to have it.
-- Assumes nothing.
use Rattle.std.specs.Prelude.{◌≡◌, Bool, true, false, List, ltb, leb, length}
use Rattle.std.proofs.Math.Path.{refl, ap}
use Rattle.std.proofs.Common.{sym, ◌∙◌, mul_comm, add-mul, suc-mul, mul-le-mul_left, mul-le-mul_right, le_trans, le_refl, lt_of_lt_of_le}
use Rattle.std.proofs.Common.{le-div_iff_mul-le, div-lt_iff_lt-mul, lt_of_mul-lt-mul_right, arith, ltb-true, ltb-false, leb-true}
use Rattle.std.proofs.Common.{leb-false, le-leb}
use Rattle.std.proofs.Math.Logic.{inr}
use Rattle.std.proofs.lemmas.Bool.{false≢true}
use Prim.Native.Nat.{ℕ, zero, suc, ◌+◌, ◌-◌, ◌*◌, ◌/◌, ◌<◌, ◌≤◌}
use Rattle.std.proofs.Math.Nat.{mul-lt-mul_of_pos_right}
use Rattle.std.proofs.Math.ListN.{get_or, length-replicate}
use Rattle.apportionment.specs.Lists.{sum}
use Rattle.apportionment.specs.Quota.{able, quotient, seat_goes_to, quota_seats, WithinQuota}
use Rattle.apportionment.specs.inner.Tests.{either_way}
use Rattle.apportionment.specs.inner.Lists.{entry_at_most_sum, sum_zeros, zeros_at}
use Rattle.apportionment.specs.inner.Lists.{sum-list_of_at_most, sum-list_of_less}
use Rattle.claims.specs.Growth.{OneGains}
use Rattle.claims.specs.inner.Growth.{one_more_gains}
use Rattle.claims.specs.inner.Fractions.{less_of_products}
use Rattle.claims.specs.inner.StandingOrder.{comes_by_value}
use Rattle.claims.specs.inner.StandingMoves.{length-one_more, sum-one_more}
use Rattle.quota.specs.inner.Sums.{sum_of_times, sum_of_both}
use Rattle.quota.specs.inner.Turns.{quotient_test}
use Rattle.quota.specs.inner.Serving.{Peopled, Serving, Parting, Since, seat_lt, seat_able, able_false, never_lost, gained_able}
use Rattle.quota.specs.inner.Serving.{preferred_before, since}

-- There is someone to share the seats among.
pub someone : {ps : List ℕ} → Peopled ps → 0 < sum ps
someone {ps} ok = omega (arith, ok.people 0 ok.some, entry_at_most_sum ps 0)

module _ {ps : List ℕ} (ok : Peopled ps) where
  -- ---- the seats add up

  pub quota_long : (h : ℕ) → length (quota_seats ps h) ≡ length ps
  unfolding quota_seats
  quota_long zero = length-replicate (length ps) 0
  quota_long (suc h) = length-one_more (quota_seats ps h) _ ∙ quota_long h

  pub quota_sum : (h : ℕ) → sum (quota_seats ps h) ≡ h
  unfolding quota_seats
  quota_sum zero = sum_zeros (length ps)
  quota_sum (suc h) =
      sum-one_more (quota_seats ps h) _ (rw (quota_long h) (seat_lt ok (suc h) (quota_seats ps h))) ∙ ap suc (quota_sum h)

  -- One seat more: the state that has it gains, and no other changes.
  pub quota_one_more : (h : ℕ) → OneGains (quota_seats ps h) (quota_seats ps (suc h))
  unfolding quota_seats
  quota_one_more h = one_more_gains (quota_seats ps h) _ (rw (quota_long h) (seat_lt ok (suc h) (quota_seats ps h)))

  -- ---- some state is able

  -- Seats that are fewer than h leave some state able to have the seat numbered h: else each had its share of h seats.
  pub able_below : (h : ℕ) (xs : List ℕ) → length xs ≡ length ps → sum xs < h → able ps h xs (seat_goes_to ps h xs) ≡ true
  able_below h xs long few = either_way (able ps h xs (seat_goes_to ps h xs)) (λ yes. yes) (λ none. absurd (all_served (unable none)))
    where
      unable : able ps h xs (seat_goes_to ps h xs) ≡ false → (i : ℕ) → i < length ps → get_or ps i 0 * h ≤ get_or xs i 0 * sum ps
      unable none i hi = either_way (able ps h xs i)
          (λ one. absurd (false≢true (sym none ∙ seat_able ok h xs i hi one))) (λ not. able_false ps h xs i not)

      all_served : ((i : ℕ) → i < length ps → get_or ps i 0 * h ≤ get_or xs i 0 * sum ps) → ⊥
      all_served each =
          let shares = sum-list_of_at_most (λ (i : ℕ). get_or ps i 0 * h) (λ (i : ℕ). get_or xs i 0 * sum ps) (length ps) each in
          let house : sum ps * h ≤ sum xs * sum ps
          = omega (arith, shares, sum_of_times (length ps) ps h refl, sum_of_times (length ps) xs (sum ps) long) in
          let less_than : sum xs * sum ps < h * sum ps = mul-lt-mul_of_pos_right few (someone ok) in
          omega (arith, house, less_than, mul_comm h (sum ps))

  -- At every seat some state is able to have it, and it goes to one that is.
  pub some_state_able : (h : ℕ) → able ps (suc h) (quota_seats ps h) (seat_goes_to ps (suc h) (quota_seats ps h)) ≡ true
  some_state_able h = able_below (suc h) (quota_seats ps h) (quota_long h) (omega (arith, quota_sum h))

  pub some_able : (h : ℕ) → (i : ℕ) × (i < length ps) × (able ps (suc h) (quota_seats ps h) i ≡ true)
  some_able h = (seat_goes_to ps (suc h) (quota_seats ps h), seat_lt ok (suc h) (quota_seats ps h), some_state_able h)

  -- ---- the method is a way of giving seats by turns

  pub method_serves : (H : ℕ) → Serving ps (quota_seats ps) H
  unfolding quota_seats
  method_serves H = record {
    states = length-replicate (length ps) 0;
    step = λ t h. inr (record { is_able = some_state_able t; seats = refl });
  }

  pub nobody_first : (i : ℕ) → get_or (quota_seats ps 0) i 0 ≡ 0
  unfolding quota_seats
  nobody_first i = zeros_at (length ps) i

  -- ---- not above

  -- A state's last seat was given when it was able.
  pub below_next : (h i : ℕ) → 0 < get_or (quota_seats ps h) i 0 → (get_or (quota_seats ps h) i 0 - 1) * sum ps < get_or ps i 0 * h
  below_next h i some = gained_able ok (method_serves h) h (le_refl h) i (rw (nobody_first i) some)

  -- ---- not below

  -- The claims to seats within the share of h seats.
  abbrev share_of : (h i a : ℕ) → Bool
  share_of h i a = leb ((a + 1) * sum ps) (get_or ps i 0 * h)

  -- p h ≥ (a + 1) P here and p' h < (b + 1) P there, so p / (a + 1) > p' / (b + 1).
  larger_share : (h i a j b : ℕ) → (a + 1) * sum ps ≤ get_or ps i 0 * h → get_or ps j 0 * h < (b + 1) * sum ps
      → quotient_test ps i a j b ≡ true
  unfolding quotient_test quotient
  larger_share h i a j b here there = less_of_products (quotient (get_or ps j 0) b) (quotient (get_or ps i 0) a)
      (lt_of_mul-lt-mul_right h (lt_of_lt_of_le one two))
    where
      one : get_or ps j 0 * (a + 1) * h < (b + 1) * sum ps * (a + 1)
      one = omega (arith, mul-lt-mul_of_pos_right {k = a + 1} there (omega arith))

      two : (b + 1) * sum ps * (a + 1) ≤ get_or ps i 0 * (b + 1) * h
      two = omega (arith, mul-le-mul_right (b + 1) here)

  share_parts : (h : ℕ) → 0 < h → Parting ps (share_of h)
  share_parts h some = record {
    falls = λ i a hi e.
        let later : (suc a + 1) * sum ps ≤ get_or ps i 0 * h = leb-true _ _ e in
        let less_than : (a + 1) * sum ps ≤ (suc a + 1) * sum ps = mul-le-mul_right (sum ps) (omega arith) in
        le-leb _ _ (le_trans less_than later);
    parts = λ i a j b hi hj e f. comes_by_value (quotient_test ps) i a j b (larger_share h i a j b (leb-true _ _ e) (leb-false _ _ f));
  }

  pub above_last : (h i : ℕ) → i < length ps → get_or ps i 0 * h < (get_or (quota_seats ps h) i 0 + 1) * sum ps
  above_last zero i hi = omega (arith, someone ok)
  above_last (suc h) i hi = either_way (share_of (suc h) i (get_or (quota_seats ps (suc h)) i 0))
      (λ e. absurd (too_few e)) (λ e. leb-false _ _ e)
    where
      H : ℕ
      H = suc h

      at_end : ℕ → ℕ
      at_end j = get_or (quota_seats ps H) j 0

      found : (s : ℕ) × Since ps (quota_seats ps) (share_of H) H s
      found = since ok (method_serves H) (share_parts H (omega arith)) H (le_refl H)

      s : ℕ
      s = found.0

      then : ℕ → ℕ
      then j = get_or (quota_seats ps s) j 0

      kept : (j : ℕ) → then j ≤ at_end j
      kept j = never_lost ok (method_serves H) s H j found.1.within (le_refl H)

      -- A state preferred at s was not able then.
      unable : (j : ℕ) → j < length ps → (b : ℕ) → then j ≤ b → share_of H j b ≡ true → get_or ps j 0 * s ≤ then j * sum ps
      unable j hj b l e =
          found.1.not_able j hj (preferred_before (share_parts H (omega arith)) j (then j) b hj l e)

      -- So since s no state has gained more than its share of these seats.
      each : (j : ℕ) → j < length ps → at_end j * sum ps + get_or ps j 0 * s ≤ then j * sum ps + get_or ps j 0 * H
      each j hj = either_way (ltb (then j) (at_end j))
          (λ l.
          let more = ltb-true (then j) (at_end j) l in
          let e = found.1.met j hj more in
          let last : at_end j - 1 + 1 ≡ at_end j = omega (arith, more) in
          let share : at_end j * sum ps ≤ get_or ps j 0 * H
          = rw last at (leb-true ((at_end j - 1 + 1) * sum ps) (get_or ps j 0 * H) e) in
          omega (arith, share, unable j hj (at_end j - 1) (omega (arith, more)) e))
          (λ l.
          let same : at_end j ≡ then j = omega (arith, ltb-false (then j) (at_end j) l, kept j) in
          rw same (omega (arith, mul-le-mul_left (get_or ps j 0) found.1.within)))

      too_few : share_of H i (at_end i) ≡ true → ⊥
      too_few e =
          let share : (at_end i + 1) * sum ps ≤ get_or ps i 0 * H = leb-true _ _ e in
          let less_here : at_end i * sum ps + get_or ps i 0 * s < then i * sum ps + get_or ps i 0 * H
          = omega (arith, share, unable i hi (at_end i) (kept i) e, someone ok, add-mul (at_end i) 1 (sum ps)) in
          let sums = sum-list_of_less (λ (j : ℕ). at_end j * sum ps + get_or ps j 0 * s) (λ (j : ℕ). then j * sum ps + get_or ps j 0 * H)
          (length ps) each i hi less_here in
          let left = sum_of_both ps (quota_seats ps H) (sum ps) s (quota_long H) in
          let right = sum_of_both ps (quota_seats ps s) (sum ps) H (quota_long s) in
          let left_sum : sum (quota_seats ps H) * sum ps ≡ H * sum ps = rw (quota_sum H) in
          let right_sum : sum (quota_seats ps s) * sum ps ≡ s * sum ps = rw (quota_sum s) in
          omega (arith, sums, left, right, left_sum, right_sum, mul_comm H (sum ps), mul_comm s (sum ps))

  -- After every seat h, every state has its quota.
  pub quota_kept : (h i : ℕ) → i < length ps → WithinQuota (get_or ps i 0) (sum ps) h (get_or (quota_seats ps h) i 0)
  quota_kept h i hi = record {
    not_below =
        let low : get_or ps i 0 * h / sum ps < get_or (quota_seats ps h) i 0 + 1
        = (div-lt_iff_lt-mul (someone ok)).1 (above_last h i hi) in
        omega (arith, low);
    not_above = (le-div_iff_mul-le (someone ok)).1 (reaches (get_or (quota_seats ps h) i 0) (below_next h i));
  }
    where
      reaches : (a : ℕ) → (0 < a → (a - 1) * sum ps < get_or ps i 0 * h) → a * sum ps ≤ get_or ps i 0 * h + (sum ps - 1)
      reaches zero last = omega arith
      reaches (suc a) last =
          let before : (suc a - 1) * sum ps ≡ a * sum ps = rw (one_less a) in
          omega (arith, last (omega arith), before, suc-mul a (sum ps), someone ok)
        where
          one_less : (a : ℕ) → suc a - 1 ≡ a
          one_less a = omega arith

-- Seats given by turns are best in the end, whatever they started from, where they kept pace with the numbers; so the method's own are.
-- Assumes nothing.
use Rattle.std.specs.Prelude.{◌≡◌, ◌⊎◌, Bool, true, false, not, List, ltb}
use Rattle.std.proofs.Common.{sym, ◌∙◌, mul-le-mul_right, le_refl, le_trans, le_of_lt, le-div_iff_mul-le}
use Rattle.std.proofs.lemmas.Bool.{false≢true}
use Prim.Native.Nat.{ℕ, zero, suc, ◌+◌, ◌-◌, ◌*◌, ◌/◌, ◌<◌, ◌≤◌}
use native.Mathlib.Omega.{arith}
use Rattle.std.proofs.Math.ListN.{length, get_or}
use borrow.Author.Tests.{ltb-true, ltb-false}
use Rattle.apportionment.specs.Lists.{sum}
use Rattle.apportionment.specs.Remainders.{whole_part}
use Rattle.apportionment.specs.Quota.{quota_seats}
use Rattle.apportionment.specs.inner.Tests.{either_way}
use Rattle.apportionment.specs.inner.Lists.{sum-list_of_at_most, sum-list_of_zero}
use Rattle.claims.specs.inner.Order.{ClaimOrder, comes}
use Rattle.claims.specs.inner.StandingOrder.{comes_order, comes_otherwise, claims_irreflexive, claims_trans, no_later_before}
use Rattle.quota.specs.inner.Turns.{quotient_test, quotient_order}
use Rattle.quota.specs.inner.Serving.{Peopled, Given, Serving, Parting, Since, never_lost, gained_able, preferred_before, since}
use Rattle.quota.specs.inner.Serving.{serving_long}
use Rattle.quota.specs.inner.Released.{released, released_all, released_none, released_grows, released_all_lem, released_stops}
use Rattle.quota.specs.inner.Best.{NoRoom, Best}
use Rattle.quota.specs.inner.Sums.{sums_beside}
use Rattle.quota.specs.inner.Quota.{someone, quota_sum, method_serves, nobody_first, below_next, quota_kept}

-- Seats that keep pace: after number s there are as many more than at the start as could not have been there by then, or more; and no more
-- where the seat of that number was given. At the house there are as many as it has, near each state's share.
pub record KeepsPace (ps : List ℕ) (x : ℕ → List ℕ) (H : ℕ) : Type 0 where
  pub starts : (i : ℕ) → i < length ps → get_or (x 0) i 0 ≤ whole_part ps H i
  pub ahead : (s : ℕ) → s ≤ H → s + sum (x 0) ≤ sum (x s) + released_all ps (x 0) s
  pub exact : (s : ℕ) → s ≤ H → (s ≡ 0) ⊎ ((r : ℕ) × (s ≡ suc r) × Given ps x r) → sum (x s) + released_all ps (x 0) s ≤ s + sum (x 0)
  pub whole : sum (x H) ≡ H
  pub not_below : (i : ℕ) → i < length ps → whole_part ps H i ≤ get_or (x H) i 0
  pub not_above : (i : ℕ) → i < length ps → get_or (x H) i 0 ≤ whole_part ps H i + 1

-- ---- the claims that do not come after one

module _ {ps : List ℕ} (ok : Peopled ps) (c b : ℕ) (hc : c < length ps) where
  abbrev not_after : ℕ → ℕ → Bool
  not_after i a = not (comes (quotient_test ps) c b i a)

  not_after_true : (i a : ℕ) → not_after i a ≡ true → comes (quotient_test ps) c b i a ≡ false
  not_after_true i a e = either_way (comes (quotient_test ps) c b i a) (λ t. absurd (false≢true (rw t at e))) (λ t. t)

  not_after_false : (i a : ℕ) → not_after i a ≡ false → comes (quotient_test ps) c b i a ≡ true
  not_after_false i a e = either_way (comes (quotient_test ps) c b i a) (λ t. t) (λ t. absurd (false≢true (sym (rw t at e))))

  not_after_itself : not_after c b ≡ true
  not_after_itself =
      let order = comes_order (length ps) (λ _. 0) (quotient_test ps) (quotient_order ps ok.people) in
      let itself : comes (quotient_test ps) c b c b ≡ false
      = claims_irreflexive (length ps) (λ _. 0) (comes (quotient_test ps)) order (c, b, hc, omega arith) in
      rw itself

  not_after_parts : Parting ps not_after
  not_after_parts =
      record {
        falls = λ i a hi e.
            either_way (comes (quotient_test ps) c b i a)
            (λ t. absurd (false≢true (sym (not_after_true i (suc a) e)
            ∙ claims_trans (length ps) (λ _. 0) (comes (quotient_test ps)) order (c, b, hc, omega arith) (i, a, hi, omega arith)
            (i, suc a, hi, omega arith) t (order.rises i a hi (omega arith)))))
            (λ t. rw t);
        parts = λ i a j k hi hj e f.
            no_later_before (length ps) (λ _. 0) (comes (quotient_test ps)) order (i, a, hi, omega arith) (c, b, hc, omega arith)
            (j, k, hj, omega arith) (not_after_true i a e) (not_after_false j k f);
      }
    where
      order : ClaimOrder (length ps) (λ _. 0) (comes (quotient_test ps))
      order = comes_order (length ps) (λ _. 0) (quotient_test ps) (quotient_order ps ok.people)

-- ---- best in the end

module _ {ps : List ℕ} (ok : Peopled ps) {x : ℕ → List ℕ} {H : ℕ} (run : Serving ps x H) (pace : KeepsPace ps x H) where
  abbrev out : (t s i : ℕ) → ℕ
  out t s i = released (get_or ps i 0) (sum ps) (get_or (x t) i 0) s

  -- Since the start, all seats that a state gained by number s are ones that it was able to have by then.
  by_then : (s : ℕ) → s ≤ H → (i : ℕ) → get_or (x s) i 0 + out 0 s i ≡ get_or (x 0) i 0 + out s s i
  by_then s h i = released_all_lem (get_or ps i 0) (sum ps) s (get_or (x 0) i 0) (get_or (x s) i 0)
      (never_lost ok run 0 s i (omega arith) h) (gained_able ok run s h i)

  -- Seats at the house, with those of the start that could be had by number s, against those at s.
  pub out_by : (s : ℕ) → s ≤ H → sum (x s) + released_all ps (x 0) s ≤ sum (x 0) + released_all ps (x H) s
  unfolding released_all
  out_by s h = sums_beside (length ps) (x s) (x 0) (out 0 s) (out H s) (serving_long ok run s h) run.states
      (λ i hi.
      let more = released_grows (get_or ps i 0) (sum ps) s (get_or (x s) i 0) (get_or (x H) i 0) (never_lost ok run s H i h (le_refl H)) in
      omega (arith, by_then s h i, more))

  -- Since number s only claims that were not able then were met, so those at the house that could be had by s were there at s.
  none_since : {q : ℕ → ℕ → Bool} → Parting ps q → (s : ℕ) → Since ps x q H s
      → sum (x 0) + released_all ps (x H) s ≤ sum (x s) + released_all ps (x 0) s
  unfolding released_all
  none_since {q} p s so = sums_beside (length ps) (x 0) (x s) (out H s) (out 0 s) run.states (serving_long ok run s so.within)
      (λ i hi. omega (arith, by_then s so.within i, same i hi))
    where
      same : (i : ℕ) → i < length ps → out H s i ≡ out s s i
      same i hi =
          let kept = never_lost ok run s H i so.within (le_refl H) in
          either_way (ltb (get_or (x s) i 0) (get_or (x H) i 0))
          (λ e.
          let more = ltb-true (get_or (x s) i 0) (get_or (x H) i 0) e in
          let was = preferred_before p i (get_or (x s) i 0) (get_or (x H) i 0 - 1) hi (omega (arith, more)) (so.met i hi more) in
          released_stops (get_or ps i 0) (sum ps) s (get_or (x s) i 0) (get_or (x H) i 0) kept (so.not_able i hi was))
          (λ e.
          let equal : get_or (x H) i 0 ≡ get_or (x s) i 0 = omega (arith, ltb-false (get_or (x s) i 0) (get_or (x H) i 0) e, kept) in
          rw equal)

  no_room : (c : ℕ) → c < length ps → get_or (x H) c 0 ≡ whole_part ps H c → (s : ℕ) × NoRoom ps H (x H) c s
  no_room c hc stays = (
    s,
    record {
      within = so.within;
      full = omega (arith, none_since parting s so, pace.exact s so.within so.started);
      not_yet = le_trans (so.not_able c hc preferred) (mul-le-mul_right (sum ps) (omega (arith, stays, kept c)));
      before = before;
    },
  )
    where
      parting : Parting ps (not_after ok c (whole_part ps H c) hc)
      parting = not_after_parts ok c (whole_part ps H c) hc

      found : (s : ℕ) × Since ps x (not_after ok c (whole_part ps H c) hc) H s
      found = since ok run parting H (le_refl H)

      s : ℕ
      s = found.0

      so : Since ps x (not_after ok c (whole_part ps H c) hc) H s
      so = found.1

      kept : (i : ℕ) → get_or (x s) i 0 ≤ get_or (x H) i 0
      kept i = never_lost ok run s H i so.within (le_refl H)

      preferred : not_after ok c (whole_part ps H c) hc c (get_or (x s) c 0) ≡ true
      preferred = preferred_before parting c (get_or (x s) c 0) (whole_part ps H c) hc (omega (arith, stays, kept c))
          (not_after_itself ok c (whole_part ps H c) hc)

      before : (i : ℕ) → i < length ps → whole_part ps H i < get_or (x H) i 0 → get_or ps i 0 * s ≤ whole_part ps H i * sum ps
          → comes (quotient_test ps) i (whole_part ps H i) c (whole_part ps H c) ≡ true
      before i hi more late =
          comes_otherwise (quotient_test ps) c (whole_part ps H c) i (whole_part ps H i)
          (not_after_true ok c (whole_part ps H c) hc i (whole_part ps H i) (rw last at (so.met i hi gained)))
          (λ e. omega (arith, more, rw e at stays))
        where
          last : get_or (x H) i 0 - 1 ≡ whole_part ps H i
          last = omega (arith, more, pace.not_above i hi)

          gained : get_or (x s) i 0 < get_or (x H) i 0
          gained = either_way (ltb (whole_part ps H i) (get_or (x s) i 0))
              (λ e.
              let there = ltb-true (whole_part ps H i) (get_or (x s) i 0) e in
              let had = gained_able ok run s so.within i (omega (arith, there, pace.starts i hi)) in
              let no_less : whole_part ps H i * sum ps ≤ (get_or (x s) i 0 - 1) * sum ps =
              mul-le-mul_right (sum ps) (omega (arith, there)) in
              absurd (omega (arith, had, no_less, late)))
              (λ e. omega (arith, more, ltb-false (whole_part ps H i) (get_or (x s) i 0) e))

  pub serving_best : Best ps H (x H)
  serving_best = record {
    states = serving_long ok run H (le_refl H);
    whole = pace.whole;
    not_below = pace.not_below;
    not_above = pace.not_above;
    in_time = λ i hi more.
        let last : get_or (x H) i 0 - 1 ≡ whole_part ps H i = omega (arith, more, pace.not_above i hi) in
        rw last at (gained_able ok run H (le_refl H) i (omega (arith, more, pace.starts i hi)));
    enough = λ s h. omega (arith, out_by s h, pace.ahead s h);
    kept = λ c hc stays _. no_room c hc stays;
  }

-- ---- the method's own seats

module _ {ps : List ℕ} (ok : Peopled ps) (H : ℕ) where
  none_out : (s : ℕ) → released_all ps (quota_seats ps 0) s ≡ 0
  unfolding released_all
  none_out s =
      let none = sum-list_of_at_most (λ (i : ℕ). released (get_or ps i 0) (sum ps) (get_or (quota_seats ps 0) i 0) s) (λ _. 0) (length ps)
      (λ i hi. rw (nobody_first ok i, released_none (get_or ps i 0) (sum ps) s) (omega arith)) in
      omega (arith, none, sum-list_of_zero (length ps))

  one_above : (i a : ℕ) → (0 < a → (a - 1) * sum ps < get_or ps i 0 * H) → a ≤ whole_part ps H i + 1
  unfolding whole_part
  one_above i zero last = omega arith
  one_above i (suc a) last =
      let one_less : suc a - 1 ≡ a = omega arith in
      let part : a ≤ get_or ps i 0 * H / sum ps = (le-div_iff_mul-le (someone ok)).1 (le_of_lt (rw one_less at (last (omega arith)))) in
      omega (arith, part)

  method_keeps_pace : KeepsPace ps (quota_seats ps) H
  unfolding whole_part
  method_keeps_pace = record {
    starts = λ i hi. rw (nobody_first ok i) (omega arith);
    ahead = λ s h. omega (arith, quota_sum ok s, quota_sum ok 0);
    exact = λ s h _. omega (arith, quota_sum ok s, quota_sum ok 0, none_out s);
    whole = quota_sum ok H;
    not_below = λ i hi. (quota_kept ok H i hi).not_below;
    not_above = λ i hi. one_above i (get_or (quota_seats ps H) i 0) (below_next ok H i);
  }

  pub method_best : Best ps H (quota_seats ps H)
  method_best = serving_best ok (method_serves ok H) method_keeps_pace

-- The seats beyond the whole parts, given by turns. Each state starts from the whole part of its share. At each number the seats of whole
-- parts that can be had by then go first; only where none of these waits is the number's seat given by turns, to a state beyond its whole
-- part. The seats at the house are the method's own, since both are best.
-- Assumes nothing.
use Rattle.std.specs.Prelude.{◌≡◌, ◌⊎◌, true, false, cond, List, ltb, eqb, length}
use Rattle.std.proofs.Math.Path.{refl}
use Rattle.std.proofs.Common.{sym, ap, ◌∙◌, inl, inr, mul-le-mul_left, mul-lt-mul_of_pos_right, le_refl, le_of_lt, le-div_iff_mul-le}
use Rattle.std.proofs.lemmas.Bool.{false≢true}
use Prim.Native.Nat.{ℕ, zero, suc, ◌+◌, ◌-◌, ◌*◌, ◌<◌, ◌≤◌}
use Rattle.std.proofs.Math.Nat.{lt_of_lt_of_le, add-mul, suc-mul, mul_comm, div-mul-le_self}
use native.Mathlib.Omega.{arith}
use Rattle.std.proofs.Math.ListN.{get_or}
use borrow.Author.Tests.{ltb-true, ltb-false, eqb-true, eqb-false, eq-eqb, ne_eqb}
use Rattle.apportionment.specs.Lists.{sum, list_of}
use Rattle.apportionment.specs.Divisor.{one_more}
use Rattle.apportionment.specs.Remainders.{whole_part}
use Rattle.apportionment.specs.Quota.{able, seat_goes_to, quota_seats}
use Rattle.apportionment.specs.inner.Tests.{either_way}
use Rattle.apportionment.specs.inner.Lists.{length-list_of, get_d_list_of, sum-list_of_times, sum-list_of_at_most, sum-list_of_zero}
use Rattle.apportionment.specs.inner.WholeParts.{whole_parts}
use Rattle.claims.specs.inner.StandingMoves.{length-one_more, sum-one_more}
use Rattle.quota.specs.inner.Sums.{sums_beside, sum_of_places, sum_beside, sum_of_both}
use Rattle.quota.specs.inner.Serving.{Peopled, Given, Serving, seat_lt, seat_able, able_false, never_lost, gained_able}
use Rattle.quota.specs.inner.Released.{released, released_all, released_none, released_within, released_step, released_all_lem}
use Rattle.quota.specs.inner.Released.{released_share, released_later, released_stops}
use Rattle.quota.specs.inner.Quota.{someone}
use Rattle.quota.specs.inner.Best.{Best, best_unique}
use Rattle.quota.specs.inner.Served.{KeepsPace, serving_best, method_best}

-- The seats of whole parts that can be had by number t, and those that can be had from it on.
unfoldable pub ready_by : (ps : List ℕ) (H t : ℕ) → ℕ
ready_by ps H t = released_all ps (whole_parts ps H) t

unfoldable pub due_at : (ps : List ℕ) (H t : ℕ) → ℕ
due_at ps H zero = 0
due_at ps H (suc t) = ready_by ps H (suc t) - ready_by ps H t

-- How many of them wait once number t is past: one goes at each number.
unfoldable pub waiting_at : (ps : List ℕ) (H t : ℕ) → ℕ
waiting_at ps H zero = 0
waiting_at ps H (suc t) = waiting_at ps H t + due_at ps H (suc t) - 1

-- The seats once number t is past.
unfoldable pub seats_at : (ps : List ℕ) (H t : ℕ) → List ℕ
seats_at ps H zero = whole_parts ps H
seats_at ps H (suc t) =
    let before = seats_at ps H t in
    cond (eqb (waiting_at ps H t + due_at ps H (suc t)) 0) (one_more before (seat_goes_to ps (suc t) before)) before

module _ {ps : List ℕ} (ok : Peopled ps) (H : ℕ) where
  abbrev pub n : ℕ
  n = length ps

  abbrev pub P : ℕ
  P = sum ps

  -- ---- one number more

  -- The seats of whole parts that could go at the number after t.
  abbrev pub queue : ℕ → ℕ
  queue t = waiting_at ps H t + due_at ps H (suc t)

  pub ready_grows : (t : ℕ) → ready_by ps H t + due_at ps H (suc t) ≡ ready_by ps H (suc t)
  unfolding due_at ready_by released_all
  ready_grows t =
      let grows = sum-list_of_at_most (λ (i : ℕ). released (get_or ps i 0) P (get_or (whole_parts ps H) i 0) t)
      (λ (i : ℕ). released (get_or ps i 0) P (get_or (whole_parts ps H) i 0) (suc t)) n
      (λ i hi. released_later (get_or ps i 0) P (get_or (whole_parts ps H) i 0) t (suc t) (omega arith)) in
      omega (arith, grows)

  -- Where a seat of a whole part waits, it goes; otherwise a seat goes by turns.
  pub goes_first : (t : ℕ) → 0 < queue t → seats_at ps H (suc t) ≡ seats_at ps H t
  unfolding seats_at
  goes_first t h = rw (ne_eqb (queue t) 0 (λ e. omega (arith, e, h)))

  pub goes_by_turn : (t : ℕ) → queue t ≡ 0
      → seats_at ps H (suc t) ≡ one_more (seats_at ps H t) (seat_goes_to ps (suc t) (seats_at ps H t))
  unfolding seats_at
  goes_by_turn t e = rw (eq-eqb (queue t) 0 e)

  pub waiting_next : (t : ℕ) → waiting_at ps H (suc t) ≡ queue t - 1
  unfolding waiting_at
  waiting_next t = refl

  pub seats_long_lem : (t : ℕ) → length (seats_at ps H t) ≡ n
  unfolding seats_at
  seats_long_lem zero = length-list_of (whole_part ps H) n
  seats_long_lem (suc t) = either_way (eqb (queue t) 0)
      (λ e. rw e (length-one_more (seats_at ps H t) _ ∙ seats_long_lem t)) (λ e. rw e (seats_long_lem t))

  at_start : (i : ℕ) → i < n → get_or (seats_at ps H 0) i 0 ≡ whole_part ps H i
  unfolding seats_at
  at_start i hi = get_d_list_of (whole_part ps H) n i hi

  -- ---- seats keep pace with the numbers

  abbrev pub wholes : ℕ
  wholes = sum (whole_parts ps H)

  none_ready : ready_by ps H 0 ≡ 0
  unfolding ready_by released_all
  none_ready = omega (
    arith,
    sum-list_of_at_most (λ (i : ℕ). released (get_or ps i 0) P (get_or (whole_parts ps H) i 0) 0) (λ _. 0) n
        (λ i hi. none i),
    sum-list_of_zero n,
  )
    where
      none : (i : ℕ) → released (get_or ps i 0) P (get_or (whole_parts ps H) i 0) 0 ≤ 0
      none i =
          omega (
            arith,
            released_stops (get_or ps i 0) P 0 0 (get_or (whole_parts ps H) i 0) (omega arith) (omega arith),
            released_none (get_or ps i 0) P 0,
          )

  balance_at_start : sum (seats_at ps H 0) + ready_by ps H 0 ≡ 0 + waiting_at ps H 0 + wholes
  unfolding seats_at waiting_at
  balance_at_start = omega (arith, none_ready)

  pub in_balance : (t : ℕ) → sum (seats_at ps H t) + ready_by ps H t ≡ t + waiting_at ps H t + wholes
  in_balance zero = balance_at_start
  in_balance (suc t) = either_way (eqb (queue t) 0)
      (λ e.
      let idle = eqb-true (queue t) 0 e in
      let turn = sum-one_more (seats_at ps H t) (seat_goes_to ps (suc t) (seats_at ps H t))
      (rw (seats_long_lem t) (seat_lt ok (suc t) (seats_at ps H t))) in
      rw (goes_by_turn t idle) (omega (arith, turn, waiting_next t, in_balance t, ready_grows t, idle)))
      (λ e.
      let busy : 0 < queue t = omega (arith, eqb-false (queue t) 0 e) in
      rw (goes_first t busy) (omega (arith, waiting_next t, in_balance t, ready_grows t, busy)))

  -- ---- some state is able where a seat goes by turns

  module _ (t : ℕ) (run : Serving ps (seats_at ps H) t) where
    abbrev now_has : ℕ → ℕ
    now_has i = get_or (seats_at ps H t) i 0

    abbrev part : ℕ → ℕ
    part i = get_or (whole_parts ps H) i 0

    -- If every state had its share of the next number's seats, what is ready and what was given would make up all these seats.
    each_share : ((i : ℕ) → i < n → get_or ps i 0 * suc t ≤ now_has i * P) → (i : ℕ) → i < n
        → part i * P + get_or ps i 0 * suc t ≤ (now_has i + released (get_or ps i 0) P (part i) (suc t)) * P
    unfolding seats_at
    each_share share i hi =
        let kept : part i ≤ now_has i = never_lost ok run 0 t i (omega arith) (le_refl t) in
        let last : part i < now_has i → (now_has i - 1) * P < get_or ps i 0 * suc t
        = λ more. lt_of_lt_of_le (gained_able ok run t (le_refl t) i more) (mul-le-mul_left (get_or ps i 0) (omega arith)) in
        let all = released_all_lem (get_or ps i 0) P (suc t) (part i) (now_has i) kept last in
        let made = released_share (get_or ps i 0) P (suc t) (now_has i) (share i hi) in
        rw all (omega (arith, made, add-mul (part i) (released (get_or ps i 0) P (now_has i) (suc t)) P))

    not_all_served : queue t ≡ 0 → ((i : ℕ) → i < n → get_or ps i 0 * suc t ≤ now_has i * P) → ⊥
    unfolding ready_by released_all
    not_all_served idle share =
        let out : ℕ → ℕ = λ (i : ℕ). released (get_or ps i 0) P (part i) (suc t) in
        let all = sum-list_of_at_most (λ (i : ℕ). part i * P + get_or ps i 0 * suc t) (λ (i : ℕ). (now_has i + out i) * P) n
        (each_share share) in
        let left = sum_of_both ps (whole_parts ps H) P (suc t) (length-list_of (whole_part ps H) n) in
        let right = sum-list_of_times (λ (i : ℕ). now_has i + out i) P n in
        let given : sum (list_of (λ (i : ℕ). now_has i + out i) n) ≡ t + wholes
        = sum_beside n (seats_at ps H t) out (seats_long_lem t) ∙ omega (arith, in_balance t, ready_grows t, idle) in
        let product : sum (list_of (λ (i : ℕ). now_has i + out i) n) * P ≡ (t + wholes) * P = rw given in
        omega (arith, all, left, right, product, add-mul t wholes P, suc-mul t P, mul_comm P (suc t), someone ok)

    pub able_in_turn : queue t ≡ 0
        → able ps (suc t) (seats_at ps H t) (seat_goes_to ps (suc t) (seats_at ps H t)) ≡ true
    able_in_turn idle =
        either_way (able ps (suc t) xs (seat_goes_to ps (suc t) xs)) (λ yes. yes) (λ none. absurd (not_all_served idle (unable none)))
      where
        xs : List ℕ
        xs = seats_at ps H t

        unable : able ps (suc t) xs (seat_goes_to ps (suc t) xs) ≡ false → (i : ℕ) → i < n → get_or ps i 0 * suc t ≤ get_or xs i 0 * P
        unable none i hi = either_way (able ps (suc t) xs i)
            (λ one. absurd (false≢true (sym none ∙ seat_able ok (suc t) xs i hi one))) (λ not. able_false ps (suc t) xs i not)

    step_at : (seats_at ps H (suc t) ≡ seats_at ps H t) ⊎ Given ps (seats_at ps H) t
    step_at = either_way (eqb (queue t) 0)
        (λ e. inr (record { is_able = able_in_turn (eqb-true (queue t) 0 e); seats = goes_by_turn t (eqb-true (queue t) 0 e) }))
        (λ e. inl (goes_first t (omega (arith, eqb-false (queue t) 0 e))))

  pub rounds_serve : (T : ℕ) → Serving ps (seats_at ps H) T
  rounds_serve zero = record { states = seats_long_lem 0; step = λ t h. absurd (omega (arith, h)) }
  rounds_serve (suc T) =
      record {
        states = seats_long_lem 0;
        step = λ t h. either_way (ltb t T)
            (λ e. (rounds_serve T).step t (ltb-true t T e))
            (λ e. let last : t ≡ T = omega (arith, ltb-false t T e, h) in rw last (step_at T (rounds_serve T)));
      }

  -- ---- all whole parts are served by the house

  ready_within : (t : ℕ) → ready_by ps H t ≤ wholes
  unfolding ready_by released_all
  ready_within t =
      omega (
        arith,
        sum-list_of_at_most (λ (i : ℕ). released (get_or ps i 0) P (get_or (whole_parts ps H) i 0) t)
            (λ (i : ℕ). get_or (whole_parts ps H) i 0) n
            (λ i hi. released_within (get_or ps i 0) P t (get_or (whole_parts ps H) i 0)),
        sum_of_places n (whole_parts ps H) (length-list_of (whole_part ps H) n),
      )

  within_share : (i : ℕ) → whole_part ps H i * P ≤ get_or ps i 0 * H
  unfolding whole_part
  within_share i = div-mul-le_self (get_or ps i 0 * H) P

  all_ready : wholes ≤ ready_by ps H H
  unfolding ready_by released_all
  all_ready =
      omega (
        arith,
        sum-list_of_at_most (λ (i : ℕ). get_or (whole_parts ps H) i 0)
            (λ (i : ℕ). released (get_or ps i 0) P (get_or (whole_parts ps H) i 0) H) n
            each,
        sum_of_places n (whole_parts ps H) (length-list_of (whole_part ps H) n),
      )
    where
      each : (i : ℕ) → i < n → get_or (whole_parts ps H) i 0 ≤ released (get_or ps i 0) P (get_or (whole_parts ps H) i 0) H
      each i hi =
          rw (get_d_list_of (whole_part ps H) n i hi)
          (omega (
            arith,
            released_all_lem (get_or ps i 0) P H 0 (whole_part ps H i) (omega arith) (last (whole_part ps H i) (within_share i)),
            released_none (get_or ps i 0) P H,
          ))
        where
          last : (m : ℕ) → m * P ≤ get_or ps i 0 * H → 0 < m → (m - 1) * P < get_or ps i 0 * H
          last m share some = lt_of_lt_of_le (mul-lt-mul_of_pos_right (omega (arith, some)) (someone ok)) share

  -- The method itself has all whole parts among its seats, so they were never behind.
  never_behind : (s : ℕ) → s ≤ H → wholes + s ≤ H + ready_by ps H s
  unfolding ready_by released_all
  never_behind s h =
      let own : Best ps H (quota_seats ps H) = method_best ok H in
      omega (
        arith,
        sums_beside n (whole_parts ps H) (quota_seats ps H) (λ (i : ℕ). released (get_or ps i 0) P (get_or (quota_seats ps H) i 0) s)
            (λ (i : ℕ). released (get_or ps i 0) P (get_or (whole_parts ps H) i 0) s) (length-list_of (whole_part ps H) n) own.states
            (λ i hi. rw (get_d_list_of (whole_part ps H) n i hi)
            (beside i (get_or (quota_seats ps H) i 0) (whole_part ps H i) (own.not_below i hi) (own.not_above i hi))),
        own.whole,
        own.enough s h,
      )
    where
      beside : (i a m : ℕ) → m ≤ a → a ≤ m + 1 → m + released (get_or ps i 0) P a s ≤ a + released (get_or ps i 0) P m s
      beside i a m low high = either_way (eqb a m)
          (λ e. rw (eqb-true a m e) (omega arith))
          (λ e.
          let more : a ≡ m + 1 = omega (arith, eqb-false a m e) in
          rw more (omega (arith, released_step (get_or ps i 0) P s m)))

  within_at_start : waiting_at ps H 0 + wholes + 0 ≤ ready_by ps H 0 + H
  unfolding waiting_at
  within_at_start = omega (arith, never_behind 0 (omega arith))

  waiting_within : (t : ℕ) → t ≤ H → waiting_at ps H t + wholes + t ≤ ready_by ps H t + H
  waiting_within zero h = within_at_start
  waiting_within (suc t) h = either_way (eqb (queue t) 0)
      (λ e. omega (arith, eqb-true (queue t) 0 e, waiting_next t, never_behind (suc t) h))
      (λ e. omega (arith, eqb-false (queue t) 0 e, waiting_next t, waiting_within t (omega arith), ready_grows t))

  -- Every number on the way is within bounds.
  pub seats_within_lem : (t : ℕ) → t ≤ H → sum (seats_at ps H t) ≤ H
  seats_within_lem t h = omega (arith, in_balance t, waiting_within t h)

  pub queue_within : (t : ℕ) → t < H → queue t ≤ 2 * H
  queue_within t h =
      omega (
        arith,
        waiting_within t (omega (arith, h)),
        ready_within t,
        ready_within (suc t),
        ready_grows t,
        never_behind 0 (omega arith),
        none_ready,
      )

  none_waits : waiting_at ps H H ≡ 0
  none_waits = omega (arith, waiting_within H (le_refl H), ready_within H)

  -- ---- the same seats

  ahead : (s : ℕ) → s + sum (seats_at ps H 0) ≤ sum (seats_at ps H s) + released_all ps (seats_at ps H 0) s
  unfolding ready_by seats_at
  ahead s = omega (arith, in_balance s)

  none_left : (r : ℕ) → Given ps (seats_at ps H) r → waiting_at ps H (suc r) ≡ 0
  none_left r given = either_way (eqb (queue r) 0)
      (λ e. omega (arith, eqb-true (queue r) 0 e, waiting_next r))
      (λ e.
      let same = goes_first r (omega (arith, eqb-false (queue r) 0 e)) in
      let turn = sum-one_more (seats_at ps H r) (seat_goes_to ps (suc r) (seats_at ps H r))
      (rw (seats_long_lem r) (seat_lt ok (suc r) (seats_at ps H r))) in
      absurd (omega (arith, turn, ap sum (sym same ∙ given.seats))))

  exact : (s : ℕ) → (s ≡ 0) ⊎ ((r : ℕ) × (s ≡ suc r) × Given ps (seats_at ps H) r)
      → sum (seats_at ps H s) + released_all ps (seats_at ps H 0) s ≤ s + sum (seats_at ps H 0)
  unfolding ready_by seats_at waiting_at
  exact s (inl e) = rw e (omega (arith, in_balance 0))
  exact s (inr g) = rw g.1 (omega (arith, in_balance (suc g.0), none_left g.0 g.2))

  part_of : (i a : ℕ) → a * P ≤ get_or ps i 0 * H → a ≤ whole_part ps H i
  unfolding whole_part
  part_of i a h = (le-div_iff_mul-le (someone ok)).1 h

  at_most_lem : (i : ℕ) → i < n → get_or (seats_at ps H H) i 0 ≤ whole_part ps H i + 1
  at_most_lem i hi = either_way (ltb (whole_part ps H i) (get_or (seats_at ps H H) i 0))
      (λ e.
      let more = ltb-true (whole_part ps H i) (get_or (seats_at ps H H) i 0) e in
      let had = gained_able ok (rounds_serve H) H (le_refl H) i (rw (at_start i hi) more) in
      omega (arith, more, part_of i (get_or (seats_at ps H H) i 0 - 1) (le_of_lt had)))
      (λ e. omega (arith, ltb-false (whole_part ps H i) (get_or (seats_at ps H H) i 0) e))

  rounds_keep_pace : KeepsPace ps (seats_at ps H) H
  rounds_keep_pace =
      record {
        starts = λ i hi. rw (at_start i hi) (omega arith);
        ahead = λ s h. ahead s;
        exact = λ s h. exact s;
        whole = omega (arith, in_balance H, all_ready, ready_within H, none_waits);
        not_below = λ i hi. rw (← (at_start i hi)) (never_lost ok (rounds_serve H) 0 H i (omega arith) (le_refl H));
        not_above = λ i hi. at_most_lem i hi;
      }

  -- What is so given is the quota method's allotment.
  pub rounds_are_quota : seats_at ps H H ≡ quota_seats ps H
  rounds_are_quota =
      best_unique ok (seats_at ps H H) (quota_seats ps H) (serving_best ok (rounds_serve H) rounds_keep_pace) (method_best ok H)

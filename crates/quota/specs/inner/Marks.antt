-- Counts of the seats of whole parts that are due from each number on, as the code keeps them.
-- Assumes nothing.
use Rattle.std.specs.Prelude.{◌≡◌, refl, true, false, cond, List, ℕ, zero, suc, ◌+◌, ◌*◌, ◌/◌, ◌<◌, ◌≤◌, ltb, length, get_or}
use Rattle.std.proofs.Common.{sym, ◌∙◌, ⊎_elim, mul_comm, mul-lt-mul_of_pos_right, lt_of_lt_of_le, div-lt_iff_lt-mul, le-div_iff_mul-le}
use Rattle.std.proofs.Common.{div-mul-le_self, add-zero, add-one, arith, lt-ltb, le-ltb, ltb-true, ltb-false}
use Rattle.apportionment.specs.Limits.{house_limit, sum_limit}
use Rattle.apportionment.specs.Lists.{sum, list_of}
use Rattle.apportionment.specs.Divisor.{one_more}
use Rattle.apportionment.specs.Remainders.{whole_part}
use Rattle.apportionment.specs.inner.Tests.{either_way}
use Rattle.apportionment.specs.inner.Lists.{sum-list_of_none, sum-list_of_more, sum-list_of_places, length-list_of, get_d_list_of}
use Rattle.apportionment.specs.inner.Problem.{Problem, sum_above_zero, entry_at_most_total}
use Rattle.apportionment.specs.inner.WholeParts.{whole_parts, whole_parts_within}
use Rattle.claims.specs.inner.StandingMoves.{length-one_more, at_one_more, sum-one_more}
use Rattle.quota.specs.inner.Released.{released, released_all, released_none, released_more}
use Rattle.quota.specs.inner.Rounds.{ready_by}

-- ---- counts

-- The counts at the places below t, added up.
abbrev pub counted_by : (due : List ℕ) (t : ℕ) → ℕ
counted_by due t = sum (list_of (λ (k : ℕ). get_or due k 0) t)

-- One more at place k is counted from k + 1 on.
pub counted_one_more : (due : List ℕ) (k : ℕ) → k < length due
    → (t : ℕ) → counted_by (one_more due k) t ≡ cond (ltb k t) 1 0 + counted_by due t
counted_one_more due k h zero =
    rw (sum-list_of_none (λ (j : ℕ). get_or (one_more due k) j 0), sum-list_of_none (λ (j : ℕ). get_or due j 0), le-ltb k 0 (omega arith))
counted_one_more due k h (suc t) =
    rw (← (add-one t))
    (⊎_elim
    (λ here.
    let at : ltb k t ≡ false = le-ltb k t (omega (arith, here.0)) in
    let past : ltb k (t + 1) ≡ true = lt-ltb k (t + 1) (omega (arith, here.0)) in
    rw past (omega (arith, both, here.1, rw at at (counted_one_more due k h t))))
    (λ there.
    let same : ltb k (t + 1) ≡ ltb k t = either_way (ltb k t)
    (λ e. rw e (lt-ltb k (t + 1) (omega (arith, ltb-true k t e))))
    (λ e. rw e (le-ltb k (t + 1) (omega (arith, ltb-false k t e, there.0)))) in
    rw same (omega (arith, both, there.1, counted_one_more due k h t)))
    (at_one_more due k t h))
  where
    both : (counted_by (one_more due k) (t + 1) ≡ counted_by (one_more due k) t + get_or (one_more due k) t 0)
        × (counted_by due (t + 1) ≡ counted_by due t + get_or due t 0)
    both = (sum-list_of_more (λ (j : ℕ). get_or (one_more due k) j 0) t, sum-list_of_more (λ (j : ℕ). get_or due j 0) t)

-- ---- the seats of one whole part

-- A state's whole part can be counted: each of its seats has a place, and no count grows past the house.
pub record Markable (p P seats : ℕ) (due : List ℕ) : Type 0 where
  pub someone : 0 < p
  pub some_sum : 0 < P
  pub sum_within : P ≤ sum_limit
  pub house_within : length due ≤ house_limit
  pub people : p ≤ P
  pub share : seats * P ≤ p * length due
  pub room : sum due + seats ≤ house_limit

-- The first m of its seats are counted.
pub record Marked (p P m : ℕ) (before after : List ℕ) : Type 0 where
  pub long : length after ≡ length before
  pub added : sum after ≡ sum before + m
  pub counted : (t : ℕ) → counted_by after t ≡ counted_by before t + released p P m t

-- The place of a seat is within the list.
pub place_within_lem : {p P seats : ℕ} {due : List ℕ} → Markable p P seats due → (a : ℕ) → a < seats → a * P / p < length due
place_within_lem {p} {P} {seats} {due} ok a h =
    (div-lt_iff_lt-mul ok.someone).1
    (rw (mul_comm (length due) p) (lt_of_lt_of_le (mul-lt-mul_of_pos_right h ok.some_sum) ok.share))

pub marked_none : (p P : ℕ) (due : List ℕ) → Marked p P 0 due due
marked_none p P due = record {
  long = refl;
  added = sym (add-zero (sum due));
  counted = λ t. rw (released_none p P t) (omega arith);
}

pub marked_more : {p P seats : ℕ} {before due : List ℕ} → Markable p P seats before → (a : ℕ) → a < seats → Marked p P a before due
    → Marked p P (a + 1) before (one_more due (a * P / p))
marked_more {p} {P} {seats} {before} {due} ok a h so_far =
    let place : a * P / p < length due = rw so_far.long (place_within_lem ok a h) in
    record {
      long = length-one_more due (a * P / p) ∙ so_far.long;
      added = sum-one_more due (a * P / p) place ∙ omega (arith, so_far.added);
      counted = λ t.
          let same : ltb (a * P / p) t ≡ ltb (a * P) (p * t) = either_way (ltb (a * P / p) t)
          (λ e. rw e (sym (lt-ltb (a * P) (p * t) (rw (mul_comm p t) ((div-lt_iff_lt-mul ok.someone).0 (ltb-true _ _ e))))))
          (λ e. rw e (sym (le-ltb (a * P) (p * t) (not_below_lem a t (ltb-false _ _ e))))) in
          omega (arith, rw same at (counted_one_more due (a * P / p) place t), so_far.counted t, released_more p P t a);
    }
  where
    not_below_lem : (a t : ℕ) → t ≤ a * P / p → p * t ≤ a * P
    not_below_lem a t l = rw (mul_comm p t) ((le-div_iff_mul-le ok.someone).0 l)

-- ---- the seats of all whole parts

-- A whole part, from a list and a total that were handed over.
module _ {ps : List ℕ} {P H : ℕ} (ok : Problem ps P H) {wholes : List ℕ} (are : wholes ≡ whole_parts ps H) (i : ℕ)
    (hi : i < length ps) where
  pub wholes_long : length wholes ≡ length ps
  wholes_long = rw are (length-list_of (whole_part ps H) (length ps))

  pub part_is : get_or wholes i 0 ≡ whole_part ps H i
  part_is = rw (are, get_d_list_of (whole_part ps H) (length ps) i hi)

  pub share_within : get_or wholes i 0 * P ≤ get_or ps i 0 * H
  unfolding whole_part
  share_within = rw (part_is, ok.states.sums) (div-mul-le_self (get_or ps i 0 * H) (sum ps))

-- The counts at the first t places are the seats of whole parts that can be had by number t.
pub record Ready (ps : List ℕ) (H : ℕ) (due : List ℕ) : Type 0 where
  pub long : length due ≡ H
  pub ready : (t : ℕ) → counted_by due t ≡ ready_by ps H t

-- Those of the first k states.
abbrev ready_of : (ps : List ℕ) (H t i : ℕ) → ℕ
ready_of ps H t i = released (get_or ps i 0) (sum ps) (get_or (whole_parts ps H) i 0) t

pub record MarkedTo (ps : List ℕ) (H k : ℕ) (due : List ℕ) : Type 0 where
  pub reached : k ≤ length ps
  pub long : length due ≡ H
  pub added : sum due ≡ sum (list_of (whole_part ps H) k)
  pub counted : (t : ℕ) → counted_by due t ≡ sum (list_of (ready_of ps H t) k)

pub marked_to_none : (ps : List ℕ) (due : List ℕ) → sum due ≡ 0 → MarkedTo ps (length due) 0 due
marked_to_none ps due none = record {
  reached = omega arith;
  long = refl;
  added = none ∙ sym (sum-list_of_none (whole_part ps (length due)));
  counted = λ t. omega (arith, sum-list_of_places due t, none, sum-list_of_none (ready_of ps (length due) t));
}

module _ {ps : List ℕ} {P H : ℕ} (ok : Problem ps P H) {wholes : List ℕ} (are : wholes ≡ whole_parts ps H) {k : ℕ} {due : List ℕ}
    (so_far : MarkedTo ps H k due) (hk : k < length ps) where
  pub markable_next : Markable (get_or ps k 0) P (get_or wholes k 0) due
  markable_next = record {
    someone = ok.states.peopled k hk;
    people = entry_at_most_total ok.states k;
    some_sum = sum_above_zero ok.states;
    sum_within = ok.states.sum_within;
    house_within = rw so_far.long ok.house_within;
    share = rw so_far.long (share_within ok are k hk);
    room = omega (
      arith,
      so_far.added,
      part_is ok are k hk,
      sum-list_of_more (whole_part ps H) k,
      whole_parts_within ok (k + 1),
      ok.house_within,
    );
  }

  pub marked_to_more : {after : List ℕ} → Marked (get_or ps k 0) P (get_or wholes k 0) due after → MarkedTo ps H (k + 1) after
  marked_to_more {after} m = record {
    reached = omega (arith, hk);
    long = m.long ∙ so_far.long;
    added = m.added ∙ omega (arith, so_far.added, part_is ok are k hk, sum-list_of_more (whole_part ps H) k);
    counted = λ t.
        let own : released (get_or ps k 0) P (get_or wholes k 0) t ≡ ready_of ps H t k = rw (are, ok.states.sums) in
        omega (arith, m.counted t, so_far.counted t, own, sum-list_of_more (ready_of ps H t) k);
  }

pub all_ready : {ps : List ℕ} {H k : ℕ} {due : List ℕ} → MarkedTo ps H k due → length ps ≤ k → Ready ps H due
unfolding ready_by released_all
all_ready {ps} {H} {k} {due} so_far end =
    let all : k ≡ length ps = omega (arith, so_far.reached, end) in
    record { long = so_far.long; ready = λ t. rw all at (so_far.counted t) }

-- Who has a seat that is left, told by a bar instead of by ranks: all who are above it, and of those at it the first, as
-- many as there are seats to spare. The code finds the bar by halving, with far fewer comparisons than ranks take.
-- Assumes nothing.
use Rattle.std.specs.Prelude.{◌≡◌, refl, Bool, cond, List, ltb, eqb, length}
use Rattle.std.proofs.Common.{sym, ◌∙◌, inl, inr, arith, add-one, zero-add, suc-add}
use Prim.Native.Nat.{ℕ, zero, suc, ◌+◌, ◌-◌, ◌≤◌, ◌<◌}
use Rattle.std.proofs.Math.ListN.{get_or}
use borrow.Author.Tests.{ltb-true, ltb-false, lt-ltb, le-ltb, eq-eqb, ne_eqb}
use Rattle.apportionment.specs.inner.Lists.{count_none}
use Rattle.apportionment.specs.inner.Tests.{cond_both, either_way}
use Rattle.bar.specs.inner.Reaching.{reaches, count_reached, count_passed_by, reaching, Counted, counted, falls, falls_between, Bar}
use Rattle.remainders.specs.inner.Precedence.{rank_in, extra_in, rank_in_parts}

-- ---- serving by the bar

-- The seat beyond its whole part of a state of precedence `own`, with `spare` seats for those at the bar.
unfoldable pub extra_by : (own bar spare : ℕ) → ℕ
extra_by own bar spare = cond (ltb bar own) 1 (cond (ltb own bar) 0 (cond (eqb spare 0) 0 1))

-- The seats to spare after it.
unfoldable pub spare_after : (own bar spare : ℕ) → ℕ
spare_after own bar spare = cond (eqb own bar) (spare - 1) spare

-- The seats to spare once the first k states are served.
unfoldable pub spare_at : (xs : List ℕ) (bar spare k : ℕ) → ℕ
spare_at xs bar spare zero = spare
spare_at xs bar spare (suc k) = spare_after (get_or xs k 0) bar (spare_at xs bar spare k)

pub spare_one_more : (xs : List ℕ) (bar spare k : ℕ) → spare_at xs bar spare (k + 1)
    ≡ spare_after (get_or xs k 0) bar (spare_at xs bar spare k)
unfolding spare_at
spare_one_more xs bar spare k = rw add-one

-- Above, at and below the bar.
served_above : (own bar spare : ℕ) → bar < own → (extra_by own bar spare ≡ 1) × (spare_after own bar spare ≡ spare)
unfolding extra_by spare_after
served_above own bar spare h = (simp (lt-ltb bar own h), simp (ne_eqb own bar (λ e. omega arith)))

served_at : (own bar spare : ℕ) → own ≡ bar
    → (extra_by own bar spare ≡ cond (eqb spare 0) 0 1) × (spare_after own bar spare ≡ spare - 1)
unfolding extra_by spare_after
served_at own bar spare e = (simp (le-ltb bar own (omega arith), le-ltb own bar (omega arith)), simp (eq-eqb own bar e))

served_below : (own bar spare : ℕ) → own < bar → (extra_by own bar spare ≡ 0) × (spare_after own bar spare ≡ spare)
unfolding extra_by spare_after
served_below own bar spare h =
    (simp (le-ltb bar own (omega arith), lt-ltb own bar h), simp (ne_eqb own bar (λ e. omega arith)))

-- Once no seat is to spare, none is for a later state.
none_after_none : (own bar : ℕ) → spare_after own bar 0 ≡ 0
unfolding spare_after
none_after_none own bar = cond_both (λ (x : ℕ). x ≡ 0) (eqb own bar) (0 - 1) 0 (λ e. omega arith) (λ e. refl)

pub no_more_to_spare : (xs : List ℕ) (bar spare i k : ℕ) → i ≤ k → spare_at xs bar spare i ≡ 0 → spare_at xs bar spare k ≡ 0
no_more_to_spare xs bar spare i k h e = let all : k - i + i ≡ k = omega arith in rw all at (on (k - i))
  where
    on : (d : ℕ) → spare_at xs bar spare (d + i) ≡ 0
    on zero = rw zero-add e
    on (suc d) = rw (suc-add, ← (add-one (d + i)), spare_one_more xs bar spare (d + i), on d) (none_after_none (get_or xs (d + i) 0) bar)

-- The seats to spare are those not taken by the states at the bar.
pub spare_is : (xs : List ℕ) (bar spare k : ℕ) → spare_at xs bar spare k ≡ spare + reaching xs (bar + 1) k - reaching xs bar k
unfolding spare_at
spare_is xs bar spare zero = omega (arith, count_none (reaches xs bar), count_none (reaches xs (bar + 1)))
spare_is xs bar spare (suc k) = rw (← (add-one k)) (next (counted xs bar k) (counted xs (bar + 1) k) (spare_is xs bar spare k))
  where
    next : Counted xs bar k → Counted xs (bar + 1) k
        → spare_at xs bar spare k ≡ spare + reaching xs (bar + 1) k - reaching xs bar k
        → spare_after (get_or xs k 0) bar (spare_at xs bar spare k) ≡ spare + reaching xs (bar + 1) (k + 1) - reaching xs bar (k + 1)
    next (inl l) (inl r) so_far = omega (arith, served_above (get_or xs k 0) bar (spare_at xs bar spare k) (omega arith))
    next (inl l) (inr r) so_far = omega (arith, served_at (get_or xs k 0) bar (spare_at xs bar spare k) (omega arith))
    next (inr l) (inl r) so_far = absurd (omega arith)
    next (inr l) (inr r) so_far = omega (arith, served_below (get_or xs k 0) bar (spare_at xs bar spare k) (omega arith))

-- Each seat that is served is one above the bar or one to spare.
one_of_spare : (spare : ℕ) → cond (eqb spare 0) 0 1 + (spare - 1) ≡ spare
one_of_spare zero = refl
one_of_spare (suc spare) = simp (ne_eqb (suc spare) 0 (λ e. omega arith)) (omega arith)

pub one_more_served : (xs : List ℕ) (bar spare k : ℕ)
    → extra_by (get_or xs k 0) bar spare + spare_after (get_or xs k 0) bar spare + reaching xs (bar + 1) k
    ≡ reaching xs (bar + 1) (k + 1) + spare
one_more_served xs bar spare k = by_place (counted xs bar k) (counted xs (bar + 1) k)
  where
    by_place : Counted xs bar k → Counted xs (bar + 1) k
        → extra_by (get_or xs k 0) bar spare + spare_after (get_or xs k 0) bar spare + reaching xs (bar + 1) k
        ≡ reaching xs (bar + 1) (k + 1) + spare
    by_place (inl l) (inl r) = omega (arith, served_above (get_or xs k 0) bar spare (omega arith))
    by_place (inl l) (inr r) = omega (arith, served_at (get_or xs k 0) bar spare (omega arith), one_of_spare spare)
    by_place (inr l) (inl r) = absurd (omega arith)
    by_place (inr l) (inr r) = omega (arith, served_below (get_or xs k 0) bar spare (omega arith))

pub at_most_one_served : (own bar spare : ℕ) → extra_by own bar spare ≤ 1
unfolding extra_by
at_most_one_served own bar spare =
    small (ltb bar own) (omega arith) (small (ltb own bar) (omega arith) (small (eqb spare 0) (omega arith) (omega arith)))
  where
    small : (t : Bool) {x y : ℕ} → x ≤ 1 → y ≤ 1 → cond t x y ≤ 1
    small t {x} {y} hx hy = cond_both (λ (z : ℕ). z ≤ 1) t x y (λ e. hx) (λ e. hy)

-- The seats for those at the bar.
abbrev pub spare_for : (xs : List ℕ) (left bar : ℕ) → ℕ
spare_for xs left bar = left - reaching xs (bar + 1) (length xs)

-- ---- the bar serves those whose rank is below the seats left

module _ (xs : List ℕ) (left bar : ℕ) (b : Bar xs left bar) where
  -- Above the bar a rank is below the seats left, below the bar it is not, and at the bar it counts the earlier ones there.
  rank_above : (i : ℕ) → i < length xs → bar < get_or xs i 0 → rank_in xs i < left
  rank_above i h high =
      let own = get_or xs i 0 in
      omega (
        arith,
        rank_in_parts xs i h,
        falls xs (bar + 1) own i (omega arith),
        falls_between xs (bar + 1) (own + 1) (i + 1) (length xs) (omega arith) (omega arith),
        count_passed_by xs (own + 1) i (omega arith),
        count_reached xs (bar + 1) i (omega arith),
        b.above,
      )

  rank_below : (i : ℕ) → i < length xs → get_or xs i 0 < bar → left ≤ rank_in xs i
  rank_below i h low =
      let own = get_or xs i 0 in
      omega (
        arith,
        rank_in_parts xs i h,
        falls xs own (own + 1) i (omega arith),
        falls xs (own + 1) bar (length xs) (omega arith),
        b.enough,
      )

  rank_at : (i : ℕ) → i < length xs → get_or xs i 0 ≡ bar
      → rank_in xs i + reaching xs (bar + 1) i ≡ reaching xs bar i + reaching xs (bar + 1) (length xs)
  rank_at i h even = rw even at (rank_in_parts xs i h)

  at_bar : (i : ℕ) → i < length xs → get_or xs i 0 ≡ bar → extra_in xs left i ≡ cond (eqb (spare_at xs bar (spare_for xs left bar) i) 0) 0 1
  unfolding extra_in
  at_bar i h even =
      let spare = spare_at xs bar (spare_for xs left bar) i in
      let place = rank_at i h even in
      let still = spare_is xs bar (spare_for xs left bar) i in
      either_way (ltb (rank_in xs i) left)
      (λ e. simp (e, ne_eqb spare 0 (λ z. omega (arith, ltb-true (rank_in xs i) left e, b.above))))
      (λ e. simp (e, eq-eqb spare 0 (omega (arith, ltb-false (rank_in xs i) left e, b.above))))

  pub served_by_rank : (i : ℕ) → i < length xs → extra_by (get_or xs i 0) bar (spare_at xs bar (spare_for xs left bar) i)
      ≡ extra_in xs left i
  unfolding extra_in
  served_by_rank i h = by_place (counted xs bar i) (counted xs (bar + 1) i)
    where
      own : ℕ
      own = get_or xs i 0

      spare : ℕ
      spare = spare_at xs bar (spare_for xs left bar) i

      by_place : Counted xs bar i → Counted xs (bar + 1) i → extra_by own bar spare ≡ extra_in xs left i
      by_place (inl l) (inl r) =
          (served_above own bar spare (omega arith)).0 ∙ sym (simp (lt-ltb (rank_in xs i) left (rank_above i h (omega arith))))
      by_place (inl l) (inr r) = (served_at own bar spare (omega arith)).0 ∙ sym (at_bar i h (omega arith))
      by_place (inr l) (inl r) = absurd (omega arith)
      by_place (inr l) (inr r) =
          (served_below own bar spare (omega arith)).0 ∙ sym (simp (le-ltb (rank_in xs i) left (rank_below i h (omega arith))))

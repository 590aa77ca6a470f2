-- The tests by which a genuine placing is told, of its steps, its total and its seats, which need no replay. Seats pass them exactly if
-- they are the leximin allotment for the total that the steps lead to (`lex_agrees`, `agreed_seats`).
-- Assumes nothing.
use Rattle.std.specs.Prelude.{◌≡◌, Bool, true, false, ◌&&◌, List, [], ◌∷◌, ℕ, zero, suc, ◌+◌, ◌-◌, ◌<◌, ◌≤◌, ltb, leb, eqb, length, get_or}
use Rattle.std.proofs.Math.Path.{refl}
use Rattle.std.proofs.Common.{sym, ◌∙◌, ap, ⊎_elim, zero-le, suc-le-suc, le_of_suc-le-suc, not-suc-le-zero}
use Rattle.std.proofs.lemmas.Bool.{false≢true}
use native.Mathlib.Omega.{arith}
use Rattle.std.proofs.Math.Nat.{le_trans}
use borrow.Author.Tests.{lt-ltb, le-ltb, ltb-true, eq-eqb, eqb-true, le-leb}
use Rattle.std.proofs.Math.ListN.{get_or-eq_default}
use Rattle.apportionment.specs.Limits.{house_limit, sum_limit}
use Rattle.apportionment.specs.Lists.{sum, same_list}
use Rattle.apportionment.specs.inner.Lists.{entry_at_most_sum, same_list_self, same_list_equal}
use Rattle.apportionment.specs.inner.Tests.{either_way}
use Rattle.apportionment.specs.inner.Problem.{Problem, Fillable}
use Rattle.apportionment.specs.Refusals.{within}
use Rattle.apportionment.specs.inner.Checks.{within_limits, within_true}
use Rattle.apportionment.specs.Quantities.{distance}
use Rattle.apportionment.specs.Leximin.{leximin_for, start_seats, start_total, gap, total_after}
use Rattle.claims.specs.inner.Order.{Standing, ends_apart}
use Rattle.claims.specs.inner.SizeClaims.{Positive, problem_positive, size_test, one_each}
use Rattle.claims.specs.inner.DivisorSeats.{withdrawn_at_most}
use Rattle.claims.specs.inner.Moves.{after_moves}
use Rattle.claims.specs.inner.LeximinSteps.{lex_moved, no_step_made, moved_leximin, moved_standing, moved_total}
use Rattle.claims.specs.inner.LeximinSteps.{leximin_ends_apart, ends_apart_leximin}
use Rattle.claims.specs.inner.SizeShape.{le_or_lt}
use Rattle.problem.specs.inner.Total.{capped_total, total_is_sum, total_past_limit}
use Rattle.leximin.specs.inner.Scan.{Seated}
use Rattle.leximin.specs.inner.Start.{start_within_house, start_total_fits}
use Rattle.agreement.specs.inner.Lists.{each_within}

pub and_both : (a b : Bool) → a && b ≡ true → (a ≡ true) × (b ≡ true)
and_both true b e = (refl, e)
and_both false b e = absurd (false≢true e)

-- The steps are no more than the gap, and the total is the one that they lead to.
unfoldable pub steps_agree : (ps : List ℕ) (H total steps : ℕ) → Bool
steps_agree ps H total steps = leb steps (gap ps H) && eqb total (total_after ps H steps)

-- The seats sum to the total, each state has a seat and none more than the house, and their two ends are apart.
unfoldable pub seats_agree : (ps xs : List ℕ) (H total : ℕ) → Bool
seats_agree ps xs H total =
    eqb (capped_total xs) total && each_within H xs && ends_apart one_each (size_test ps H) (length ps) xs

-- The steps, the total and the seats agree.
unfoldable pub agreeing : (ps xs : List ℕ) (H total steps : ℕ) → Bool
agreeing ps xs H total steps = steps_agree ps H total steps && seats_agree ps xs H total

-- ---- the steps

module _ (ps : List ℕ) (H begun : ℕ) (start : begun ≡ start_total ps H) (total steps : ℕ) where
  -- Below the house: at most the seats that lack, each of them added.
  pub steps_up : begun < H → leb steps (H - begun) && eqb total (begun + steps) ≡ steps_agree ps H total steps
  unfolding steps_agree gap distance total_after
  steps_up h =
      let below : start_total ps H < H = rw start at h in
      let apart : (start_total ps H - H) + (H - start_total ps H) ≡ H - start_total ps H = omega arith in
      rw (start, lt-ltb _ _ below, apart)

  -- Not below it: at most the seats that are too many, each of them withdrawn.
  pub steps_down : H ≤ begun → leb steps (begun - H) && eqb total (begun - steps) ≡ steps_agree ps H total steps
  unfolding steps_agree gap distance total_after
  steps_down h =
      let above : H ≤ start_total ps H = rw start at h in
      let apart : (start_total ps H - H) + (H - start_total ps H) ≡ start_total ps H - H = omega arith in
      rw (start, le-ltb _ _ above, apart)

-- ---- the seats

-- Each place of a list that passes is within the limit.
each_within_at : (limit : ℕ) (xs : List ℕ) → each_within limit xs ≡ true → (i : ℕ) → i < length xs
    → (1 ≤ get_or xs i 0) × (get_or xs i 0 ≤ limit)
unfolding each_within
each_within_at limit [] e i h = absurd (not-suc-le-zero h)
each_within_at limit (x ∷ xs) e zero h =
    either_way (within limit x) (within_limits limit x) (λ out. absurd (false≢true (rw out at e)))
each_within_at limit (x ∷ xs) e (suc i) h =
    either_way (within limit x)
    (λ inside. each_within_at limit xs (rw inside at e) i (le_of_suc-le-suc h))
    (λ out. absurd (false≢true (rw out at e)))

-- Seats within the limit at each place pass.
pub all_within : (limit : ℕ) (xs : List ℕ) → ((i : ℕ) → i < length xs → (1 ≤ get_or xs i 0) × (get_or xs i 0 ≤ limit))
    → each_within limit xs ≡ true
unfolding each_within
all_within limit [] all = refl
all_within limit (x ∷ xs) all =
    let here : (1 ≤ x) × (x ≤ limit) = all 0 (suc-le-suc zero-le) in
    rw (within_true limit x here) (all_within limit xs (λ i h. all (suc i) (suc-le-suc h)))

pub seats_seated : {ps xs : List ℕ} {P H : ℕ} → Fillable ps P H xs → each_within H xs ≡ true → Seated ps P H xs
seats_seated {ps} {xs} {P} {H} f e =
    record {
      bounded = record { fillable = f; seats_within = at_most_lem };
      least = λ i h. (each_within_at H xs e i (rw f.same_length h)).0;
    }
  where
    at_most_lem : (i : ℕ) → get_or xs i 0 ≤ house_limit
    at_most_lem i =
        ⊎_elim (λ h. rw (get_or-eq_default xs 0 {n = i} h) (omega arith))
        (λ h. le_trans (each_within_at H xs e i h).1 f.problem.house_within) (le_or_lt (length xs) i)

-- ---- the leximin allotment passes the tests of seats

module _ {ps : List ℕ} {P H : ℕ} (problem : Problem ps P H) (fits : length ps ≤ H) (m : ℕ) (few : m ≤ gap ps H) where
  abbrev lex : List ℕ
  lex = leximin_for ps H (total_after ps H m)

  positive : Positive ps H
  positive = problem_positive problem

  moved : lex_moved ps H m ≡ lex
  moved = moved_leximin positive fits m few

  lex_standing : Standing (length ps) one_each (size_test ps H) lex
  lex_standing = rw moved at (moved_standing positive fits m few)

  lex_total : sum lex ≡ total_after ps H m
  lex_total = rw moved at (moved_total positive fits m few)

  pub lex_states : length (leximin_for ps H (total_after ps H m)) ≡ length ps
  lex_states = lex_standing.states

  -- No state has more seats than the house: placing ends at the house, and withdrawing begins at nearest seats.
  pub lex_within_house : (i : ℕ) → get_or lex i 0 ≤ H
  unfolding gap distance total_after after_moves
  lex_within_house i =
      either_way (ltb (start_total ps H) H)
      (λ up.
      let ends : total_after ps H m ≤ H = rw up (omega (arith, ltb-true (start_total ps H) H up, few)) in
      le_trans (entry_at_most_sum lex i) (rw lex_total ends))
      (λ down. rw (← moved, down)
      (le_trans (withdrawn_at_most one_each (size_test ps H) (length ps) (start_seats ps H) m i) (start_within_house problem i)))

  -- The total after some steps is far below the limit of sums.
  total_fits : total_after ps H m ≤ sum_limit
  unfolding gap distance total_after
  total_fits =
      either_way (ltb (start_total ps H) H)
      (λ up. rw up (omega (arith, ltb-true (start_total ps H) H up, few, problem.house_within)))
      (λ down. rw down (omega (arith, start_total_fits problem)))

  pub lex_agrees : seats_agree ps lex H (total_after ps H m) ≡ true
  unfolding seats_agree
  lex_agrees =
      rw (
        total_is_sum lex (rw lex_total total_fits),
        eq-eqb _ _ lex_total,
        all_within H lex (λ i h. (lex_standing.least i (rw lex_standing.states at h), lex_within_house i)),
        leximin_ends_apart positive fits m lex few refl,
      )

-- Seats that pass the tests for the total after m steps are the leximin allotment for it.
pub agreed_seats : {ps xs : List ℕ} {P H total : ℕ} → Problem ps P H → length ps ≤ H → (m : ℕ) → m ≤ gap ps H → length xs ≡ length ps
    → total ≡ total_after ps H m → seats_agree ps xs H total ≡ true → xs ≡ leximin_for ps H (total_after ps H m)
unfolding seats_agree
agreed_seats {ps} {xs} {P} {H} {total} problem fits m few same whole e =
    let both = and_both (eqb (capped_total xs) total && each_within H xs) _ e in
    let first = and_both (eqb (capped_total xs) total) _ both.0 in
    ends_apart_leximin (problem_positive problem) fits m xs same (λ i h. (each_within_at H xs first.1 i (rw same h)).0)
    (capped_sum xs (eqb-true _ _ first.0) ∙ whole) both.1
  where
    capped_sum : (ys : List ℕ) → capped_total ys ≡ total → sum ys ≡ total
    capped_sum ys c =
        ⊎_elim (λ h. sym (total_is_sum ys h) ∙ c)
        (λ h. omega (arith, total_past_limit ys h, c, whole, total_fits problem fits m few)) (le_or_lt (sum ys) sum_limit)

-- ---- a placing just opened

-- Two tests that pass together are one.
same_test : (a b : Bool) → (a ≡ true → b ≡ true) → (b ≡ true → a ≡ true) → a ≡ b
same_test true b to from = sym (to refl)
same_test false b to from = either_way b (λ e. from e ∙ sym e) (λ e. sym e)

agreed_total : (ps xs : List ℕ) (H total : ℕ) → seats_agree ps xs H total ≡ true → capped_total xs ≡ total
unfolding seats_agree
agreed_total ps xs H total e =
    eqb-true _ _ (and_both (eqb (capped_total xs) total) _ (and_both (eqb (capped_total xs) total && each_within H xs) _ e).0).0

-- With no step made, the steps, the total and the seats agree exactly if the seats are the start's and the total is theirs.
pub agreeing_at_start : {ps xs : List ℕ} {P H : ℕ} → Fillable ps P H xs → length ps ≤ H → (total : ℕ)
    → (same_list xs (start_seats ps H) && eqb (capped_total xs) total) ≡ agreeing ps xs H total 0
unfolding agreeing steps_agree
agreeing_at_start {ps} {xs} {P} {H} f fits total = same_test _ _ to from
  where
    begun : ℕ
    begun = total_after ps H 0

    start_is_leximin : start_seats ps H ≡ leximin_for ps H begun
    start_is_leximin = sym (no_step_made ps H) ∙ moved_leximin (problem_positive f.problem) fits 0 zero-le

    agreed : seats_agree ps (leximin_for ps H begun) H begun ≡ true
    agreed = lex_agrees f.problem fits 0 zero-le

    to : (same_list xs (start_seats ps H) && eqb (capped_total xs) total) ≡ true
        → ((leb 0 (gap ps H) && eqb total begun) && seats_agree ps xs H total) ≡ true
    to e =
        let both = and_both (same_list xs (start_seats ps H)) (eqb (capped_total xs) total) e in
        let lex : xs ≡ leximin_for ps H begun = same_list_equal _ _ both.0 ∙ start_is_leximin in
        let whole : total ≡ begun = sym (eqb-true _ _ both.1) ∙ ap capped_total lex ∙ agreed_total ps _ H begun agreed in
        rw (le-leb 0 (gap ps H) zero-le, eq-eqb total begun whole)
        (ap (seats_agree ps xs H) whole ∙ ap (λ (l : List ℕ). seats_agree ps l H begun) lex ∙ agreed)

    from : ((leb 0 (gap ps H) && eqb total begun) && seats_agree ps xs H total) ≡ true
        → (same_list xs (start_seats ps H) && eqb (capped_total xs) total) ≡ true
    from e =
        let both = and_both (leb 0 (gap ps H) && eqb total begun) (seats_agree ps xs H total) e in
        let whole = eqb-true total begun (and_both (leb 0 (gap ps H)) (eqb total begun) both.0).1 in
        let lex = agreed_seats f.problem fits 0 zero-le f.same_length whole both.1 in
        let same : same_list xs (start_seats ps H) ≡ true =
        ap (λ (l : List ℕ). same_list l (start_seats ps H)) (lex ∙ sym start_is_leximin) ∙ same_list_self (start_seats ps H) in
        rw same (eq-eqb _ _ (agreed_total ps xs H total both.1))

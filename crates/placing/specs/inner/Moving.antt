-- A genuine placing moved on: what the moves ask holds, and what they leave is the placing so many steps later.
-- Assumes nothing.
use Rattle.std.specs.Prelude.{◌≡◌, Bool, cond, ℕ, ◌+◌, ◌-◌, ◌<◌, ◌≤◌, ltb, eqb, take}
use Rattle.std.proofs.Math.Path.{refl, sym, ap}
use Rattle.std.proofs.Common.{◌∙◌, arith}
use Rattle.std.proofs.Math.Bool.{true, false}
use mathlib.Core.List.{List, ◌++◌}
use Rattle.std.proofs.Math.ListN.{length, drop, replicate}
use Rattle.std.proofs.Math.Seq.{drop_at, take_at}
use borrow.Author.Tests.{ltb-true, ltb-false, lt-ltb, le-ltb, eqb-true, eqb-false}
use Rattle.apportionment.specs.Limits.{state_limit}
use Rattle.apportionment.specs.Quantities.{distance}
use Rattle.apportionment.specs.Leximin.{leximin_for, start_seats, start_total, gap, total_after}
use Rattle.claims.specs.inner.Moves.{after_none, after_again}
use Rattle.claims.specs.inner.SizeClaims.{Positive, problem_positive, size_test, one_each}
use Rattle.claims.specs.inner.StartBounds.{gap_below_states}
use Rattle.claims.specs.inner.LeximinSteps.{moved_leximin}
use Rattle.problem.specs.inner.Passed.{Openable, open_passed}
use Rattle.problem.specs.inner.Total.{capped_total}
use Rattle.leximin.specs.inner.Moves.{moved_times, Room, Movable}
use Rattle.apportionment.specs.inner.Tests.{cond_both, either_way}
use Rattle.agreement.specs.inner.Agreement.{lex_states}
use Rattle.placing.specs.Placing.{padded, placing_at, people_of}
use Rattle.placing.specs.inner.Telling.{Genuine, genuine_passes, record_equal, placing_of, opened_problem}
use Rattle.placing.specs.declared.Placing.{Placing}

-- What moving so many seats towards the house asks: where there is one to be moved, that the seats stand some moves from the start, on
-- the side of the house where the total is, and that so many more can be moved.
abbrev pub Towards : (ps : List ℕ) (H : ℕ) (xs : List ℕ) (total times : ℕ) → Type 0
Towards ps H xs total times = (times ≡ 0 → ⊥) → Movable (ltb total H) ps (capped_total ps) H xs times

module _ (p : Placing) (g : Genuine p) where
  abbrev ps : List ℕ
  ps = people_of p

  abbrev lex : ℕ → List ℕ
  lex m = leximin_for ps p.house (total_after ps p.house m)

  abbrev start : ℕ
  start = start_total ps p.house

  opened : Openable ps p.house
  opened = open_passed ps p.house g.opens

  positive : Positive ps p.house
  positive = problem_positive opened.problem

  -- ---- what a genuine placing holds

  pub own_states : p.states ≡ length (people_of p)
  unfolding placing_at
  own_states = ap (λ (q : Placing). q.states) g.is

  pub states_fit_lem : p.states ≤ state_limit
  states_fit_lem = (genuine_passes p g).states_fit

  own_people : p.populations ≡ padded ps
  unfolding placing_at
  own_people = ap (λ (q : Placing). q.populations) g.is

  own_seats_lem : p.seats ≡ padded (lex p.steps)
  unfolding placing_at
  own_seats_lem = ap (λ (q : Placing). q.seats) g.is

  own_total : p.total ≡ total_after ps p.house p.steps
  unfolding placing_at
  own_total = ap (λ (q : Placing). q.total) g.is

  lex_long : (m : ℕ) → m ≤ gap ps p.house → length (lex m) ≡ p.states
  lex_long m h = lex_states opened.problem opened.seat_for_each m h ∙ sym own_states

  first_seats : take p.states p.seats ≡ lex p.steps
  unfolding padded
  first_seats =
      ap (take p.states) own_seats_lem
      ∙ take_at (lex p.steps) (replicate (state_limit - length (lex p.steps)) 0) p.states (lex_long p.steps g.few)

  last_zeros : drop p.states p.seats ≡ replicate (state_limit - p.states) 0
  unfolding padded
  last_zeros =
      ap (drop p.states) own_seats_lem
      ∙ drop_at (lex p.steps) (replicate (state_limit - length (lex p.steps)) 0) p.states (lex_long p.steps g.few)
      ∙ ap (λ (k : ℕ). replicate (state_limit - k) 0) (lex_long p.steps g.few)

  -- ---- so many steps on, no more than are left to the house

  module _ {t : ℕ} (left : t ≤ distance p.total p.house) where
    steps_left : p.steps + t ≤ gap ps p.house
    unfolding gap distance total_after
    steps_left =
        either_way (ltb start p.house)
        (λ e. omega (arith, ltb-true start p.house e, g.few, left, rw (e, total_after) at own_total))
        (λ e. omega (arith, ltb-false start p.house e, g.few, left, rw (e, total_after) at own_total))

    -- So there are few.
    pub steps_fit : p.steps + t ≤ state_limit
    steps_fit = omega (arith, steps_left, gap_below_states positive, opened.problem.states.states_within)

    abbrev up : Bool
    up = ltb p.total p.house

    -- Where a seat is to be moved, the total is still on the side of the house where the start is.
    module _ (some : t ≡ 0 → ⊥) where
      start_side : ltb start p.house ≡ up
      unfolding gap distance total_after
      start_side =
          either_way (ltb start p.house)
          (λ e.
          let below : p.total < p.house =
          omega (arith, ltb-true start p.house e, steps_left, some, rw (e, total_after) at own_total) in
          e ∙ sym (lt-ltb p.total p.house below))
          (λ e.
          let above : p.house ≤ p.total =
          omega (arith, ltb-false start p.house e, steps_left, rw (e, total_after) at own_total) in
          e ∙ sym (le-ltb p.total p.house above))

      -- So the seats are those that the steps made give from the start ..
      own_moved : take p.states p.seats ≡ moved_times up ps p.house (start_seats ps p.house) p.steps
      own_moved =
          first_seats
          ∙ sym (moved_leximin positive opened.seat_for_each p.steps g.few)
          ∙ ap (λ (b : Bool). moved_times b ps p.house (start_seats ps p.house) p.steps) start_side

      own_room : (b : Bool) → ltb start p.house ≡ b → Room b (length ps) (start_seats ps p.house) (p.steps + t)
      unfolding gap distance start_total
      own_room true e = omega (arith, ltb-true start p.house e, steps_left, opened.problem.house_within)
      own_room false e = omega (arith, ltb-false start p.house e, steps_left, opened.seat_for_each)

      -- .. and so many more can be moved.
      own_movable : Movable up ps (capped_total ps) p.house (take p.states p.seats) t
      own_movable =
          record {
            problem = opened_problem g.opens refl;
            made = p.steps;
            begun = own_moved;
            room = own_room up start_side;
          }

      moved_later : moved_times up ps p.house (take p.states p.seats) t ≡ lex (p.steps + t)
      moved_later =
          ap (λ (xs : List ℕ). moved_times up ps p.house xs t) own_moved
          ∙ after_again up one_each (size_test ps p.house) (length ps) (start_seats ps p.house) p.steps t
          ∙ ap (λ (b : Bool). moved_times b ps p.house (start_seats ps p.house) (p.steps + t)) (sym start_side)
          ∙ moved_leximin positive opened.seat_for_each (p.steps + t) steps_left

      some_total : cond up (p.total + t) (p.total - t) ≡ total_after ps p.house (p.steps + t)
      unfolding total_after
      some_total =
          rw (← start_side)
          (either_way (ltb start p.house)
          (λ e. rw e (omega (arith, rw (e, total_after) at own_total)))
          (λ e. rw e (omega (arith, rw (e, total_after) at own_total))))

    pub own_towards : Towards (people_of p) p.house (take p.states p.seats) p.total t
    own_towards some = own_movable some

    -- ---- what is left so many steps later; with none to be moved, what was there

    later_first : moved_times up ps p.house (take p.states p.seats) t ≡ lex (p.steps + t)
    later_first =
        either_way (eqb t 0)
        (λ e.
        let none : t ≡ 0 = eqb-true t 0 e in
        ap (moved_times up ps p.house (take p.states p.seats)) none
        ∙ sym (after_none up one_each (size_test ps p.house) (length ps) (take p.states p.seats))
        ∙ first_seats ∙ ap lex (omega (arith, none)))
        (λ e. moved_later (eqb-false t 0 e))

    later_total : cond up (p.total + t) (p.total - t) ≡ total_after ps p.house (p.steps + t)
    later_total =
        either_way (eqb t 0)
        (λ e.
        let none : t ≡ 0 = eqb-true t 0 e in
        cond_both (λ (r : ℕ). r ≡ total_after ps p.house (p.steps + t)) up (p.total + t) (p.total - t)
        (λ _. omega (arith, none) ∙ same_total none) (λ _. omega (arith, none) ∙ same_total none))
        (λ e. some_total (eqb-false t 0 e))
      where
        same_total : t ≡ 0 → p.total ≡ total_after ps p.house (p.steps + t)
        same_total none = own_total ∙ ap (total_after ps p.house) (omega (arith, none))

    -- The placing with those seats and that total is the one so many steps later.
    pub later_placing : {ys : List ℕ} {total : ℕ}
        → ys ≡ moved_times (ltb p.total p.house) (people_of p) p.house (take p.states p.seats) t
        → total ≡ cond (ltb p.total p.house) (p.total + t) (p.total - t)
        → placing_of p.states p.house total (p.steps + t) p.populations (ys ++ drop p.states p.seats)
        ≡ placing_at (people_of p) p.house (p.steps + t)
    unfolding placing_at padded
    later_placing moved reached =
        record_equal own_states own_people refl
        (ap (λ (l : List ℕ). l ++ drop p.states p.seats) (moved ∙ later_first)
        ∙ ap (λ (l : List ℕ). lex (p.steps + t) ++ l)
        (last_zeros ∙ ap (λ (k : ℕ). replicate (state_limit - k) 0) (sym (lex_long (p.steps + t) steps_left))))
        (reached ∙ later_total) refl

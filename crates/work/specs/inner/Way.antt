-- The way from the placing that opening gives to the house, which the program prints: moves by one seat go through it to its end, and every
-- placing on it and every step between two of them can be shown, so that each block is written and fits its page.
-- Assumes nothing.
use Rattle.std.specs.Prelude.{◌≡◌, refl, List, ℕ, ◌+◌, ◌-◌, ◌<◌, ◌≤◌, min, eqb, ltb, get_or, take}
use Rattle.std.proofs.Math.Path.{sym, ap}
use Rattle.std.proofs.Common.{◌∙◌, length-take-le}
use native.Mathlib.Omega.{arith}
use Rattle.std.proofs.Math.ListN.{length}
use borrow.Author.Tests.{eqb-true, eqb-false, ltb-true, ltb-false}
use Rattle.apportionment.specs.Limits.{state_limit}
use Rattle.apportionment.specs.Refusals.{accepted}
use Rattle.apportionment.specs.Lists.{sum}
use Rattle.apportionment.specs.inner.Tests.{either_way}
use Rattle.apportionment.specs.inner.Lists.{entry_at_most_sum}
use Rattle.apportionment.specs.Quantities.{distance}
use Rattle.apportionment.specs.Leximin.{leximin_for, start_total, gap, total_after}
use Rattle.claims.specs.inner.StartBounds.{gap_below_states}
use Rattle.claims.specs.inner.SizeClaims.{problem_positive}
use Rattle.claims.specs.inner.LeximinSteps.{states_at_most_passed}
use Rattle.claims.specs.inner.Allotments.{Allotment}
use Rattle.claims.specs.inner.LeastOfAll.{leximin_least_of_all}
use Rattle.apportionment.specs.Allotment.{open_refusal}
use Rattle.problem.specs.inner.Passed.{Openable, open_passed}
use Rattle.departure.specs.inner.Answer.{InLimits}
use Rattle.writing.specs.inner.Writing.{Wrote, wrote_front}
use Rattle.register.specs.Register.{ReadingOutcome, reading_of}
use Rattle.register.specs.Register.{rows_of, name_in_row}
use Rattle.register.specs.inner.Sound.{ReadingSound, reading_sound}
use Rattle.register.specs.inner.Rows.{name_limit, name_limited}
use Rattle.agreement.specs.inner.Agreement.{lex_within_house}
use Rattle.placing.specs.Placing.{started, placing_at, opened_of, moved_of, people_of}
use Rattle.placing.specs.inner.Lists.{take_padded}
use Rattle.placing.specs.inner.Walk.{own_people, start_is_first, moved_after}
use Rattle.placing.specs.declared.Placing.{Placing}
use Rattle.placing.specs.declared.Placed.{Placed}
use Rattle.placing.specs.declared.MovedOn.{MovedOn}
use Rattle.showing.specs.Work.{seats_in, moved_at}
use Rattle.showing.specs.inner.Work.{differ_at_a_place}
use Rattle.showing.specs.inner.Showable.{total_limit, Showable, ShowableStep}

-- ---- pages

-- What was written and fits a page ends on it.
pub ends_on_page : {a b s : List ℕ} {next : ℕ} → Wrote a 0 s b next → length s ≤ length a → next ≤ length b
ends_on_page w fits = (wrote_front w fits).within

-- ---- the way

-- The placing m steps from the start.
abbrev pub on_the_way : Placing → (m : ℕ) → Placing
on_the_way start m = placing_at (people_of start) start.house m

-- How many steps the house is away.
abbrev pub way_of : Placing → ℕ
way_of start = gap (people_of start) start.house

-- A placing is the start of a register that opens: `rows` is the register from its first state's line on, and P the sum of its populations.
pub record Begun (rows : List ℕ) (start : Placing) (P : ℕ) : Type 0 where
  pub opens : open_refusal (people_of start) start.house ≡ accepted
  pub first : start ≡ on_the_way start 0
  pub named : (i : ℕ) → i < length (people_of start) → length (name_in_row rows i) ≤ name_limit
  pub summed : P ≡ sum (people_of start)

-- ---- every placing on it can be shown

module _ (ps : List ℕ) (H : ℕ) (opens : open_refusal ps H ≡ accepted) (m : ℕ) (few : m ≤ gap ps H) where
  passed : Openable ps H
  passed = open_passed ps H opens

  few_steps : gap ps H < state_limit
  few_steps = omega (arith, gap_below_states (problem_positive passed.problem), passed.problem.states.states_within)

  total_limited : total_after ps H m ≤ total_limit
  unfolding total_after gap distance
  total_limited =
      either_way (ltb (start_total ps H) H)
      (λ below. rw below (omega (arith, few, passed.problem.house_within, ltb-true (start_total ps H) H below)))
      (λ above. rw above (omega (arith, few_steps, passed.problem.house_within, ltb-false (start_total ps H) H above)))

  -- The seats that so many steps lead to.
  abbrev seats : List ℕ
  seats = leximin_for ps H (total_after ps H m)

  allotted : Allotment (length ps) (total_after ps H m) seats
  allotted =
      let positive = problem_positive passed.problem in
      (leximin_least_of_all positive (total_after ps H m) (states_at_most_passed positive passed.seat_for_each m few)).allotted

  state_in_limits : (i : ℕ) → i < length ps → InLimits (get_or ps i 0) (get_or seats i 0) (sum ps) H
  state_in_limits i below =
      let peopled = passed.problem.states.peopled i below in
      record {
        some_total = omega (arith, entry_at_most_sum ps i);
        total_limited = passed.problem.states.sum_within;
        some_house = passed.problem.some_seat;
        house_limited = passed.problem.house_within;
        some_people = peopled;
        people_within_lem = entry_at_most_sum ps i;
        seats_within_lem = lex_within_house passed.problem passed.seat_for_each m few i;
      }

  -- A placing's own seats are those that it was made with.
  own_seats_lem : seats_in (placing_at ps H m) ≡ seats
  unfolding placing_at seats_in
  own_seats_lem = rw (← allotted.states) (take_padded seats)

  way_showable : (rows : List ℕ) → ((i : ℕ) → i < length ps → length (name_in_row rows i) ≤ name_limit)
      → Showable rows (placing_at ps H m) (sum ps)
  unfolding placing_at
  way_showable rows named =
      record {
        few_states_lem = passed.problem.states.states_within;
        counted = ap length (own_people ps H m);
        short_names = named;
        in_limits = rw (own_people ps H m, own_seats_lem) (record { paired = allotted.states; each = state_in_limits });
        seated = rw own_seats_lem allotted.each;
        unfilled = λ short i below. rw own_seats_lem (omega (arith, entry_at_most_sum seats i, allotted.whole));
        house_limited = passed.problem.house_within;
        sum_limited = passed.problem.states.sum_within;
        total_limited = total_limited;
        few_steps = omega (arith, few, few_steps);
      }

-- ---- and so can every step, since one seat more or fewer is a seat of some state

module _ (ps : List ℕ) (H : ℕ) (opens : open_refusal ps H ≡ accepted) (m : ℕ) (left : m < gap ps H) where
  totals_differ : total_after ps H m ≡ total_after ps H (m + 1) → ⊥
  unfolding total_after gap distance
  totals_differ same =
      either_way (ltb (start_total ps H) H)
      (λ below. omega (arith, rw below at same))
      (λ above. omega (arith, rw above at same, left, ltb-false (start_total ps H) H above))

  few : m ≤ gap ps H
  few = omega arith

  next : m + 1 ≤ gap ps H
  next = omega arith

  state_moves : moved_at (placing_at ps H m) (placing_at ps H (m + 1)) < length ps
  unfolding moved_at
  state_moves =
      let before = allotted ps H opens m few in
      let after = allotted ps H opens (m + 1) next in
      rw (own_seats_lem ps H opens m few, own_seats_lem ps H opens (m + 1) next)
      (omega (
        arith,
        before.states,
        differ_at_a_place (seats ps H opens m few) (seats ps H opens (m + 1) next) (after.states ∙ sym before.states)
            (λ same. totals_differ (sym before.whole ∙ ap sum same ∙ after.whole)),
      ))

  way_step : (rows : List ℕ) → ((i : ℕ) → i < length ps → length (name_in_row rows i) ≤ name_limit)
      → ShowableStep rows (placing_at ps H m) (placing_at ps H (m + 1)) (sum ps)
  unfolding placing_at
  way_step rows named =
      record {
        earlier = way_showable ps H opens m few rows named;
        later = way_showable ps H opens (m + 1) next rows named;
        same_states_lem = refl;
        same_people = refl;
        same_house = refl;
        state_moved = state_moves;
      }

module _ {rows : List ℕ} {start : Placing} {P : ℕ} (begun : Begun rows start P) where
  pub on_the_way_shown : {p : Placing} (m : ℕ) → p ≡ on_the_way start m → m ≤ way_of start → Showable rows p P
  on_the_way_shown m is few = rw (is, begun.summed) (way_showable (people_of start) start.house begun.opens m few rows begun.named)

  pub start_shown : Showable rows start P
  start_shown = on_the_way_shown 0 begun.first (omega arith)

  pub step_shown : {p q : Placing} (m : ℕ) → p ≡ on_the_way start m → q ≡ on_the_way start (m + 1) → m < way_of start
      → ShowableStep rows p q P
  step_shown m is then left =
      rw (is, then, begun.summed) (way_step (people_of start) start.house begun.opens m left rows begun.named)

  -- The way has fewer steps than a register may have states.
  pub short_way : way_of start < state_limit
  short_way = few_steps (people_of start) start.house begun.opens 0 (omega arith)

  -- ---- moving by one seat goes through it

  module _ {p : Placing} {m : ℕ} {r : MovedOn} (is : p ≡ on_the_way start m) (few : m ≤ way_of start) (on : r ≡ moved_of p 1) where
    moved_one : r
        ≡ record {
          answer = record { refusal = accepted; moved = min 1 (way_of start - m) };
          placing = on_the_way start (m + min 1 (way_of start - m));
        }
    moved_one =
        on ∙ ap (λ (q : Placing). moved_of q 1) is ∙ moved_after (people_of start) start.house begun.opens m 1 few

    moved_is : r.answer.moved ≡ min 1 (way_of start - m)
    moved_is = ap (λ (x : MovedOn). x.answer.moved) moved_one

    -- A move that was made leads to the next placing ..
    pub move_goes_on : (r.answer.moved ≡ 0 → ⊥) → (m < way_of start) × (r.placing ≡ on_the_way start (m + 1))
    move_goes_on some =
        let left : m < way_of start = omega (arith, some, moved_is) in
        (left, ap (λ (x : MovedOn). x.placing) moved_one ∙ ap (on_the_way start) (omega (arith, left)))

    -- .. and where none was, the placing stands at the house.
    pub move_at_end : r.answer.moved ≡ 0 → p ≡ on_the_way start (way_of start)
    move_at_end none = is ∙ ap (on_the_way start) (omega (arith, none, moved_is, few))

-- ---- a register that opens begins it

start_begins : (rows ps : List ℕ) (H : ℕ) → open_refusal ps H ≡ accepted
    → ((i : ℕ) → i < length ps → length (name_in_row rows i) ≤ name_limit) → Begun rows (started ps H) (sum ps)
unfolding started people_of
start_begins rows ps H opens named =
    record {
      opens = rw (take_padded ps) opens;
      first = rw (take_padded ps) (start_is_first ps H opens);
      named = rw (take_padded ps) named;
      summed = rw (take_padded ps);
    }

-- What was read, and opened, neither of them refused.
pub read_begins : (s : List ℕ) (r : ReadingOutcome) (o : Placed) → r ≡ reading_of s → r.refusal ≡ accepted
    → o ≡ opened_of (take r.states r.populations) r.house → o.refusal ≡ accepted → Begun (rows_of s) o.placing r.total
unfolding opened_of
read_begins s r o read good opened accepts =
    either_way (eqb (open_refusal ps r.house) accepted)
    (λ opens.
    let handed : o ≡ record { refusal = accepted; placing = started ps r.house } = rw opens at opened in
    let begins : o.placing ≡ started ps r.house = ap (λ (x : Placed). x.placing) handed in
    rw (begins, sound.populations.summed) (start_begins (rows_of s) ps r.house (eqb-true _ _ opens) named))
    (λ refuses. absurd (eqb-false _ _ refuses (sym (ap (λ (x : Placed). x.refusal) (rw refuses at opened)) ∙ accepts)))
  where
    ps : List ℕ
    ps = take r.states r.populations

    sound : ReadingSound r
    sound = rw read (reading_sound s (rw read at good))

    each : length ps ≡ r.states
    each = length-take-le r.states r.populations (omega (arith, sound.states, sound.populations.room))

    named : (i : ℕ) → i < length ps → length (name_in_row (rows_of s) i) ≤ name_limit
    named i below =
        let inside : i < r.states = omega (arith, each) in
        name_limited s (rw read at good) i (rw read at inside)

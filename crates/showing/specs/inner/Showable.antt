-- What a placing on the way from the start to the house offers to whoever shows it, and a step between two of them: every number that is
-- written is within its limits, so that no departure is refused, and the state that moved is one of the placing's own. This crate's
-- functions require it, and crate `work` shows it of every placing that it steps through.
-- Assumes nothing.
use Rattle.std.specs.Prelude.{◌≡◌, refl, Bool, true, false, List, ℕ, ◌+◌, ◌-◌, ◌<◌, ◌≤◌, ltb, length, get_or}
use Rattle.std.proofs.Common.{arith, ltb-true}
use Rattle.std.proofs.Math.Seq.{get_or-take}
use Rattle.apportionment.specs.Limits.{state_limit, house_limit, sum_limit}
use Rattle.departure.specs.inner.Answer.{InLimits, AllInLimits}
use Rattle.register.specs.Register.{name_in_row}
use Rattle.register.specs.inner.Rows.{name_limit}
use Rattle.placing.specs.Placing.{people_of}
use Rattle.placing.specs.declared.Placing.{Placing}
use Rattle.showing.specs.Work.{seats_if_moved, seats_in, moved_at}

-- A total on the way to a house: the start has less than a seat for each state more.
abbrev pub total_limit : ℕ
total_limit = house_limit + state_limit

-- A placing that can be shown, with the lines of the register from its first state's on and the sum of its populations.
pub record Showable (rows : List ℕ) (p : Placing) (P : ℕ) : Type 0 where
  pub few_states_lem : p.states ≤ state_limit
  pub counted : length (people_of p) ≡ p.states
  pub short_names : (i : ℕ) → i < p.states → length (name_in_row rows i) ≤ name_limit
  pub in_limits : AllInLimits (people_of p) (seats_in p) P p.house
  -- Each state has a seat that it could give up and, short of the house, room for one more.
  pub seated : (i : ℕ) → i < p.states → 0 < get_or (seats_in p) i 0
  pub unfilled : p.total < p.house → (i : ℕ) → i < p.states → get_or (seats_in p) i 0 < p.house
  pub house_limited : p.house ≤ house_limit
  pub sum_limited : P ≤ sum_limit
  pub total_limited : p.total ≤ total_limit
  pub few_steps : p.steps ≤ state_limit

-- A step that can be shown: the two placings are of the same states and house, and a state moved.
pub record ShowableStep (rows : List ℕ) (before after : Placing) (P : ℕ) : Type 0 where
  pub earlier : Showable rows before P
  pub later : Showable rows after P
  pub same_states_lem : after.states ≡ before.states
  pub same_people : after.populations ≡ before.populations
  pub same_house : after.house ≡ before.house
  pub state_moved : moved_at before after < before.states

-- States that can be weighed: within the limits as they are and as they would be.
pub record Weighable (adds : Bool) (ps seats : List ℕ) (P H : ℕ) : Type 0 where
  pub as_they_are : AllInLimits ps seats P H
  pub seated : (i : ℕ) → i < length ps → 0 < get_or seats i 0
  pub as_they_would_be : (i : ℕ) → i < length ps → InLimits (get_or ps i 0) (seats_if_moved adds (get_or seats i 0)) P H

-- ---- with other seats

-- A state stays within the limits with any seats up to the house ..
with_seats : {p a P H : ℕ} (b : ℕ) → InLimits p a P H → b ≤ H → InLimits p b P H
with_seats b fit most =
    record {
      some_total = fit.some_total;
      total_limited = fit.total_limited;
      some_house = fit.some_house;
      house_limited = fit.house_limited;
      some_people = fit.some_people;
      people_within_lem = fit.people_within_lem;
      seats_within_lem = most;
    }

-- .. and so if it moves.
moved_in_limits : {p a P H : ℕ} (adds : Bool) → InLimits p a P H → (adds ≡ true → a < H) → InLimits p (seats_if_moved adds a) P H
unfolding seats_if_moved
moved_in_limits {p} {a} true fit unfilled = with_seats (a + 1) fit (omega (arith, unfilled refl))
moved_in_limits {p} {a} false fit unfilled = with_seats (a - 1) fit (omega (arith, fit.seats_within_lem))

module _ {rows : List ℕ} {p : Placing} {P : ℕ} (fit : Showable rows p P) where
  -- Every state of a placing can be weighed.
  pub all_weighable : Weighable (ltb p.total p.house) (people_of p) (seats_in p) P p.house
  all_weighable =
      record {
        as_they_are = fit.in_limits;
        seated = λ i below. fit.seated i (rw fit.counted at below);
        as_they_would_be =
            λ i below.
            moved_in_limits (ltb p.total p.house) (fit.in_limits.each i below)
            (λ short. fit.unfilled (ltb-true p.total p.house short) i (rw fit.counted at below));
      }

  -- A state by its place in the placing's lists.
  state_in_limits : (i : ℕ) → i < p.states → InLimits (get_or p.populations i 0) (get_or p.seats i 0) P p.house
  unfolding people_of seats_in
  state_in_limits i below =
      rw (get_or-take p.states p.populations i 0 below, get_or-take p.states p.seats i 0 below) at
      (fit.in_limits.each i (rw fit.counted below))

module _ {rows : List ℕ} {before after : Placing} {P : ℕ} (step : ShowableStep rows before after P) where
  stepped_in_limits : (i : ℕ) → i < before.states → InLimits (get_or before.populations i 0) (get_or after.seats i 0) P before.house
  stepped_in_limits i below =
      rw (step.same_people, step.same_house) at (state_in_limits step.later i (omega (arith, step.same_states_lem)))

  -- The state that moved, before its step and after it.
  abbrev moved : ℕ
  moved = moved_at before after

  pub moved_from : InLimits (get_or before.populations moved 0) (get_or before.seats moved 0) P before.house
  moved_from = state_in_limits step.earlier moved step.state_moved

  pub moved_to : InLimits (get_or before.populations moved 0) (get_or after.seats moved 0) P before.house
  moved_to = stepped_in_limits moved step.state_moved

-- Moving from the start: the start is the placing after no step, a move leads so many steps on and no further than the house, and two
-- moves are one by the sum.
-- Assumes nothing.
use Rattle.std.specs.Prelude.{◌≡◌, false, ltb, length}
use Rattle.std.proofs.Math.Path.{refl, ap}
use Rattle.std.proofs.Common.{sym, ◌∙◌, arith}
use mathlib.Core.List.{List}
use Prim.Native.Nat.{ℕ, ◌+◌, ◌-◌, ◌≤◌, min}
use borrow.Author.Tests.{ltb-true, ltb-false}
use Rattle.apportionment.specs.Refusals.{accepted, placing_foreign}
use Rattle.apportionment.specs.inner.Tests.{either_way}
use Rattle.apportionment.specs.Quantities.{distance}
use Rattle.apportionment.specs.Leximin.{leximin_for, start_total, gap, total_after}
use Rattle.apportionment.specs.Allotment.{seats_of, steps_of}
use Rattle.apportionment.specs.declared.Method.TheVariants.{Leximin}
use Rattle.claims.specs.inner.LeximinSteps.{no_step_made, moved_leximin, total_at_gap}
use Rattle.apportionment.specs.Allotment.{open_refusal}
use Rattle.problem.specs.inner.Passed.{Openable, open_passed}
use Rattle.claims.specs.inner.SizeClaims.{problem_positive}
use Rattle.placing.specs.Placing.{padded, started, placing_at, people_of, genuine, movable, moved_of}
use Rattle.placing.specs.inner.Lists.{take_padded}
use Rattle.placing.specs.inner.Telling.{Genuine, genuine_facts, genuine_moved, foreign_moved, record_equal}
use Rattle.placing.specs.declared.Placing.{Placing}
use Rattle.placing.specs.declared.MovedOn.{MovedOn}

-- A placing's own populations are those that it was opened with.
pub own_people : (ps : List ℕ) (H m : ℕ) → people_of (placing_at ps H m) ≡ ps
unfolding placing_at people_of
own_people ps H m = take_padded ps

module _ (ps : List ℕ) (H : ℕ) (opens : open_refusal ps H ≡ accepted) where
  opened : Openable ps H
  opened = open_passed ps H opens

  -- With no step made the total is the start's.
  no_step_total : total_after ps H 0 ≡ start_total ps H
  unfolding total_after
  no_step_total = either_way (ltb (start_total ps H) H) (λ up. rw up (omega arith)) (λ down. rw down (omega arith))

  -- Opening gives the placing after no step.
  pub start_is_first : started ps H ≡ placing_at ps H 0
  unfolding started placing_at
  start_is_first =
      record_equal refl refl refl
      (ap padded (sym (no_step_made ps H) ∙ moved_leximin (problem_positive opened.problem) opened.seat_for_each 0 (omega arith)))
      (sym no_step_total) refl

  -- ---- a move

  placed_genuine : (m : ℕ) → m ≤ gap ps H → Genuine (placing_at ps H m)
  unfolding placing_at
  placed_genuine m few =
      record {
        opens = rw (own_people ps H m) opens;
        few = rw (own_people ps H m) few;
        is = ap (λ (qs : List ℕ). placing_at qs H m) (sym (own_people ps H m));
      }

  -- What is left to the house after m steps.
  left_after : (m : ℕ) → m ≤ gap ps H → distance (total_after ps H m) H ≡ gap ps H - m
  unfolding total_after gap distance
  left_after m few =
      either_way (ltb (start_total ps H) H)
      (λ up. rw up (omega (arith, ltb-true (start_total ps H) H up, few)))
      (λ down. rw down (omega (arith, ltb-false (start_total ps H) H down, few)))

  movable_after : (m k : ℕ) → m ≤ gap ps H → movable (placing_at ps H m) k ≡ min k (gap ps H - m)
  unfolding movable placing_at
  movable_after m k few = ap (min k) (left_after m few)

  -- A move by k from the placing after m steps makes as many as k, or those that are left.
  pub moved_after : (m k : ℕ) → m ≤ gap ps H
      → let made = min k (gap ps H - m) in
      moved_of (placing_at ps H m) k
      ≡ record { answer = record { refusal = accepted; moved = made }; placing = placing_at ps H (m + made) }
  unfolding placing_at
  moved_after m k few =
      let on : List ℕ → ℕ → MovedOn = λ qs made.
      record { answer = record { refusal = accepted; moved = made }; placing = placing_at qs H (m + made) } in
      genuine_moved (placing_at ps H m) k (placed_genuine m few)
      ∙ ap (on (people_of (placing_at ps H m))) (movable_after m k few)
      ∙ ap (λ (qs : List ℕ). on qs (min k (gap ps H - m))) (own_people ps H m)

  -- ---- the placing at the house, and allotting

  -- Moving to the house and allotting under leximin agree in the seats and in the steps.
  pub at_house_as_allotted : placing_at ps H (gap ps H)
      ≡ record {
        states = length ps;
        populations = padded ps;
        house = H;
        seats = padded (seats_of Leximin ps H);
        total = H;
        steps = steps_of Leximin ps H;
      }
  unfolding placing_at seats_of steps_of
  at_house_as_allotted =
      record_equal refl refl refl (ap (λ (t : ℕ). padded (leximin_for ps H t)) (total_at_gap ps H)) (total_at_gap ps H) refl

-- ---- two moves

-- Two moves told as one: the second's refusal and placing, and how many were moved in all.
abbrev pub in_all : (first second : MovedOn) → MovedOn
in_all first second =
    record {
      answer = record { refusal = second.answer.refusal; moved = first.answer.moved + second.answer.moved };
      placing = second.placing;
    }

module _ (p : Placing) (j k : ℕ) where
  genuine_twice : Genuine p → moved_of p (j + k) ≡ in_all (moved_of p j) (moved_of (moved_of p j).placing k)
  genuine_twice g =
      ap (λ (q : Placing). moved_of q (j + k)) g.is
      ∙ moved_after ps H g.opens m (j + k) g.few
      ∙ ap (on m) (omega arith)
      ∙ ap (λ (steps : ℕ). record { answer = record { refusal = accepted; moved = a + b }; placing = placing_at ps H steps }) (omega arith)
      ∙ sym (ap (λ (x : MovedOn). in_all x (moved_of (moved_of p j).placing k)) first ∙ ap (in_all (on m a)) second)
    where
      ps : List ℕ
      ps = people_of p

      H : ℕ
      H = p.house

      m : ℕ
      m = p.steps

      on : (made-before made : ℕ) → MovedOn
      on made-before made =
          record { answer = record { refusal = accepted; moved = made }; placing = placing_at ps H (made-before + made) }

      -- How many the first move makes, and how many the second.
      a : ℕ
      a = min j (gap ps H - m)

      b : ℕ
      b = min k (gap ps H - (m + a))

      first : moved_of p j ≡ on m a
      first = ap (λ (q : Placing). moved_of q j) g.is ∙ moved_after ps H g.opens m j g.few

      second : moved_of (moved_of p j).placing k ≡ on (m + a) b
      second =
          ap (λ (x : MovedOn). moved_of x.placing k) first
          ∙ moved_after ps H g.opens (m + a) k (omega (arith, g.few))

  foreign_twice : genuine p ≡ false → moved_of p (j + k) ≡ in_all (moved_of p j) (moved_of (moved_of p j).placing k)
  foreign_twice e =
      let same : MovedOn = record { answer = record { refusal = placing_foreign; moved = 0 }; placing = p } in
      let first : moved_of p j ≡ same = foreign_moved p j e in
      let second : moved_of (moved_of p j).placing k ≡ same =
      ap (λ (x : MovedOn). moved_of x.placing k) first ∙ foreign_moved p k e in
      foreign_moved p (j + k) e
      ∙ sym (ap (λ (x : MovedOn). in_all x (moved_of (moved_of p j).placing k)) first ∙ ap (in_all same) second)

  -- Moving by j and then by k is moving by j + k, whatever the placing: a foreign one is refused each time and stays as it is.
  pub moved_twice : moved_of p (j + k) ≡ in_all (moved_of p j) (moved_of (moved_of p j).placing k)
  moved_twice = either_way (genuine p) (λ e. genuine_twice (genuine_facts p e)) foreign_twice

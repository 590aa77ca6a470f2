-- What holds of every register that is read: for those who allot from a reading or walk the lines of its states.
-- Assumes nothing.
use Rattle.std.specs.Prelude.{◌≡◌, refl, Bool, true, false, cond, List, [], ◌∷◌, ◌++◌, ℕ, zero, suc, ◌+◌, ◌<◌, ◌≤◌, ltb, eqb, length}
use Rattle.std.specs.Prelude.{get_or, set, take}
use Rattle.std.proofs.Common.{sym, ap, subst, ◌∙◌, add-one, arith, length-set, get_or-set_same, get_or-set_other, take-suc-set}
use borrow.Author.Tests.{eqb-true, eqb-false, ltb-true, ltb-false, eq-eqb, lt-ltb, le-ltb}
use Rattle.std.proofs.lemmas.List.{get_or-replicate}
use Rattle.std.proofs.Math.ListN.{get_or-eq_default}
use Rattle.apportionment.specs.Limits.{state_limit, house_limit, sum_limit, register_limit}
use Rattle.apportionment.specs.Refusals.{accepted, line_ill_formed}
use Rattle.apportionment.specs.Lists.{sum, same_list}
use Rattle.apportionment.specs.inner.Tests.{either_way}
use Rattle.fields.specs.Grammar.{rest_of, is_name}
use Rattle.lines.specs.inner.Lines.{head_sound, state_sound}
use Rattle.lines.specs.inner.Places.{unused_on}
use Rattle.lines.specs.Lines.{head_of, name_at, number_at, state_refusal, closing_refusal}
use Rattle.register.specs.Register.{no_populations, refused, accepts, end_of, closing_of, states_from, states_of, lines_of, reading_of}
use Rattle.register.specs.inner.Register.{states_passed}
use Rattle.register.specs.inner.Names.{lines_next}
use Rattle.register.specs.inner.Kept.{name_on_line}
use Rattle.register.specs.Register.{lines_after, name_refusal_in, name_refusal_of, name_of}
use Rattle.lines.specs.Lines.{HeadOutcome}
use Rattle.register.specs.Register.{ReadingOutcome}

-- ---- the populations so far

-- The sum and the populations of the first k states: each at least 1, their sum within its limit, 0 from place k on.
pub record SoFar (k total : ℕ) (populations : List ℕ) : Type 0 where
  pub room : length populations ≡ state_limit
  pub peopled : (i : ℕ) → i < k → 1 ≤ get_or populations i 0
  pub zeros : (i : ℕ) → k ≤ i → get_or populations i 0 ≡ 0
  pub summed : total ≡ sum (take k populations)
  pub limited : total ≤ sum_limit

no_population : (i : ℕ) → get_or no_populations i 0 ≡ 0
unfolding no_populations
no_population i =
    either_way (ltb i state_limit)
    (λ inside. get_or-replicate state_limit i 0 0 (ltb-true i state_limit inside))
    (λ outside. get_or-eq_default no_populations 0 (ltb-false i state_limit outside))

so_far_none : SoFar 0 0 no_populations
unfolding no_populations sum
so_far_none = record {
  room = refl;
  peopled = λ i below. absurd (omega arith);
  zeros = λ i _. no_population i;
  summed = refl;
  limited = omega arith;
}

pub sum_last : (xs : List ℕ) (p : ℕ) → sum (xs ++ (p ∷ [])) ≡ sum xs + p
unfolding sum
sum_last [] p = omega arith
sum_last (x ∷ xs) p = omega (arith, sum_last xs p)

so_far_more : (k total p : ℕ) (populations : List ℕ) → SoFar k total populations → k < state_limit → 1 ≤ p → total + p ≤ sum_limit
    → SoFar (k + 1) (total + p) (set populations k p)
so_far_more k total p populations so inside some fits = record {
  room = length-set populations k p ∙ so.room;
  peopled = λ i below. peopled i (eqb i k) refl below;
  zeros = λ i past. get_or-set_other populations k i p 0 (λ e. absurd (omega arith)) ∙ so.zeros i (omega arith);
  summed = summed;
  limited = fits;
}
  where
    within_room : k < length populations
    within_room = omega (arith, so.room)

    peopled : (i : ℕ) (t : Bool) → eqb i k ≡ t → i < k + 1 → 1 ≤ get_or (set populations k p) i 0
    peopled i true here below = rw (eqb-true i k here, get_or-set_same populations k p 0 within_room) some
    peopled i false there below =
        rw (get_or-set_other populations k i p 0 (eqb-false i k there)) (so.peopled i (omega (arith, eqb-false i k there)))

    summed : total + p ≡ sum (take (k + 1) (set populations k p))
    summed = rw (add-one, take-suc-set populations k p within_room, sum_last) (ap (λ x. x + p) so.summed)

-- ---- a reading that is not refused

-- The reading that the lines after a head lead to.
record Accepted (head : HeadOutcome) (r : ReadingOutcome) : Type 0 where
  pub counted : r.states ≡ head.states
  pub housed : r.house ≡ head.house
  pub lined : r.line ≡ 0
  pub peopled : SoFar r.states r.total r.populations

closing_accepted : (head : HeadOutcome) (total : ℕ) (populations s : List ℕ) → SoFar head.states total populations
    → (closing_of head total populations s).refusal ≡ accepted → Accepted head (closing_of head total populations s)
unfolding closing_of end_of refused accepts
closing_accepted head total populations s so =
    by_tests (eqb (closing_refusal total s) accepted) (eqb (length (rest_of s)) 0) refl
  where
    by_tests : (t u : Bool) → eqb (closing_refusal total s) accepted ≡ t
        → (cond t (cond u (accepts head total populations) (refused line_ill_formed (head.states + 3)))
        (refused (closing_refusal total s) (head.states + 2))).refusal ≡ accepted
        → Accepted head (cond t (cond u (accepts head total populations) (refused line_ill_formed (head.states + 3)))
        (refused (closing_refusal total s) (head.states + 2)))
    by_tests true true closing good = record { counted = refl; housed = refl; lined = refl; peopled = so }
    by_tests true false closing good = absurd (omega arith)
    by_tests false u closing good = absurd (eqb-false (closing_refusal total s) accepted closing good)

-- A state's line and what follows it were not refused: neither was the line, and what is read is what the rest gives.
module _ (head : HeadOutcome) (first : List ℕ) (left k total : ℕ) (populations s : List ℕ)
    (good : (states_from head first (suc left) k total populations s).refusal ≡ accepted) where
  line_accepted : state_refusal first k total s ≡ accepted
  unfolding states_from refused
  line_accepted =
      either_way (eqb (state_refusal first k total s) accepted)
      (λ here. eqb-true (state_refusal first k total s) accepted here)
      (λ here. rw here at good)

  rest_is : states_from head first (suc left) k total populations s
      ≡ states_from head first left (k + 1) (total + number_at s) (set populations k (number_at s)) (rest_of s)
  rest_is = states_passed head first (suc left) left k total populations s refl line_accepted

  rest_accepted : (states_from head first left (k + 1) (total + number_at s) (set populations k (number_at s)) (rest_of s)).refusal
      ≡ accepted
  rest_accepted = rw rest_is at good

states_accepted : (head : HeadOutcome) (first : List ℕ) (left k total : ℕ) (populations s : List ℕ)
    → head.states ≤ state_limit → k + left ≡ head.states → SoFar k total populations
    → (states_from head first left k total populations s).refusal ≡ accepted
    → Accepted head (states_from head first left k total populations s)
unfolding states_from
states_accepted head first zero k total populations s few all so good =
    closing_accepted head total populations s (subst (λ n. SoFar n total populations) (omega arith) so) good
states_accepted head first (suc left) k total populations s few all so good =
    let line = state_sound first k total s (line_accepted head first left k total populations s good) in
    let more = so_far_more k total (number_at s) populations so (omega arith) line.peopled line.fits in
    subst (Accepted head) (sym (rest_is head first left k total populations s good))
    (states_accepted head first left (k + 1) (total + number_at s) (set populations k (number_at s)) (rest_of s) few (omega arith) more
    (rest_accepted head first left k total populations s good))

-- A register is not refused: neither is its head, and what is read is what the states' lines give.
module _ (s : List ℕ) (good : (reading_of s).refusal ≡ accepted) where
  short_enough : ltb register_limit (length s) ≡ false
  unfolding reading_of refused
  short_enough =
      either_way (ltb register_limit (length s)) (λ long. absurd (omega (arith, rw long at good))) (λ fine. fine)

  head_accepted : (head_of s).refusal ≡ accepted
  unfolding reading_of lines_of refused
  head_accepted =
      either_way (eqb (head_of s).refusal accepted)
      (λ here. eqb-true (head_of s).refusal accepted here)
      (λ here. rw (short_enough, here) at good)

  reading_is : reading_of s ≡ states_from (head_of s) (rest_of s) (head_of s).states 0 0 no_populations (rest_of s)
  unfolding reading_of lines_of states_of
  reading_is = rw (short_enough, eq-eqb (head_of s).refusal accepted head_accepted)

  reading_accepted : Accepted (head_of s) (reading_of s)
  reading_accepted =
      subst (Accepted (head_of s)) (sym reading_is)
      (states_accepted (head_of s) (rest_of s) (head_of s).states 0 0 no_populations (rest_of s)
      (head_sound s head_accepted).states.1 (omega arith) so_far_none (rw reading_is at good))

  pub reading_counted : (reading_of s).states ≡ (head_of s).states
  reading_counted = reading_accepted.counted

  -- No line is at fault.
  pub reading_lined : (reading_of s).line ≡ 0
  reading_lined = reading_accepted.lined

-- What a caller may take from a reading.
pub record ReadingSound (r : ReadingOutcome) : Type 0 where
  pub states : (1 ≤ r.states) × (r.states ≤ state_limit)
  pub house : (1 ≤ r.house) × (r.house ≤ house_limit)
  pub populations : SoFar r.states r.total r.populations

pub reading_sound : (s : List ℕ) → (reading_of s).refusal ≡ accepted → ReadingSound (reading_of s)
reading_sound s good =
    let head = head_sound s (head_accepted s good) in
    let r = reading_accepted s good in
    record {
      states = rw r.counted head.states;
      house = rw r.housed head.house;
      populations = r.peopled;
    }

-- A register that reading does not refuse, and what it says.
pub record GoodReading (s : List ℕ) (r : ReadingOutcome) : Type 0 where
  pub reading : r ≡ reading_of s
  pub good : r.refusal ≡ accepted

pub good_sound : {s : List ℕ} {r : ReadingOutcome} → GoodReading s r → ReadingSound r
good_sound {s} read = rw read.reading (reading_sound s (rw read.reading at read.good))

-- ---- the names of the states

states_named : (head : HeadOutcome) (first : List ℕ) (left k total : ℕ) (populations s : List ℕ)
    → (states_from head first left k total populations s).refusal ≡ accepted
    → (i : ℕ) → i < left → is_name (name_at (lines_after i s)) ≡ true
unfolding lines_after
states_named head first zero k total populations s good i below = absurd (omega arith)
states_named head first (suc left) k total populations s good zero below =
    (state_sound first k total s (line_accepted head first left k total populations s good)).named
states_named head first (suc left) k total populations s good (suc i) below =
    states_named head first left (k + 1) (total + number_at s) (set populations k (number_at s)) (rest_of s)
    (rest_accepted head first left k total populations s good) i (omega arith)

-- Each state of a register that is read has a well-formed name on its line, which is the name of its place.
pub reading_named : (s : List ℕ) → (reading_of s).refusal ≡ accepted
    → (i : ℕ) → i < (reading_of s).states → is_name (name_at (lines_after i (rest_of s))) ≡ true
reading_named s good i below =
    states_named (head_of s) (rest_of s) (head_of s).states 0 0 no_populations (rest_of s) (rw (reading_is s good) at good) i
    (rw (reading_accepted s good).counted at below)

pub name_there : (s : List ℕ) (i : ℕ) → (reading_of s).refusal ≡ accepted → i < (reading_of s).states
    → name_of s i ≡ name_at (lines_after i (rest_of s))
unfolding name_of name_refusal_of name_refusal_in
name_there s i good below = rw (eq-eqb (reading_of s).refusal accepted good, lt-ltb i (reading_of s).states below)

pub name_none : (s : List ℕ) (i : ℕ) → (reading_of s).refusal ≡ accepted → (reading_of s).states ≤ i → name_of s i ≡ []
unfolding name_of name_refusal_of name_refusal_in
name_none s i good past = rw (eq-eqb (reading_of s).refusal accepted good, le-ltb i (reading_of s).states past)

-- No name stands on a line before its own.
states_apart : (head : HeadOutcome) (first : List ℕ) (left k total : ℕ) (populations s : List ℕ) → s ≡ lines_after k first
    → (states_from head first left k total populations s).refusal ≡ accepted
    → (i j : ℕ) → i < k + j → j < left → same_list (name_at (lines_after i first)) (name_at (lines_after j s)) ≡ false
unfolding lines_after
states_apart head first zero k total populations s here good i j earlier below = absurd (omega arith)
states_apart head first (suc left) k total populations s here good i zero earlier below =
    let line = state_sound first k total s (line_accepted head first left k total populations s good) in
    rw (name_on_line i first) at (unused_on k first (name_at s) line.unused i (omega arith))
states_apart head first (suc left) k total populations s here good i (suc j) earlier below =
    states_apart head first left (k + 1) (total + number_at s) (set populations k (number_at s)) (rest_of s)
    (rw (here, add-one, lines_next k first)) (rest_accepted head first left k total populations s good) i j (omega arith) (omega arith)

-- The names of a register that is read differ.
pub reading_apart : (s : List ℕ) → (reading_of s).refusal ≡ accepted → (i j : ℕ) → i < j → j < (reading_of s).states
    → same_list (name_at (lines_after i (rest_of s))) (name_at (lines_after j (rest_of s))) ≡ false
unfolding lines_after
reading_apart s good i j earlier below =
    states_apart (head_of s) (rest_of s) (head_of s).states 0 0 no_populations (rest_of s) refl (rw (reading_is s good) at good) i j
    (omega arith) (rw (reading_accepted s good).counted at below)

-- What writing a listing comes to in each of its cases, and why every listing fits the array in which it is first written: what neither
-- reading nor allotting refuses is within every limit.
-- Assumes nothing.
use Rattle.std.specs.Prelude.{◌≡◌, List, ℕ, ◌<◌, ◌≤◌, eqb, length, get_or, Result, Ok, Err}
use Rattle.std.proofs.Common.{sym, ap, ◌∙◌, arith, length-take-le}
use borrow.Author.Tests.{eq-eqb, eqb-true, eqb-false}
use Rattle.apportionment.specs.inner.Tests.{either_way}
use Rattle.apportionment.specs.Refusals.{accepted, refusal_number, refusal_of}
use Rattle.apportionment.specs.inner.Checks.{refusal_has_number}
use Rattle.apportionment.specs.inner.Lists.{entry_at_most_sum}
use Rattle.apportionment.specs.Allotment.{allot_refusal, seats_after}
use Rattle.problem.specs.inner.Passed.{Allottable, allot_passed}
use Rattle.apportionment.specs.declared.refusals.Refusal.{Refusal}
use Rattle.allot.specs.Allot.{AllotmentIs}
use Rattle.departure.specs.inner.Answer.{InLimits}
use Rattle.handover.specs.Handover.{refused, written_in, WritingIs}
use Rattle.handover.specs.inner.Handover.{writing_refused}
use Rattle.handover.specs.Handover.{Written}
use Rattle.apportionment.specs.declared.refusals.Refused.{Refused}
use Rattle.register.specs.Register.{reading_of, reading_outcome, populations_in, refused as reading_failed}
use Rattle.register.specs.Register.{ReadingOutcome}
use Rattle.register.specs.Register.{rows_of, name_in_row}
use Rattle.register.specs.inner.Sound.{ReadingSound, reading_sound, reading_lined, GoodReading}
use Rattle.register.specs.inner.Rows.{name_limited}
use Rattle.listing.specs.Listing.{seats_in, listing_in, listing_of, list_refusal_in, ListingIs}
use Rattle.listing.specs.inner.Rows.{listing_by_rows}
use Rattle.allot.specs.inner.Shared.{Shared, allotment_shared}
use Rattle.listing.specs.inner.Room.{AllListable, listing_room, listing_has_room}

-- ---- what is not refused may be listed

-- Allotting's refusal of what was read.
abbrev allot_refusal_in : ReadingOutcome → ℕ
allot_refusal_in r = allot_refusal r.method r.house (populations_in r) r.states

module _ (s : List ℕ) (good : (reading_of s).refusal ≡ accepted) (allotted : allot_refusal_in (reading_of s) ≡ accepted) where
  sound : ReadingSound (reading_of s)
  sound = reading_sound s good

  each_read : (reading_of s).states ≤ length (reading_of s).populations
  each_read = omega (arith, sound.populations.room, sound.states)

  counted : length (populations_in (reading_of s)) ≡ (reading_of s).states
  counted = length-take-le _ _ each_read

  passed : Allottable (reading_of s).method (reading_of s).house (populations_in (reading_of s)) (reading_of s).states
  passed = allot_passed _ _ _ _ allotted

  shared : Shared (reading_of s).states (reading_of s).house (seats_in (reading_of s))
  unfolding seats_in
  shared = rw counted at (allotment_shared _ _ _ _ passed)

  within : (i : ℕ) → i < (reading_of s).states
      → InLimits (get_or (populations_in (reading_of s)) i 0) (get_or (seats_in (reading_of s)) i 0) (reading_of s).total
      (reading_of s).house
  within i below =
      let so = sound.populations in
      let some = passed.problem.states.peopled i (omega (arith, counted)) in
      let most = entry_at_most_sum (populations_in (reading_of s)) i in
      record {
        some_total = omega (arith, so.summed);
        total_limited = so.limited;
        some_house = sound.house.0;
        house_limited = sound.house.1;
        some_people = some;
        people_within_lem = omega (arith, so.summed);
        seats_within_lem = omega (arith, shared.whole, entry_at_most_sum (seats_in (reading_of s)) i);
      }

  -- Every number of what was read and allotted is within its limits.
  pub register_listable : AllListable (reading_of s) (name_in_row (rows_of s)) (seats_in (reading_of s))
  register_listable =
      record {
        few_states_lem = sound.states.1;
        house_limited = sound.house.1;
        total_limited = sound.populations.limited;
        each_read = each_read;
        house_seated = shared.whole;
        each_seated = shared.states;
        short_names = name_limited s good;
        each_in_limits = within;
      }

  -- So every listing fits.
  pub listing_fits : length (listing_of s) ≤ listing_room
  listing_fits = rw (listing_by_rows s good) (listing_has_room register_listable)

-- ---- the cases

-- A refusal of reading, with its line.
pub reading_refused : (s before : List ℕ) (e : Refused) → reading_outcome (Err e) ≡ reading_of s
    → ListingIs s before (written_in (Err e)) before
unfolding list_refusal_in reading_failed
reading_refused s before e told =
    writing_refused (listing_of s) before (rw (← told, refusal_has_number e.refusal)) (rw (← told))
    (eqb-false _ _ (refusal_has_number e.refusal))

-- Where reading does not refuse, allotting's refusal decides.
allotting_decides : (s : List ℕ) → (reading_of s).refusal ≡ accepted → list_refusal_in (reading_of s) ≡ allot_refusal_in (reading_of s)
unfolding list_refusal_in
allotting_decides s good = rw (eq-eqb (reading_of s).refusal accepted good)

-- Every listing has room in a page of that size.
pub listing_in_page : (s : List ℕ) {room : ℕ} → listing_room ≤ room → list_refusal_in (reading_of s) ≡ accepted
    → length (listing_of s) ≤ room
unfolding list_refusal_in
listing_in_page s enough none =
    either_way (eqb (reading_of s).refusal accepted)
    (λ good. omega (arith, listing_fits s (eqb-true _ _ good) (rw good at none)))
    (λ bad. absurd (eqb-false _ _ bad (rw bad at none)))

-- ---- reading and allotting, as the code has them

told_good : {s : List ℕ} {r : ReadingOutcome} → GoodReading s r → (reading_of s).refusal ≡ accepted
told_good read = rw read.reading at read.good

module _ {s : List ℕ} {r : ReadingOutcome} (read : GoodReading s r) {before after : List ℕ} (each : length before ≡ r.states) where
  refusal_told : {a : Result ℕ Refusal} → AllotmentIs r.method r.house (populations_in r) before after a → refusal_of a ≡ allot_refusal_in r
  refusal_told allotted = allotted.refusal ∙ rw each

  -- Allotting refuses.
  pub told_refused : {refusal : Refusal} → AllotmentIs r.method r.house (populations_in r) before after (Err refusal)
      → (buffer : List ℕ) → ListingIs s buffer (refused (refusal_number refusal) 0) buffer
  told_refused {refusal} allotted buffer =
      writing_refused (listing_of s) buffer
      (allotting_decides s (told_good read) ∙ sym (refusal_told allotted ∙ ap allot_refusal_in read.reading))
      (reading_lined s (told_good read)) (eqb-false _ _ (refusal_has_number refusal))

  module _ {steps : ℕ} (allotted : AllotmentIs r.method r.house (populations_in r) before after (Ok steps)) where
    told_accepted : allot_refusal_in (reading_of s) ≡ accepted
    told_accepted = rw read.reading at (sym (refusal_told allotted))

    told_seats : after ≡ seats_in r
    unfolding seats_in seats_after
    told_seats = allotted.seats ∙ rw (each, eq-eqb _ _ (sym (refusal_told allotted)))

    -- What it allots may be listed ..
    pub told_listable : {rows : List ℕ} → rows ≡ rows_of s → AllListable r (name_in_row rows) after
    told_listable at_rows = rw (told_seats, at_rows, read.reading) (register_listable s (told_good read) told_accepted)

    -- .. and handed over.
    pub told_listed : {rows : List ℕ} → rows ≡ rows_of s → {buffer : List ℕ} {x : Written} {later : List ℕ}
        → WritingIs accepted 0 (listing_in r (name_in_row rows) after) buffer x later → ListingIs s buffer x later
    told_listed at_rows over =
        rw (allotting_decides s (told_good read), told_accepted, reading_lined s (told_good read), listing_by_rows s (told_good read))
        (rw (told_seats, at_rows, read.reading) at over)

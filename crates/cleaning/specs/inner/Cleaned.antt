-- What writing a clean form comes to in each of its cases, and that what was read may be written clean.
-- Assumes nothing.
use Rattle.std.specs.Prelude.{◌≡◌, List, ℕ, ◌≤◌, length, Err}
use Rattle.std.proofs.Common.{arith}
use Rattle.apportionment.specs.Refusals.{accepted}
use Rattle.register.specs.Register.{reading_of, populations_in}
use Rattle.register.specs.Register.{rows_of, name_in_row, name_of}
use Rattle.register.specs.inner.Rows.{name_limited}
use Rattle.register.specs.inner.Sound.{reading_sound, reading_lined, GoodReading, name_there}
use Rattle.apportionment.specs.declared.refusals.Refused.{Refused}
use Rattle.apportionment.specs.inner.Checks.{refusal_has_number}
use Rattle.std.proofs.lemmas.Bool.{eqb-false}
use Rattle.register.specs.Register.{ReadingOutcome, reading_outcome, refused as reading_failed}
use Rattle.handover.specs.Handover.{Written, written_in, WritingIs}
use Rattle.handover.specs.inner.Handover.{writing_refused}
use Rattle.cleaning.specs.Clean.{no_tail, clean_in, clean_of, CleanIs}
use Rattle.cleaning.specs.inner.Stored.{stored_agree}
use Rattle.cleaning.specs.inner.Room.{clean_room, Cleanable, counted, clean_has_room}

-- ---- what was read

module _ (s : List ℕ) (good : (reading_of s).refusal ≡ accepted) where
  pub register_cleanable : Cleanable (reading_of s) (name_in_row (rows_of s))
  register_cleanable = record { sound = reading_sound s good; short_names = name_limited s good }

  -- The clean form by the rows of the register, which hold the names.
  pub clean_by_rows : clean_of s ≡ clean_in (reading_of s) (name_in_row (rows_of s))
  unfolding clean_of clean_in
  clean_by_rows =
      stored_agree _ _ _ (name_of s) (name_in_row (rows_of s)) no_tail (populations_in (reading_of s))
      (λ i below. name_there s i good (omega (arith, counted register_cleanable)))

  -- So every clean form fits.
  pub clean_fits : length (clean_of s) ≤ clean_room
  clean_fits = rw clean_by_rows (omega (arith, clean_has_room register_cleanable, (reading_sound s good).states))

-- Every clean form has room in a page of that size.
pub clean_in_page : (s : List ℕ) {room : ℕ} → clean_room ≤ room → (reading_of s).refusal ≡ accepted → length (clean_of s) ≤ room
clean_in_page s enough good = omega (arith, clean_fits s good)

-- ---- the cases, as the code has them

-- A refusal of reading, with its line.
pub reading_refused : (s before : List ℕ) (e : Refused) → reading_outcome (Err e) ≡ reading_of s
    → CleanIs s before (written_in (Err e)) before
unfolding reading_failed
reading_refused s before e told =
    writing_refused (clean_of s) before (rw (← told)) (rw (← told)) (eqb-false _ _ (refusal_has_number e.refusal))

module _ {s : List ℕ} {r : ReadingOutcome} (read : GoodReading s r) {rows : List ℕ} (at_rows : rows ≡ rows_of s) where
  was_good : (reading_of s).refusal ≡ accepted
  was_good = rw read.reading at read.good

  -- What was read may be written clean ..
  pub read_cleanable : Cleanable r (name_in_row rows)
  read_cleanable = rw (at_rows, read.reading) (register_cleanable s was_good)

  -- .. and handed over.
  pub read_cleaned : {before after : List ℕ} {x : Written}
      → WritingIs accepted 0 (clean_in r (name_in_row rows)) before x after → CleanIs s before x after
  read_cleaned over =
      rw (was_good, reading_lined s was_good, clean_by_rows s was_good) (rw (at_rows, read.reading) at over)

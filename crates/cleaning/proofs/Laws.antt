-- The four laws of clean copies: what an office may rely on that hands registers on. First by the definitions, of any registers that
-- reading does not refuse; then of any runs of the operation that were not refused, by its contract.
-- Assumes nothing.
use mathlib.Core.Path.{◌≡◌, refl, sym, ap, ◌∙◌}
use mathlib.Core.List.{List}
use Prim.Native.Nat.{ℕ, ◌<◌, ◌≤◌}
use native.Mathlib.Omega.{arith}
use borrow.Author.Tests.{ltb-true, ltb-false}
use lib.Dec.{ltb}
use lib.ListN.{take}
use contract.Lifetimes.{Lfts}
use denote.Triple.Clauses.{AtExit}
use borrow.Fn.Kinds.{Dens, ended_of}
use Rattle.apportionment.specs.Refusals.{accepted}
use Rattle.apportionment.specs.inner.Tests.{either_way}
use Rattle.register.specs.Register.{reading_of, populations_in}
use Rattle.register.specs.Register.{name_of}
use Rattle.register.specs.Register.{ReadingOutcome}
use Rattle.register.specs.inner.Sound.{reading_sound, name_none}
use Rattle.register.specs.inner.Written.{reading_writable, read_count, read_with}
use Rattle.handover.specs.Handover.{written_in}
use Rattle.handover.specs.inner.Handover.{written_unless_refused}
use Rattle.std.specs.Prelude.{Ok}
use Rattle.cleaning.specs.Clean.{no_tail, clean_in, clean_of, CleanIs, Agree}
use Rattle.cleaning.specs.inner.Stored.{stored_agree}
use Rattle.cleaning.specs.inner.Back.{reads_back, names_back}
use Rattle.cleaning.proofs.write_clean.Reads as clean-reads
use Rattle.cleaning.proofs.write_clean.Kinds as clean-kinds

-- ---- by the definitions

-- A register that is accepted.
abbrev pub IsAccepted : (s : List ℕ) → Type 0
IsAccepted s = (reading_of s).refusal ≡ accepted

module _ (s : List ℕ) (good : IsAccepted s) where
  -- Reading the clean form yields what the original yielded ..
  pub clean_is_read : reading_of (clean_of s) ≡ reading_of s
  unfolding clean_of clean_in
  clean_is_read =
      reads_back (reading_of s).method (reading_sound s good).house (reading_writable s good) ∙ sym (read_with s good)

  -- .. so the clean form of an accepted register is accepted ..
  pub clean_accepted : IsAccepted (clean_of s)
  clean_accepted = rw clean_is_read good

  -- .. and has the same names.
  pub clean_names : (place : ℕ) → name_of (clean_of s) place ≡ name_of s place
  unfolding clean_of clean_in
  clean_names place =
      either_way (ltb place (reading_of s).states)
      (λ e.
      let below : place < (reading_of s).states = ltb-true place (reading_of s).states e in
      names_back (reading_of s).method (reading_sound s good).house (reading_writable s good) place
      (omega (arith, read_count s good)))
      (λ e.
      let past : (reading_of s).states ≤ place = ltb-false place (reading_of s).states e in
      name_none (clean_of s) place clean_accepted (rw clean_is_read past) ∙ sym (name_none s place good past))

-- Registers that agree have equal clean forms.
agree_equal : {s t : List ℕ} → Agree s t → clean_of s ≡ clean_of t
unfolding clean_of clean_in
agree_equal {s} {t} same =
    rw (same.method, same.house, same.populations)
    (stored_agree _ _ _ (name_of s) (name_of t) no_tail (populations_in (reading_of t)) (λ place _. same.names place))

-- Cleaning a second time alters no byte.
pub clean_twice : (s : List ℕ) → IsAccepted s → clean_of (clean_of s) ≡ clean_of s
clean_twice s good = agree_equal (clean_agrees s good)
  where
    clean_agrees : (s : List ℕ) → IsAccepted s → Agree (clean_of s) s
    clean_agrees s good =
        record {
          method = ap (λ (r : ReadingOutcome). r.method) (clean_is_read s good);
          house = ap (λ (r : ReadingOutcome). r.house) (clean_is_read s good);
          populations = ap populations_in (clean_is_read s good);
          names = clean_names s good;
        }

-- Two accepted registers have equal clean forms exactly when they agree.
pub clean_equal : (s t : List ℕ) → IsAccepted s → IsAccepted t → (clean_of s ≡ clean_of t → Agree s t)
    × (Agree s t → clean_of s ≡ clean_of t)
clean_equal s t good fine = (agree, agree_equal)
  where
    agree : clean_of s ≡ clean_of t → Agree s t
    agree same =
        let read : reading_of s ≡ reading_of t = sym (clean_is_read s good) ∙ ap reading_of same ∙ clean_is_read t fine in
        record {
          method = ap (λ (r : ReadingOutcome). r.method) read;
          house = ap (λ (r : ReadingOutcome). r.house) read;
          populations = ap populations_in read;
          names = λ place. sym (clean_names s good place) ∙ ap (λ (x : List ℕ). name_of x place) same ∙ clean_names t fine place;
        }

-- ---- by the contract: runs

-- One run of cleaning that was not refused: by its contract, given these bytes, it left this copy.
pub record Run (s copy : List ℕ) : Type 0 where
  -- The run as its contract has it: for how long the two lists are lent, what is given, what stands there at the end, the length answered.
  pub lasting : Lfts 2
  pub given : Dens lasting clean-kinds.ps
  pub ended : AtExit (ended_of 2 clean-kinds.ps clean-kinds.r) lasting
  pub size : ℕ
  -- It was given s, and left the copy at the front of the other list.
  pub register : given.0.now ≡ s
  pub left : take size ended.1.0.now ≡ copy
  -- Its contract holds of that answer, which is no refusal.
  pub contract : clean-reads.Post lasting given (Ok size) ended

-- So the register is accepted, and the copy left is its clean form.
run_cleans : {s copy : List ℕ} → Run s copy → (IsAccepted s) × (copy ≡ clean_of s)
run_cleans {s} {copy} run =
    let promise : CleanIs s run.given.1.0.now (written_in (Ok run.size)) run.ended.1.0.now = rw run.register at run.contract in
    let whole = written_unless_refused promise refl in
    (whole.0, sym run.left ∙ whole.1)

module _ {s copy : List ℕ} (run : Run s copy) where
  -- Reading the copy yields what the register yielded, so that it is accepted ..
  pub runs_read : reading_of copy ≡ reading_of s
  runs_read = rw (run_cleans run).1 (clean_is_read s (run_cleans run).0)

  pub runs_accepted : IsAccepted copy
  runs_accepted = rw runs_read (run_cleans run).0

  -- .. and so are its names.
  pub runs_names : (place : ℕ) → name_of copy place ≡ name_of s place
  runs_names place = rw (run_cleans run).1 (clean_names s (run_cleans run).0 place)

  -- Cleaning a second time alters no byte.
  pub runs_twice : {again : List ℕ} → Run copy again → again ≡ copy
  runs_twice {again} second =
      (run_cleans second).1 ∙ rw (run_cleans run).1 (clean_twice s (run_cleans run).0)

-- Two registers have equal copies exactly when they agree.
pub runs_equal : {s t x y : List ℕ} → Run s x → Run t y → (x ≡ y → Agree s t) × (Agree s t → x ≡ y)
runs_equal {s} {t} one other =
    let first = run_cleans one in
    let second = run_cleans other in
    rw (first.1, second.1) (clean_equal s t first.0 second.0)

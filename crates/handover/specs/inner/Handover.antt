-- What handing a text over to a lent buffer comes to in each of its cases, and what a program prints that has room for every text. Every
-- writer cites these laws.
-- Assumes nothing.
use Rattle.std.specs.Prelude.{◌≡◌, refl, cond, List, ◌++◌, ℕ, ◌^◌, ◌<◌, ◌≤◌, leb, eqb, take}
use Rattle.std.proofs.Common.{◌∙◌, arith}
use borrow.Author.Tests.{eq-eqb, ne_eqb, eqb-true, eqb-false, le-leb, lt-leb}
use Rattle.std.proofs.Math.ListN.{length, drop}
use Rattle.std.proofs.Math.Seq.{take-append_seam}
use Rattle.apportionment.specs.Refusals.{accepted, buffer_too_short}
use Rattle.apportionment.specs.inner.Tests.{either_way}
use Rattle.writing.specs.inner.Writing.{Wrote, AtFront, front_wrote}
use Rattle.text.specs.Shared.{refusal_line}
use Rattle.text.specs.inner.Bounds.{refusal_line_length}
use Rattle.handover.specs.Handover.{Written, refused, written_of, buffer_after, WritingIs, printed_of}

-- ---- the cases

-- The operation itself refuses, with this number and line.
pub writing_refused : {number line n l : ℕ} (text before : List ℕ) → number ≡ n → line ≡ l → (n ≡ accepted → ⊥)
    → WritingIs number line text before (refused n l) before
unfolding written_of buffer_after
writing_refused {number} {line} {n} {l} text before told here bad =
    let test = ne_eqb n accepted bad in
    record { answer = rw (told, here, test); buffer = rw test }

-- The text fits, and was copied to the front.
pub text_fitted : {text before after : List ℕ} → after ≡ text ++ drop (length text) before → length text ≤ length before
    → WritingIs accepted 0 text before (record { refusal = accepted; line = 0; size = length text }) after
unfolding written_of buffer_after
text_fitted {text} {before} copied fits = record { answer = rw (le-leb (length text) (length before) fits); buffer = copied }

-- It is longer than the buffer.
pub text_too_long : (text before : List ℕ) → length before < length text
    → WritingIs accepted 0 text before (refused buffer_too_short 0) before
unfolding written_of buffer_after
text_too_long text before longer = record { answer = rw (lt-leb (length text) (length before) longer); buffer = refl }

-- ---- for a writer

-- A text that was written at the front of a page is handed over from there, where the operation itself does not refuse.
pub handed_over : {number line : ℕ} {text page before after : List ℕ} {size : ℕ} {r : Written} → number ≡ accepted → AtFront text page size
    → WritingIs accepted 0 (take size page) before r after → WritingIs number line text before r after
unfolding written_of
handed_over {number} {line} {text} {page} {before} {after} {size} {r} good front over =
    let whole : WritingIs accepted 0 text before r after = rw front.bytes at over in
    record { answer = whole.answer ∙ rw good; buffer = whole.buffer }

-- ---- for a caller

-- A writing that was not refused: the operation itself did not refuse, and the text stands at the front of the buffer.
pub written_unless_refused : {number line : ℕ} {text before : List ℕ} {r : Written} {after : List ℕ}
    → WritingIs number line text before r after → r.refusal ≡ accepted → (number ≡ accepted) × (take r.size after ≡ text)
unfolding written_of buffer_after
written_unless_refused {number} {line} {text} {before} {r} {after} is none =
    either_way (eqb number accepted)
    (λ good.
    either_way (leb (length text) (length before))
    (λ fits.
    let answer : r ≡ record { refusal = accepted; line = 0; size = length text } = is.answer ∙ rw (good, fits) in
    let left : after ≡ text ++ drop (length text) before = is.buffer ∙ rw (eq-eqb r.refusal accepted none) in
    (eqb-true number accepted good, rw (answer, left) (take-append_seam text (drop (length text) before))))
    (λ longer.
    let answer : r ≡ refused buffer_too_short 0 = is.answer ∙ rw (good, longer) in
    absurd (omega (arith, rw answer at none))))
    (λ bad.
    let answer : r ≡ refused number line = is.answer ∙ rw bad in
    absurd (eqb-false number accepted bad (rw answer at none)))

-- ---- for a program

-- What is printed is written at the front of the page, which has room for it.
abbrev pub Printed : (number line : ℕ) (text before after : List ℕ) (end : ℕ) → Type 0
Printed number line text before after end =
    Wrote before 0 (printed_of number line text) after end × (length (printed_of number line text) ≤ length before)

module _ {number line : ℕ} {text before : List ℕ} {r : Written} {after : List ℕ} (is : WritingIs number line text before r after)
    (room : number ≡ accepted → length text ≤ length before) where
  -- The answer is the operation's own: 31 is never given.
  pub own_answer : r ≡ cond (eqb number accepted) (record { refusal = accepted; line = 0; size = length text }) (refused number line)
  unfolding written_of
  own_answer =
      is.answer
      ∙ either_way (eqb number accepted)
      (λ good. rw (good, le-leb (length text) (length before) (room (eqb-true number accepted good))))
      (λ bad. rw bad)

  -- The text.
  pub text_printed : r.refusal ≡ accepted → Printed number line text before after r.size
  unfolding printed_of buffer_after
  text_printed none =
      either_way (eqb number accepted)
      (λ good.
      let answer : r ≡ record { refusal = accepted; line = 0; size = length text } = own_answer ∙ rw good in
      let page : after ≡ text ++ drop (length text) before = is.buffer ∙ rw (eq-eqb r.refusal accepted none) in
      let fits = room (eqb-true number accepted good) in
      (rw (good, page, answer) (front_wrote text before fits), rw good fits))
      (λ bad.
      let answer : r ≡ refused number line = own_answer ∙ rw bad in
      absurd (eqb-false number accepted bad (rw answer at none)))

  -- A refusal's line, once it is written there: the operation left the page as it was.
  pub refusal_printed : (r.refusal ≡ accepted → ⊥) → r.refusal < 2 ^ 64 → r.line < 2 ^ 64 → 50 ≤ length before
      → {last : List ℕ} {end : ℕ} → Wrote after 0 (refusal_line r.refusal r.line) last end
      → Printed number line text before last end
  unfolding printed_of buffer_after
  refusal_printed some few small enough {last} {end} wrote =
      let kept : after ≡ before = is.buffer ∙ rw (ne_eqb r.refusal accepted some) in
      either_way (eqb number accepted)
      (λ good.
      let answer : r ≡ record { refusal = accepted; line = 0; size = length text } = own_answer ∙ rw good in
      absurd (some (rw answer)))
      (λ bad.
      let answer : r ≡ refused number line = own_answer ∙ rw bad in
      let short : length (refusal_line number line) ≤ 50 = rw answer at (refusal_line_length r.refusal r.line few small) in
      (rw bad (rw (kept, answer) at wrote), rw bad (omega (arith, short))))

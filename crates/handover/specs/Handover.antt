-- Document 01, "Operations": what every operation that writes into a lent buffer hands back, and what the buffer holds afterwards.
use Rattle.std.specs.Prelude.{◌≡◌, ◌++◌, cond, List, ℕ, leb, eqb, length, drop, Result, Ok, Err}
use Rattle.apportionment.specs.Refusals.{accepted, buffer_too_short, refusal_number}
use Rattle.apportionment.specs.declared.{refusals.Refusal.Refusal, refusals.Refused.Refused}
use Rattle.text.specs.Shared.{refusal_line}

pub record Written : Type 0 where  -- What comes of writing: a refusal's number and line, or 0, 0 and the text's length.
  pub refusal : ℕ
  pub line : ℕ
  pub size : ℕ

abbrev pub refused : (number line : ℕ) → Written  -- A refusal: its number and line, and no text.
refused number line = record { refusal = number; line = line; size = 0 }

abbrev pub written_in : Result ℕ Refused → Written  -- So the code tells it: the length, or a refusal and its line.
written_in (Ok size) = record { refusal = accepted; line = 0; size = size }
written_in (Err e) = refused (refusal_number e.refusal) e.line

abbrev pub handed_in : Result ℕ Refusal → Written  -- The same where no line is at fault.
handed_in (Ok size) = record { refusal = accepted; line = 0; size = size }
handed_in (Err refusal) = refused (refusal_number refusal) 0

unfoldable pub written_of : (number line : ℕ) (text : List ℕ) (room : ℕ) → Written  -- The operation's own refusals, then 31 if too long.
written_of number line text room =
    let fitted = cond (leb (length text) room) (record { refusal = accepted; line = 0; size = length text }) (refused buffer_too_short 0) in
    cond (eqb number accepted) fitted (refused number line)

unfoldable pub buffer_after : (refusal : ℕ) (text buffer : List ℕ) → List ℕ  -- The text, then the old bytes; refused, every byte as it was.
buffer_after refusal text buffer = cond (eqb refusal accepted) (text ++ drop (length text) buffer) buffer

pub record WritingIs (number line : ℕ) (text before : List ℕ) (r : Written) (after : List ℕ) : Type 0 where  -- The promise of writing.
  pub answer : r ≡ written_of number line text (length before)
  pub buffer : after ≡ buffer_after r.refusal text before

unfoldable pub printed_of : (number line : ℕ) (text : List ℕ) → List ℕ  -- What a program prints: the text, or the line of its refusal.
printed_of number line text = cond (eqb number accepted) text (refusal_line number line)

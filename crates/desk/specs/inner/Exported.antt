-- Laws of the records of the C interface, which proofs cite.
-- Assumes nothing.
use Rattle.std.specs.Prelude.{◌≡◌, ℕ, Option, Result}
use Rattle.apportionment.specs.Refusals.{refusal_of}
use Rattle.apportionment.specs.declared.refusals.Refusal.{Refusal}
use Rattle.departure.specs.Answer.{AnswerIs, shown_in, mark_in}
use Rattle.departure.specs.declared.Shown.{Shown}
use Rattle.desk.specs.declared.DeskShown.{DeskShown}
use Rattle.desk.specs.Interface.{exported_shown, exported_departure}

-- That record from an answer's number and values, and from those of the operation.
unfoldable pub exported_answer : Result (Option Shown) Refusal → DeskShown
exported_answer answer = exported_shown (refusal_of answer) (shown_in answer) (mark_in answer)

-- The answer that the operation promises gives the operation's record.
pub answer_exported : {p a P H : ℕ} {answer : Result (Option Shown) Refusal}
    → AnswerIs p a P H answer → exported_answer answer ≡ exported_departure p a P H
unfolding exported_answer exported_departure
answer_exported is = rw (is.number, is.shown, is.mark)

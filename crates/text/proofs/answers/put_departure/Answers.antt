-- `text::answers::put_departure` meets its contract: each arm writes the text of what its answer shows.
use Rattle.std.proofs.Common.{◌≡◌, Ok, Some, None, rules}
use mir.Syntax.{w64}
use mir.ValLaws.{to_z-of_z}
use Rattle.std.proofs.Math.Option.{Option-elim}
use Rattle.departure.specs.Answer.{shown_in}
use Rattle.text.proofs.answers.put_departure.Goals as goal

pub returns-in-Ok-Some : goal.returns-in-Ok-Some
unfolding shown_in Option-elim
returns-in-Ok-Some c =
    let is : c.args.answer ≡ Ok (Some c.in-Ok-Some.exact) = search rules in
    rw (is, ← to_z-of_z w64 c.in-Ok-Some.exact.shown (search rules)) c.put_shown.ensures

pub returns-in-Ok-None : goal.returns-in-Ok-None
unfolding shown_in Option-elim
returns-in-Ok-None c =
    let is : c.args.answer ≡ Ok None = search rules in
    rw is c.put_bytes.ensures

pub returns-in-Err : goal.returns-in-Err
unfolding shown_in Option-elim
returns-in-Err c = rw c.in-Err.is c.put_bytes-in-Err.ensures

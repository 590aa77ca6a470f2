-- `text::answers::put_mark` meets its contract: each arm writes the word of its answer's mark.
use Rattle.std.proofs.Common.{◌≡◌, Ok, Some, None, rules}
use Rattle.std.proofs.Math.Option.{Option-elim}
use Rattle.departure.specs.Answer.{mark_in}
use Rattle.text.proofs.answers.put_mark.Goals as goal

pub returns-in-Ok-Some : goal.returns-in-Ok-Some
unfolding mark_in Option-elim
returns-in-Ok-Some c =
    let is : c.args.answer ≡ Ok (Some c.in-Ok-Some.exact) = search rules in
    rw is c.put_mark.ensures

pub returns-in-Ok-None : goal.returns-in-Ok-None
unfolding mark_in Option-elim
returns-in-Ok-None c =
    let is : c.args.answer ≡ Ok None = search rules in
    rw is c.put_mark-in-Ok-None.ensures

pub returns-in-Err : goal.returns-in-Err
unfolding mark_in Option-elim
returns-in-Err c = rw c.in-Err.is c.put_bytes.ensures

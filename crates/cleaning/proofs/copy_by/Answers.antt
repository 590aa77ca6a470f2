-- `cleaning::copy_by` meets its contract: the whole clean form stands at the front of the page, from which it is handed over.
use Rattle.std.proofs.Common.{◌≡◌, refl, arith, rules, Err, Ok}
use Rattle.register.specs.Register.{reading_outcome, name_in_row}
use Rattle.writing.specs.inner.Writing.{AtFront, wrote_front}
use Rattle.handover.specs.inner.Handover.{handed_over}
use Rattle.cleaning.specs.Clean.{clean_in}
use Rattle.cleaning.specs.inner.Room.{clean_has_room}
use Rattle.cleaning.proofs.copy_by.Goals as goal
use Rattle.cleaning.proofs.copy_by.Goals.{After-put_clean-size}

-- The clean form stands at the front of the page.
front_of_page : (g : _) (c : After-put_clean-size g)
    → AtFront (clean_in (reading_outcome (Ok c.args.reading.now)) (name_in_row c.args.rows.now)) c.put_clean-size.new.out
    c.put_clean-size.result
front_of_page g c = wrote_front c.put_clean-size.ensures (omega (arith, clean_has_room c.requires.cleanable.0))

pub shared_whole_as_front-hand_over : goal.shared_whole_as_front-hand_over
shared_whole_as_front-hand_over g c =
    (omega (arith, (front_of_page g (goal.at.shared_whole_as_front-hand_over g c).After-put_clean-size).within), omega arith)

pub returns-in_err-hand_over : goal.returns-in_err-hand_over
returns-in_err-hand_over g c =
    let given : c.from_residual.result ≡ Err (record { refusal = c.in_err-hand_over.field-0.0; line = 0 }) = search rules in
    rw given (handed_over refl (front_of_page g (goal.at.returns-in_err-hand_over g c).After-put_clean-size) c.in_err-hand_over.ensures)

pub returns : goal.returns
returns g c = handed_over refl (front_of_page g (goal.at.returns g c).After-put_clean-size) c.in_ok-hand_over.ensures

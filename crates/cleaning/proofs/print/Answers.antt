-- `cleaning::print` meets its contract: the page has room for every clean form and for a refusal's line.
use Rattle.std.proofs.Common.{arith, rules, refl}
use Rattle.std.proofs.lemmas.Bool.{eqb-false}
use Rattle.apportionment.specs.inner.Checks.{refusal_has_number}
use Rattle.writing.specs.inner.Page.{written_whole}
use Rattle.handover.specs.inner.Handover.{text_printed, refusal_printed}
use Rattle.cleaning.specs.inner.Cleaned.{clean_in_page}
use Rattle.cleaning.proofs.print.Goals as goal

pub returns-in-Ok : goal.returns-in-Ok
returns-in-Ok c =
    let printed = text_printed c.in-Ok.ensures (clean_in_page _ (search rules)) refl in
    record { wrote = printed.0; fits = printed.1 }

pub returns-in-Err : goal.returns-in-Err
returns-in-Err c =
    let told = rw c.number.ensures at c.put_refusal.ensures in
    let printed = refusal_printed c.in-Err.ensures (clean_in_page _ (search rules))
    (eqb-false _ _ (refusal_has_number c.in-Err.refused.refusal))
    (omega (arith, c.number.ensures, c.number.type_inv)) (search rules) (search rules)
    (written_whole c.new-told.ensures.begun told (search rules) c.place.ensures) in
    record { wrote = printed.0; fits = printed.1 }

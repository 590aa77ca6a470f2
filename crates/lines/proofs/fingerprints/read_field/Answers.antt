use Rattle.std.proofs.Common.{refl, sym, ◌∙◌, arith, ◌≡◌, length}
use Rattle.std.proofs.Math.Bool.{and_assoc}
use Rattle.fields.specs.inner.Tests.{between_by_range}
use Rattle.lines.specs.inner.Fingerprints.{field_read, field_stops, field_goes_on, field_is_all}
use Rattle.lines.proofs.fingerprints.read_field.Goals as goal

pub loop-end-init : goal.loop-end-init
unfolding field_read
loop-end-init c = (omega arith, refl)

pub returns-then-b-eq-COMMA : goal.returns-then-b-eq-COMMA
returns-then-b-eq-COMMA c = sym (c.loop-end.invariant.1 ∙ field_stops _ _ _ _ (omega arith) c.if-b-eq-COMMA.true)

pub loop-end-preserved : goal.loop-end-preserved
loop-end-preserved c =
    let range = c.new.ensures in
    let tested = between_by_range _ _ _ c.new.result _ range.start range.end range.exhausted c.contains-plain.ensures.value in (
      omega arith,
      c.loop-end.invariant.1 ∙ field_goes_on _ _ _ _ (omega arith) c.if-b-eq-COMMA.false ∙ rw (tested, c.from.ensures, and_assoc),
    )

pub returns : goal.returns
returns c =
    let all : c.loop-end.end ≡ length c.args.line.now = omega arith in
    sym (c.loop-end.invariant.1 ∙ field_is_all _ _ _ _ (omega arith) ∙ rw all)

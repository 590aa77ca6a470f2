-- `close` makes the checks of the closing line, and then of what follows it.
use Rattle.std.proofs.Common.{rules, ◌≡◌, Err, sym, ◌∙◌, ap, ◌+◌, arith, length, eq-eqb, ne_eqb, add_assoc}
use Rattle.apportionment.specs.Refusals.{accepted, refusal_of}
use Rattle.lines.specs.Lines.{closing_refusal}
use Rattle.register.specs.Register.{closing_of, end_of, accepts}
use Rattle.register.specs.inner.Lines.{on_line, on_line_made, refused_on, passed_on, closing_refused_on}
use Rattle.register.proofs.states.close.Goals as goal
use Rattle.register.proofs.states.close.Goals.{After-map_err, In_ok-map_err}

closing : (c : After-map_err) → c.map_err.result ≡ on_line (c.args.head.states + 2) c.check_closing.result
closing c = on_line_made _ c.check_closing.result _ c.map_err.ensures.cases (λ refusal e learnt. search rules)

pub returns-in_err-map_err : goal.returns-in_err-map_err
returns-in_err-map_err c =
    let given : c.from_residual.result ≡ Err c.in_err-map_err.field-0.0 = search rules in
    let at = (goal.at.returns-in_err-map_err c).After-map_err in
    let refused = refused_on _ c.check_closing.result _ (sym (closing at) ∙ c.in_err-map_err.was) in
    rw given (closing_refused_on _ _ _ _ _ (rw c.check_closing.ensures at refused))

passed : (c : In_ok-map_err) → closing_refusal c.args.total c.args.s.now ≡ accepted
passed c =
    sym c.check_closing.ensures
    ∙ ap refusal_of (passed_on _ c.check_closing.result _ (sym (closing (goal.at.In_ok-map_err c).After-map_err) ∙ c.in_ok-map_err.was))

pub returns-then-extra-gt0 : goal.returns-then-extra-gt0
unfolding closing_of end_of
returns-then-extra-gt0 c =
    rw (
      passed (goal.at.returns-then-extra-gt0 c).In_ok-map_err,
      rw c.rest-extra.ensures at (ne_eqb (length c.rest-extra.result.now) 0 (λ none. absurd (omega arith))),
      add_assoc,
    )

pub returns : goal.returns
unfolding closing_of end_of accepts
returns c =
    rw (
      passed (goal.at.returns c).In_ok-map_err,
      rw c.rest-extra.ensures at (eq-eqb (length c.rest-extra.result.now) 0 (omega arith)),
    )

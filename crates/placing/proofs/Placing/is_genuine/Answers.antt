-- `Placing::is_genuine` meets its contract: a test that fails is one that no genuine placing fails, and a placing that passes them all is
-- genuine (`Telling`).
use Rattle.std.proofs.Common.{◌≡◌, sym, ◌∙◌, arith, rules, length}
use Rattle.std.proofs.lemmas.Bool.{false≢true}
use Rattle.apportionment.specs.Limits.{state_limit}
use Rattle.apportionment.specs.Refusals.{accepted}
use Rattle.apportionment.specs.Allotment.{open_refusal}
use Rattle.apportionment.specs.inner.Checks.{refused_if_err, accepted_if_ok}
use Rattle.problem.specs.inner.Passed.{open_passed}
use Rattle.placing.specs.Placing.{people_of}
use Rattle.placing.specs.inner.Telling.{same_first, last_test, not_genuine, opened_problem}
use Rattle.placing.proofs.Placing.is_genuine.Goals as goal
use Rattle.placing.proofs.Placing.is_genuine.Goals.{Start, Else-is_err}

-- The arrays of the placing are full.
full_people : (c : Start) → length c.args.self.now.populations ≡ state_limit
full_people c = search rules

full_seats : (c : Start) → length c.args.self.now.seats ≡ state_limit
full_seats c = search rules

-- Its own populations and house open.
opening_passed : (c : Else-is_err) → open_refusal (people_of c.args.self.now) c.args.self.now.house ≡ accepted
unfolding people_of
opening_passed c = sym c.check_opening.ensures ∙ accepted_if_ok _ (rw (← c.is_err.ensures.value) c.if-is_err.false)

pub returns-then-states-gt-STATE_LIMIT : goal.returns-then-states-gt-STATE_LIMIT
returns-then-states-gt-STATE_LIMIT c = sym (not_genuine _ (λ t. omega (arith, t.states_fit, c.if-states-gt-STATE_LIMIT.true)))

pub returns-then-is_err : goal.returns-then-is_err
unfolding people_of
returns-then-is_err c =
    sym (not_genuine _ (λ t. refused_if_err _ (rw (← c.is_err.ensures.value) c.if-is_err.true) (c.check_opening.ensures ∙ t.opens)))

pub agree-requires : goal.agree-requires
unfolding people_of
agree-requires c =
    let opens = opening_passed (goal.at.agree-requires c).Else-is_err in (
      record {
        problem = opened_problem opens c.total_of.ensures;
        same_length =
            same_first _ _ _ (full_seats (goal.at.agree-requires c).Start) (full_people (goal.at.agree-requires c).Start)
            c.if-states-gt-STATE_LIMIT.false;
      },
      (open_passed _ _ opens).seat_for_each,
    )

pub returns-then-not-agree : goal.returns-then-not-agree
unfolding people_of
returns-then-not-agree c = sym (not_genuine _ (λ t. false≢true (sym c.if-not-agree.true ∙ c.agree.ensures ∙ t.agrees)))

pub returns-then-zeros_from : goal.returns-then-zeros_from
unfolding people_of
returns-then-zeros_from c =
    let at = goal.at.returns-then-zeros_from c in
    c.zeros_from-then-zeros_from.ensures ∙ last_test _ (full_people at.Start) (full_seats at.Start)
    c.if-states-gt-STATE_LIMIT.false (opening_passed at.Else-is_err)
    (rw (← c.agree.ensures) c.if-not-agree.false)
    (rw (← c.zeros_from.ensures) c.if-zeros_from.true)

pub returns-else-zeros_from : goal.returns-else-zeros_from
unfolding people_of
returns-else-zeros_from c =
    c.if-zeros_from.false ∙ sym (not_genuine _ (λ t. false≢true (sym c.if-zeros_from.false ∙ c.zeros_from.ensures ∙ t.people_end)))

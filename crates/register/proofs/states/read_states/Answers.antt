use Rattle.std.proofs.Common.{rules, arith, ◌≡◌, ◌+◌, ◌-◌, ◌≤◌, length, Err, Ok, sym, ap, ◌∙◌}
use native.Mathlib.Nat.{sub-zero}
use Rattle.std.proofs.lemmas.Result.{IfOk-at_ok}
use Rattle.apportionment.specs.Limits.{register_limit}
use Rattle.apportionment.specs.Refusals.{accepted, refusal_of}
use Rattle.lines.specs.Lines.{name_at, number_at, state_refusal}
use Rattle.lines.specs.declared.pairs.StateLine.{StateLine}
use Rattle.lines.specs.inner.Lines.{StateSound, state_sound}
use Rattle.lines.specs.inner.Cut.{line_read}
use Rattle.register.specs.Register.{no_populations, states_of}
use Rattle.register.specs.inner.Register.{states_none, same_left, states_passed}
use Rattle.register.specs.inner.Lines.{on_line, on_line_made, refused_on, passed_on, state_refused_on}
use Rattle.register.specs.inner.Kept.{kept_none, kept_many, kept_end, next_fits, kept_more}
use Rattle.register.proofs.states.read_states.Goals as goal
use Rattle.register.proofs.states.read_states.Goals.{After-map_err, In_ok-line}

reading : (c : After-map_err) → c.map_err.result ≡ on_line (c.loop-k.k + 2) c.read_state.result
reading c = on_line_made _ c.read_state.result _ c.map_err.ensures.cases (λ refusal e learnt. search rules)

refusal_is : (c : After-map_err) → refusal_of c.read_state.result ≡ state_refusal c.args.first.now c.loop-k.k c.loop-k.sum c.loop-k.t.now
refusal_is c = c.read_state.ensures.refusal ∙ rw (kept_many c.loop-k.invariant.1)

-- The line of a turn that goes on was read, and is what the definitions say of it.
read : (c : In_ok-line) → c.read_state.result ≡ Ok c.in_ok-line.line
read c = passed_on _ c.read_state.result _ (sym (reading (goal.at.In_ok-line c).After-map_err) ∙ c.in_ok-line.was)

good : (c : In_ok-line) → state_refusal c.args.first.now c.loop-k.k c.loop-k.sum c.loop-k.t.now ≡ accepted
good c = sym (refusal_is (goal.at.In_ok-line c).After-map_err) ∙ ap refusal_of (read c)

line_is : (c : In_ok-line) → c.in_ok-line.line ≡ line_read c.loop-k.t.now
line_is c = IfOk-at_ok (λ (line : StateLine). line ≡ line_read c.loop-k.t.now) (read c) c.read_state.ensures.read

population_is : (c : In_ok-line) → c.in_ok-line.line.population ≡ number_at c.loop-k.t.now
unfolding line_read
population_is c = ap (λ r. r.population) (line_is c)

width_is : (c : In_ok-line) → c.in_ok-line.line.width ≡ length (name_at c.loop-k.t.now)
unfolding line_read
width_is c = ap (λ r. r.width) (line_is c)

line_sound : (c : In_ok-line) → StateSound c.args.first.now c.loop-k.k c.loop-k.sum c.loop-k.t.now
line_sound c = state_sound _ _ _ _ (good c)

-- The name of the turn's line ends within the register, whose places fit 32 bits.
place_fits : (c : In_ok-line) → length c.args.first.now - length c.loop-k.t.now + c.in_ok-line.line.width ≤ register_limit
place_fits c = omega (arith, c.requires.1, width_is c, next_fits _ _ (kept_end c.loop-k.invariant.1))

pub loop-k-init : goal.loop-k-init
unfolding states_of no_populations
loop-k-init c = (omega arith, kept_none _ _ c.requires.2, rw sub-zero)

pub returns-in_err-line-clause-reading : goal.returns-in_err-line-clause-reading
returns-in_err-line-clause-reading c =
    let at = (goal.at.returns-in_err-line-clause-reading c).After-map_err in
    let given : c.from_residual.result ≡ Err c.in_err-line.field-0.0 = search rules in
    let refused = refused_on _ c.read_state.result _ (sym (reading at) ∙ c.in_err-line.was) in
    rw given
    (state_refused_on _ _ _ _ _ _ _ _ (omega arith) (rw (refusal_is at) at refused) ∙ sym c.loop-k.invariant.2)

pub overflow_sub-start : goal.overflow_sub-start
overflow_sub-start c = omega (arith, (kept_end c.loop-k.invariant.1).shorter)

pub overflow_add-places : goal.overflow_add-places
overflow_add-places c = omega (arith, place_fits (goal.at.overflow_add-places c).In_ok-line)

pub overflow_cast-places-in-loop-k : goal.overflow_cast-places-in-loop-k
overflow_cast-places-in-loop-k c = omega (arith, place_fits (goal.at.overflow_cast-places-in-loop-k c).In_ok-line)

pub overflow_add-sum : goal.overflow_add-sum
overflow_add-sum c =
    omega (arith, population_is (goal.at.overflow_add-sum c).In_ok-line, (line_sound (goal.at.overflow_add-sum c).In_ok-line).fits)

pub rest_from-t-requires : goal.rest_from-t-requires
unfolding line_read
rest_from-t-requires c = ap (λ r. r.end) (line_is (goal.at.rest_from-t-requires c).In_ok-line)

pub loop-k-preserved : goal.loop-k-preserved
unfolding line_read
loop-k-preserved c =
    let line = (goal.at.loop-k-preserved c).In_ok-line in (
      omega (arith, population_is line, (line_sound line).fits),
      kept_more _ _ _ _ _ _ _ _ c.loop-k.invariant.1 (omega (arith, c.requires.0)) c.rest_from-t.ensures
          (ap (λ r. r.print) (line_is line)) (width_is line),
      c.loop-k.invariant.2
          ∙ states_passed _ _ _ (c.args.head.states - (c.loop-k.k + 1)) _ _ _ _ (omega arith) (good line)
          ∙ same_left _ _ _ _ _ c.loop-k.populations (sym (population_is line)) (sym c.rest_from-t.ensures),
    )

pub returns-clause-reading : goal.returns-clause-reading
returns-clause-reading c =
    c.close.ensures ∙ sym (c.loop-k.invariant.2 ∙ states_none _ _ _ _ _ _ _ (omega arith))

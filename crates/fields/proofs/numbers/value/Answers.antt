use Rattle.std.proofs.Common.{sym, ◌∙◌, ◌^◌, ◌<◌, arith}
use Rattle.fields.specs.Grammar.{digit_limit, value_of}
use Rattle.fields.specs.inner.Grammar.{value_step, value_end, Digits, number_digits, digit_more, ten_places}
use Rattle.fields.proofs.numbers.value.Goals as goal
use Rattle.fields.proofs.numbers.value.Goals.{In-loop-digit}

digits : (c : In-loop-digit) → Digits c.args.f.now
digits c = number_digits _ c.requires

small : (c : In-loop-digit) → c.loop-digit.v < 10 ^ digit_limit
small c = ten_places c.loop-digit.v c.loop-digit.digit-index (omega arith) (omega (arith, (digits c).few))

pub overflow_mul-v : goal.overflow_mul-v
overflow_mul-v c = omega (arith, small (goal.at.overflow_mul-v c).In-loop-digit)

pub overflow_sub-digit : goal.overflow_sub-digit
overflow_sub-digit c = omega (arith, (digits (goal.at.overflow_sub-digit c).In-loop-digit).each c.loop-digit.digit-index (omega arith))

pub overflow_add-v : goal.overflow_add-v
overflow_add-v c = omega (
  arith,
  small (goal.at.overflow_add-v c).In-loop-digit,
  (digits (goal.at.overflow_add-v c).In-loop-digit).each c.loop-digit.digit-index (omega arith),
)

pub loop-digit-preserved : goal.loop-digit-preserved
loop-digit-preserved c = rw c.from.ensures (
  digit_more _ _ _ c.loop-digit.invariant.0
      ((digits (goal.at.loop-digit-preserved c).In-loop-digit).each c.loop-digit.digit-index (omega arith)).1,
  c.loop-digit.invariant.1 ∙ value_step _ c.args.f.now c.loop-digit.digit-index (omega arith),
)

pub returns : goal.returns
unfolding value_of
returns c = sym (c.loop-digit.invariant.1 ∙ value_end _ c.args.f.now c.loop-digit.digit-index (omega arith))

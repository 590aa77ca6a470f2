-- `wide::product_less` is right on one word because in_one_word says that both products fit, and otherwise by wide_less.
use native.Mathlib.Omega.{arith}
use Rattle.wide.proofs.product_less.Goals as goal

pub overflow_mul-result : goal.overflow_mul-result
overflow_mul-result c = omega (arith, c.in_one_word.ensures c.if-in_one_word.true)

pub overflow_mul-result-then-in_one_word-2 : goal.overflow_mul-result-then-in_one_word-2
overflow_mul-result-then-in_one_word-2 c = omega (arith, c.in_one_word-then-in_one_word.ensures c.if-in_one_word-2.true)

-- `wide::product` is right because its words are those of the split by half words, whose law holds in any base.
use native.Mathlib.Nat.{le-add_right, lt_of_le_of_lt}
use native.Mathlib.Omega.{arith}
use lib.Dec.{lit<}
use Rattle.wide.proofs.Digits.{half, words_are_product, lowest_fits, left_fits, right_fits, high_word_fits}
use Rattle.wide.proofs.product.Goals as goal

-- The two words are the product ..
pub returns : goal.returns
returns c = words_are_product half c.args.a c.args.b

-- .. and no step on the way passes a word.
pub overflow_mul-low : goal.overflow_mul-low
overflow_mul-low c = record { fits = lowest_fits half c.args.a c.args.b (lit< tt) (omega arith) (omega arith) }

pub overflow_add-left : goal.overflow_add-left
overflow_add-left c = record { fits = left_fits half c.args.a c.args.b (lit< tt) (omega arith) (omega arith) }

pub overflow_mul-left : goal.overflow_mul-left
overflow_mul-left c =
    record { fits = lt_of_le_of_lt (le-add_right _ _) (left_fits half c.args.a c.args.b (lit< tt) (omega arith) (omega arith)) }

pub overflow_add-right : goal.overflow_add-right
overflow_add-right c = record { fits = right_fits half c.args.a c.args.b (lit< tt) (omega arith) (omega arith) }

pub overflow_mul-right : goal.overflow_mul-right
overflow_mul-right c =
    record { fits = lt_of_le_of_lt (le-add_right _ _) (right_fits half c.args.a c.args.b (lit< tt) (omega arith) (omega arith)) }

pub overflow_add-result-2 : goal.overflow_add-result-2
overflow_add-result-2 c = record { fits = high_word_fits half c.args.a c.args.b (lit< tt) (omega arith) (omega arith) }

pub overflow_add-result : goal.overflow_add-result
overflow_add-result c =
    record { fits = lt_of_le_of_lt (le-add_right _ _) (high_word_fits half c.args.a c.args.b (lit< tt) (omega arith) (omega arith)) }

pub overflow_mul-result : goal.overflow_mul-result
overflow_mul-result c =
    record {
      fits = lt_of_le_of_lt (le-add_right _ _)
          (lt_of_le_of_lt (le-add_right _ _) (high_word_fits half c.args.a c.args.b (lit< tt) (omega arith) (omega arith)));
    }

-- `wide::wide_less` is right because each product is its two words exactly, and their high words decide first.
use Prim.Native.Nat.{◌^◌}
use Rattle.wide.proofs.Digits.{high_words_decide, low_words_decide}
use Rattle.wide.proofs.wide_less.Goals as goal

pub returns-then-left-right : goal.returns-then-left-right
returns-then-left-right c = let left = c.product-left.result in
    let right = c.product-right.result in
    cc (low_words_decide (2 ^ 64) left.high left.low right.low)

pub returns-else-left-right : goal.returns-else-left-right
returns-else-left-right c = let left = c.product-left in
    let right = c.product-right in
    cc
    (high_words_decide (2 ^ 64) left.result.high right.result.high left.result.low right.result.low
    c.struct_known-1.given.1.0.fits
    c.struct_known-2-1.given.1.0.fits c.if-left-right.false)

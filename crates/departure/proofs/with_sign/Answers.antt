-- `departure::with_sign` is right because zero less a number below 2^63 is that number below zero, and zero less zero is zero.
use mathlib.Core.Path.{◌∙◌, sym}
use lib.Dec.{lit<}
use lib.IntN.{pos, neg_ℤ, +ℤ_idl}
use mir.Syntax.{w64}
use mir.ValLaws.{to_z_pos}
use Rattle.departure.proofs.Signed.{words_minus, words_minus_fits, signed_word_below, signed_word_natural}
use Rattle.departure.proofs.with_sign.Goals as goal

-- The result ..
pub returns-then-n-lt0 : goal.returns-then-n-lt0
returns-then-n-lt0 c =
    words_minus 0 c.args.size (lit< tt) c.requires
    ∙ +ℤ_idl (neg_ℤ (pos c.args.size))
    ∙ sym (signed_word_below c.args.n c.ranges.n c.args.size c.if-n-lt0.true)

pub returns-else-n-lt0 : goal.returns-else-n-lt0
returns-else-n-lt0 c =
    to_z_pos w64 c.args.size c.requires
    ∙ sym (signed_word_natural c.args.n c.ranges.n c.args.size c.if-n-lt0.false)

pub overflow_sub-result : goal.overflow_sub-result
overflow_sub-result c = words_minus_fits 0 c.args.size (lit< tt) c.requires

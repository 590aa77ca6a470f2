-- `handover::hand_over` meets its contract: a text that fits is copied before the buffer's later bytes, and of one that does not fit
-- nothing is written.
use Rattle.std.proofs.Common.{ap, arith, ◌++◌, List, ℕ, length, drop}
use Rattle.handover.specs.inner.Handover.{text_fitted, text_too_long}
use Rattle.handover.proofs.hand_over.Goals as goal

pub returns-then-text-out : goal.returns-then-text-out
returns-then-text-out c =
    let text = c.args.text.now in
    text_fitted (ap (λ (s : List ℕ). s ++ drop (length text) c.args.out.now) c.copy_from_slice.ensures.after) (omega arith)

pub returns : goal.returns
returns c = text_too_long _ _ (omega arith)

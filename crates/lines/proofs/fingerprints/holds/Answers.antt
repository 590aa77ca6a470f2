use Rattle.std.proofs.Common.{sym, ◌∙◌, arith}
use Rattle.lines.specs.inner.Fingerprints.{holds_step, holds_end}
use Rattle.lines.proofs.fingerprints.holds.Goals as goal

pub loop-other-preserved : goal.loop-other-preserved
loop-other-preserved c =
    c.loop-other.invariant ∙ holds_step c.loop-other.found c.args.print c.args.prints.now c.loop-other.other-index (omega arith)

pub returns : goal.returns
returns c =
    sym (c.loop-other.invariant ∙ holds_end c.loop-other.found c.args.print c.args.prints.now c.loop-other.other-index (omega arith))

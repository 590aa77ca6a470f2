use Rattle.std.proofs.Common.{arith}
use Rattle.register.specs.inner.Rows.{placed_at}
use Rattle.writing.specs.inner.Page.{appended_nothing, appended_then}
use Rattle.cleaning.specs.Clean.{state_lines, no_tail}
use Rattle.cleaning.specs.inner.Stored.{lines_more}
use Rattle.cleaning.proofs.put_states.Goals as goal

pub loop-k-init : goal.loop-k-init
unfolding state_lines
loop-k-init c = appended_nothing c.args.page.now

pub name_placed-requires : goal.name_placed-requires
name_placed-requires c = placed_at c.requires _ (omega arith)

pub loop-k-preserved : goal.loop-k-preserved
loop-k-preserved c =
    rw (lines_more _ no_tail c.args.populations.now c.loop-k.k (omega arith))
    (appended_then c.loop-k.invariant (rw c.name_placed.ensures at c.put_pair.ensures))

use Rattle.std.proofs.Common.{arith}
use Rattle.register.specs.inner.Rows.{placed_at}
use Rattle.writing.specs.inner.Page.{appended_nothing, appended_then}
use Rattle.listing.specs.Listing.{state_lines}
use Rattle.listing.specs.inner.Rows.{state_lines_more}
use Rattle.listing.proofs.rows.put_states.Goals as goal

pub loop-k-init : goal.loop-k-init
unfolding state_lines
loop-k-init c = appended_nothing c.args.page.now

pub name_placed-name-requires : goal.name_placed-name-requires
name_placed-name-requires c = placed_at c.requires.placed _ (omega arith)

pub loop-k-preserved : goal.loop-k-preserved
loop-k-preserved c =
    rw state_lines_more (appended_then c.loop-k.invariant (rw c.name_placed-name.ensures at c.put_state.ensures))

use Rattle.std.proofs.Common.{refl, ◌∙◌, add-one}
use Rattle.register.specs.inner.Names.{lines_next}
use Rattle.register.specs.Register.{lines_after}
use Rattle.register.proofs.rows.after.Goals as goal

pub loop-init : goal.loop-init
unfolding lines_after
loop-init c = refl

pub loop-preserved : goal.loop-preserved
loop-preserved c = c.rest-t.ensures ∙ rw (c.loop.invariant, add-one, lines_next)

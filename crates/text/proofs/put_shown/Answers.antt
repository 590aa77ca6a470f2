-- `text::put_shown` meets its contract: below zero a sign and the size, and otherwise the size alone.
use Rattle.std.proofs.Common.{ap, ◌∙◌, nat_abs}
use mir.Facts.{to_z-of_z}
use Rattle.text.specs.inner.Shown.{shown_below, shown_above}
use Rattle.writing.specs.inner.Page.{appended_then}
use Rattle.text.proofs.put_shown.Goals as goal
use Rattle.text.proofs.put_shown.Goals.{then-shown-lt0, else-shown-lt0}

pub returns : goal.returns
returns c =
    let size = c.unsigned_abs.ensures.value ∙ ap nat_abs (to_z-of_z c.ranges.shown) in
    elim c.if-shown-lt0.branch [
      | then-shown-lt0 w ↦
          rw (shown_below c.args.shown (rw (to_z-of_z c.ranges.shown) at w.if-shown-lt0.true), ← size)
          (appended_then w.put_byte.ensures (rw w.page-is at c.put_shown_size.ensures))
      | else-shown-lt0 w ↦
          rw (shown_above c.args.shown (rw (to_z-of_z c.ranges.shown) at w.if-shown-lt0.false), ← size)
          (rw w.page-is at c.put_shown_size.ensures)
    ]

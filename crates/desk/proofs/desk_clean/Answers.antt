-- `desk::desk_clean` hands on what writing a clean form gives.
use Rattle.std.proofs.Common.{◌∙◌, ap}
use Rattle.cleaning.specs.Clean.{cleaned_of}
use Rattle.desk.specs.Interface.{exported_written}
use Rattle.desk.proofs.desk_clean.Goals as goal

pub returns : goal.returns
unfolding cleaned_of
returns c =
    let written = c.write_clean.ensures in
    record { value = c.from.ensures ∙ ap exported_written written.answer; out_after = rw c.from.ensures written.buffer }

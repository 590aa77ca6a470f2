-- `desk::desk_listing` hands on what writing a listing gives.
use Rattle.std.proofs.Common.{◌∙◌, ap}
use Rattle.listing.specs.Listing.{listed_of}
use Rattle.desk.specs.Interface.{exported_written}
use Rattle.desk.proofs.desk_listing.Goals as goal

pub returns : goal.returns
unfolding listed_of
returns c =
    let written = c.write_listing.ensures in
    record { value = c.from.ensures ∙ ap exported_written written.answer; out_after = rw c.from.ensures written.buffer }

-- What was written stands on the page, so that many bytes are at its front.
use Rattle.std.proofs.Common.{◌≤◌, length, refl, sym, length-take-le}
use Rattle.streams.proofs.print_page.Goals as goal

pub slice_bounds-print-end : goal.slice_bounds-print-end
slice_bounds-print-end g c =
    let fits : c.write-size.result ≤ length c.as_slice.result.now =
    rw c.as_slice.ensures
    (c.requires.fits _ _ (record { shown = _; shows = refl; left = _; met = c.write-size.ensures; leaves = refl })) in
    sym (length-take-le _ _ fits)

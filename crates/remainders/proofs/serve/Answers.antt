-- `remainders::serve` meets its contract: served up to the place where nothing is to spare, and from it on, all are served.
use mathlib.Core.Path.{◌∙◌}
use Rattle.remainders.specs.inner.Seats.{room_from, served_in_parts}
use Rattle.remainders.proofs.serve.Goals as goal

pub serve_above-requires : goal.serve_above-requires
serve_above-requires c =
    room_from _ _ _ _ _ _ c.requires c.serve_spare-place.ensures

pub returns : goal.returns
returns c =
    c.serve_above.ensures ∙ served_in_parts _ _ _ _ _ _ c.requires c.serve_spare-place.ensures

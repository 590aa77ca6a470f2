-- `Placing::started` meets its contract: the populations and the start's seats are laid over zeros, which is what filling up a list means.
use Rattle.std.proofs.Common.{refl}
use Rattle.claims.specs.inner.StartSeats.{length_start}
use Rattle.placing.specs.Placing.{started}
use Rattle.placing.specs.inner.Lists.{laid_over_zeros}
use Rattle.placing.specs.inner.Telling.{record_equal}
use Rattle.placing.proofs.Placing.started.Goals as goal

pub returns : goal.returns
unfolding started
returns c =
    let begun = c.fill_start-begun.ensures in
    let people = laid_over_zeros _ _ _ c.copy_from_slice.ensures.after refl in
    let seats = laid_over_zeros _ _ _ begun.seats (length_start _ _) in
    record_equal refl people refl seats begun.total refl

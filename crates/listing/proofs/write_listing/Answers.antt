-- `listing::write_listing` meets its contract: a register that is refused is refused with its line, and any other is allotted and listed.
use Rattle.std.proofs.Common.{◌≡◌, refl, arith, rules, length-take, Err, Ok}
use Rattle.register.specs.inner.Sound.{GoodReading, good_sound}
use Rattle.register.specs.Register.{reading_outcome}
use Rattle.listing.specs.inner.Listed.{reading_refused}
use Rattle.listing.proofs.write_listing.Goals as goal
use Rattle.listing.proofs.write_listing.Goals.{In_ok-reading}

was_read : (c : In_ok-reading) → GoodReading c.args.register.now (reading_outcome (Ok c.in_ok-reading.reading))
was_read c = record { reading = c.in_ok-reading.ensures.reading; good = refl }

pub returns-in_err-reading : goal.returns-in_err-reading
returns-in_err-reading c =
    let given : c.from_residual.result ≡ Err c.in_err-reading.field-0.0 = search rules in
    rw given (reading_refused _ _ _ c.in_err-reading.ensures.reading)

pub slice_bounds-seats-end : goal.slice_bounds-seats-end
slice_bounds-seats-end c = (good_sound (was_read (goal.at.slice_bounds-seats-end c).In_ok-reading)).states.1

pub slice_bounds-list_states-end-2 : goal.slice_bounds-list_states-end-2
slice_bounds-list_states-end-2 c =
    simp length-take (omega (arith, (good_sound (was_read (goal.at.slice_bounds-list_states-end-2 c).In_ok-reading)).states))

pub list_states-requires : goal.list_states-requires
list_states-requires c =
    let read = was_read (goal.at.list_states-requires c).In_ok-reading in
    record {
      read = (read, simp length-take (omega (arith, (good_sound read).states)));
      placed = c.in_ok-reading.ensures.placed;
    }

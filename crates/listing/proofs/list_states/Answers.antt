-- `listing::list_states` meets its contract: what allotting refuses is the listing's refusal, and otherwise the seats are the method's, so
-- that what is handed over is the listing.
use Rattle.std.proofs.Common.{◌≡◌, sym, arith, rules, length-take-le, Err}
use Rattle.register.specs.inner.Sound.{good_sound}
use Rattle.listing.specs.inner.Listed.{told_refused, told_listable, told_listed}
use Rattle.listing.proofs.list_states.Goals as goal

pub slice_bounds-populations-end : goal.slice_bounds-populations-end
slice_bounds-populations-end c =
    omega (arith, (good_sound c.requires.read.0).states, (good_sound c.requires.read.0).populations.room)

pub slice_bounds-allot-end : goal.slice_bounds-allot-end
slice_bounds-allot-end c =
    let sound = good_sound c.requires.read.0 in
    sym (length-take-le _ _ (omega (arith, sound.states, sound.populations.room)))

pub returns-in_err-allot : goal.returns-in_err-allot
returns-in_err-allot c =
    let pre = c.requires.read in
    let given : c.from_residual.result ≡ Err (record { refusal = c.in_err-allot.field-0.0; line = 0 }) = search rules in
    rw given (told_refused pre.0 pre.1 c.in_err-allot.ensures _)

pub list_seats-requires : goal.list_seats-requires
list_seats-requires c =
    let read = c.requires.read in
    record {
      listable = told_listable read.0 read.1 c.in_ok-allot.ensures c.of-rows.ensures;
      placed = rw c.of-rows.ensures c.requires.placed;
    }

pub returns : goal.returns
returns c =
    let pre = c.requires.read in
    told_listed pre.0 pre.1 c.in_ok-allot.ensures c.of-rows.ensures c.list_seats.ensures

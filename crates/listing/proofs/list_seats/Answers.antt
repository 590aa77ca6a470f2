-- `listing::list_seats` meets its contract: the whole listing stands at the front of the page, from which it is handed over.
use Rattle.std.proofs.Common.{◌≡◌, refl, sym, rules, Err, Ok}
use mathlib.Core.List.{List}
use Prim.Native.Nat.{ℕ}
use lib.Seq.{length-take-le}
use Rattle.register.specs.Register.{reading_outcome, name_in_row}
use Rattle.writing.specs.inner.Writing.{AtFront, wrote_front}
use Rattle.listing.specs.Listing.{listing_in}
use Rattle.listing.specs.inner.Room.{listing_has_room}
use Rattle.handover.specs.inner.Handover.{handed_over}
use Rattle.listing.proofs.list_seats.Goals as goal
use Rattle.listing.proofs.list_seats.Goals.{After-put_listing-size}

abbrev listing : After-put_listing-size → List ℕ
listing c =
    let args = c.args in
    listing_in (reading_outcome (Ok args.reading)) (name_in_row args.rows.now) args.seats.now

-- The listing stands at the front of the page.
front_of_page : (c : After-put_listing-size) → AtFront (listing c) c.put_listing-size.new.out c.put_listing-size.result
front_of_page c = wrote_front c.put_listing-size.ensures (listing_has_room c.requires.listable)

pub slice_bounds-page-end : goal.slice_bounds-page-end
slice_bounds-page-end c = (front_of_page (goal.at.slice_bounds-page-end c).After-put_listing-size).within

pub slice_bounds-hand_over-end : goal.slice_bounds-hand_over-end
slice_bounds-hand_over-end c = sym (length-take-le _ _ (front_of_page (goal.at.slice_bounds-hand_over-end c).After-put_listing-size).within)

pub returns-in_err-hand_over : goal.returns-in_err-hand_over
returns-in_err-hand_over c =
    let given : c.from_residual.result ≡ Err (record { refusal = c.in_err-hand_over.field-0.0; line = 0 }) = search rules in
    rw given (handed_over refl (front_of_page (goal.at.returns-in_err-hand_over c).After-put_listing-size) c.in_err-hand_over.ensures)

pub returns : goal.returns
returns c = handed_over refl (front_of_page (goal.at.returns c).After-put_listing-size) c.in_ok-hand_over.ensures

-- Document 01's example, "The listing in full": the definitions give its listing, byte by byte.
-- Assumes nothing.
use Rattle.std.specs.Prelude.{◌≡◌, refl, List, ◌++◌, ℕ}
use Rattle.std.proofs.Common.{ap, ◌∙◌}
use Rattle.apportionment.specs.Text.{bytes_of, decimal, decimal_with}
use Rattle.apportionment.specs.Lists.{sum}
use Rattle.apportionment.specs.Quantities.{less, at_most, distance, size_of, is_below, nearest_whole, shown_size, shown_of, shown_size_text}
use Rattle.apportionment.specs.Quantities.{shown_text, departure_text, mark_of, mark_for, mark_text}
use Rattle.apportionment.specs.Leximin.{sizes_of, insert, largest_first, list_less, more_at_first, size_list, chosen_before, with_first}
use Rattle.apportionment.specs.Leximin.{allotments, first_of, first_of_all, leximin_for}
use Rattle.apportionment.specs.Refusals.{within, outside, first_refusal}
use Rattle.apportionment.specs.Allotment.{states_outside, house_outside, has_zero, sum_outside, list_misfits, seats_too_few}
use Rattle.apportionment.specs.Allotment.{problem_checks, allot_refusal, seats_of}
use Rattle.register.specs.Register.{reading_of}
use Rattle.register.specs.Register.{name_of}
use Rattle.register.specs.inner.Examples.{example, example_reading, example_name, examples_hold, example_named}
use Rattle.register.specs.Register.{ReadingOutcome}
use Rattle.apportionment.specs.Methods.{method_text}
use Rattle.text.specs.Shared.{numbers_text, head_line, total_line}
use Rattle.handover.specs.Handover.{printed_of}
use Rattle.listing.specs.Listing.{state_line, state_lines, seats_in, listing_in, listing_of}
use Rattle.listing.specs.Listing.{list_refusal_in, listing_printed}
use Rattle.listing.specs.inner.Rows.{same_listing}

abbrev example_listing : List ℕ
example_listing =
    bytes_of "allotment,leximin,20,5\n"
    ++ bytes_of "A,26,3,-13.765,high\n"
    ++ bytes_of "B,27,3,-10.448,high\n"
    ++ bytes_of "C,28,3,-7.131,in\n"
    ++ bytes_of "D,29,3,-3.814,in\n"
    ++ bytes_of "E,91,8,13.184,high\n"
    ++ bytes_of "total,201,20\n"

-- What is read of the document's register, with the names of its states, comes to the document's listing ..
listing_laid_out : listing_in example_reading example_name (seats_in example_reading) ≡ example_listing
unfolding listing_in numbers_text head_line state_lines state_line departure_text total_line seats_in method_text decimal decimal_with sum
    less at_most
    distance size_of is_below nearest_whole shown_size shown_of shown_size_text shown_text mark_of mark_for mark_text sizes_of insert
    largest_first
    list_less more_at_first size_list chosen_before with_first allotments first_of first_of_all leximin_for seats_of
listing_laid_out = refl

listing_is : listing_of example ≡ example_listing
unfolding listing_of
listing_is =
    ap (λ (r : ReadingOutcome). listing_in r (name_of example) (seats_in r)) examples_hold.0
    ∙ same_listing (name_of example) example_name example_reading (seats_in example_reading) example_named
    ∙ listing_laid_out

-- .. which is not refused, so that the program prints it.
printed_by_parts : (r : ReadingOutcome) (text : List ℕ) → r ≡ example_reading → text ≡ example_listing
    → printed_of (list_refusal_in r) r.line text ≡ example_listing
unfolding printed_of list_refusal_in sum within outside first_refusal states_outside house_outside has_zero sum_outside list_misfits
    seats_too_few problem_checks allot_refusal
printed_by_parts r text reading listing = rw (reading, listing)

pub example_printed : listing_printed example ≡ example_listing
example_printed = printed_by_parts (reading_of example) (listing_of example) examples_hold.0 listing_is

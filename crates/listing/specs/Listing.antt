-- Document 01, "The listing in full" and "Operations": the listing of a register, line by line, its refusals, and the promise.
use Rattle.std.specs.Prelude.{◌++◌, cond, List, [], ℕ, zero, suc, eqb, get_or}
use Rattle.apportionment.specs.Quantities.{departure_text, mark_for, mark_text}
use Rattle.apportionment.specs.{Refusals.accepted, Lists.sum, Text.bytes_of, Allotment.allot_refusal, Allotment.seats_of}
use Rattle.register.specs.{Register.reading_of, Register.populations_in, Register.name_of, Register.ReadingOutcome}
use Rattle.text.specs.Shared.{numbers_text, head_line, total_line}
use Rattle.handover.specs.{Handover.written_of, Handover.WritingIs, Handover.printed_of, Handover.Written}

unfoldable pub state_line : (name : List ℕ) (p a P H : ℕ) → List ℕ  -- A state's line: name, population, seats, shown departure, mark.
state_line name p a P H =
    name ++ numbers_text p a ++ bytes_of "," ++ departure_text p a P H ++ bytes_of "," ++ mark_text (mark_for p a P H) ++ bytes_of "\n"

unfoldable pub state_lines : (name : ℕ → List ℕ) (ps seats : List ℕ) (P H k : ℕ) → List ℕ  -- The lines of the first k states.
state_lines name ps seats P H zero = []
state_lines name ps seats P H (suc k) = state_lines name ps seats P H k ++ state_line (name k) (get_or ps k 0) (get_or seats k 0) P H

unfoldable pub seats_in : ReadingOutcome → List ℕ  -- The seats of what was read.
seats_in r = seats_of r.method (populations_in r) r.house

unfoldable pub listing_in : ReadingOutcome → (name : ℕ → List ℕ) (seats : List ℕ) → List ℕ  -- With the states' names and seats.
listing_in r name seats =
    head_line (bytes_of "allotment") r.method r.house r.states
    ++ state_lines name (populations_in r) seats r.total r.house r.states
    ++ total_line r.total (sum seats)

unfoldable pub listing_of : (register : List ℕ) → List ℕ  -- The listing of a register that is neither refused by reading nor by allotting.
listing_of register = listing_in (reading_of register) (name_of register) (seats_in (reading_of register))

unfoldable pub list_refusal_in : ReadingOutcome → ℕ  -- Reading's refusals, then allotting's, whose line is 0.
list_refusal_in r = cond (eqb r.refusal accepted) (allot_refusal r.method r.house (populations_in r) r.states) r.refusal

unfoldable pub listed_of : (register : List ℕ) (room : ℕ) → Written  -- What is handed back: these refusals, 31, or the length.
listed_of register room = written_of (list_refusal_in (reading_of register)) (reading_of register).line (listing_of register) room

abbrev pub ListingIs : (register before : List ℕ) → Written → (after : List ℕ) → Type 0  -- What writing a listing promises.
ListingIs register before r after =
    WritingIs (list_refusal_in (reading_of register)) (reading_of register).line (listing_of register) before r after

abbrev pub listing_printed : (register : List ℕ) → List ℕ  -- What the allotment program prints.
listing_printed register = printed_of (list_refusal_in (reading_of register)) (reading_of register).line (listing_of register)

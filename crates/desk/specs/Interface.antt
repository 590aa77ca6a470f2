-- What the C interface hands back: the same values field for field, a method or a mark as its number in document 01's order.
use Rattle.std.specs.Prelude.{◌-◌, ℕ, ℤ, pos, cond, List, ltb, eqb, length}
use Rattle.apportionment.specs.Words.{Option, option_get_or}
use Rattle.apportionment.specs.declared.Mark.TheVariants.{In, High, Over, None}
use Rattle.apportionment.specs.{Allotment.allot_refusal, Allotment.seats_after, Allotment.steps_after, Methods.method_number}
use Rattle.apportionment.specs.{Methods.last_method, Methods.method_at, Refusals.method_unknown, Refusals.accepted, declared.Mark.Mark}
use Rattle.departure.specs.Answer.{departure_refusal, departure_shown, departure_mark}
use Rattle.register.specs.{Register.ReadingOutcome, Register.rows_of, Register.lines_after, Register.name_in_row, Register.name_refusal_of}
use Rattle.handover.specs.Handover.{Written}
use Rattle.desk.specs.{declared.DeskReading.DeskReading, declared.DeskShown.DeskShown, declared.DeskWritten.DeskWritten}
use Rattle.desk.specs.{declared.DeskAllotted.DeskAllotted, declared.DeskPart.DeskPart}

abbrev pub mark_number : Mark → ℕ
mark_number = elim [ In ↦ 0 | High ↦ 1 | Over ↦ 2 | None ↦ 3 ]

unfoldable pub exported_reading : ReadingOutcome → DeskReading
exported_reading r =
    record {
      refusal = r.refusal;
      line = r.line;
      method = method_number r.method;
      house = r.house;
      states = r.states;
      total = r.total;
      populations = r.populations;
    }

unfoldable pub exported_shown : (refusal : ℕ) → Option ℤ → Option Mark → DeskShown  -- Where there is none, 0 and the mark `none`.
exported_shown refusal shown mark =
    record { refusal = refusal; shown = option_get_or shown (pos 0); mark = mark_number (option_get_or mark None) }

unfoldable pub exported_departure : (p a P H : ℕ) → DeskShown
exported_departure p a P H = exported_shown (departure_refusal p a P H) (departure_shown p a P H) (departure_mark p a P H)

abbrev pub exported_written : Written → DeskWritten
exported_written w = record { refusal = w.refusal; line = w.line; length = w.size }

unfoldable pub allotted_by : (number H : ℕ) (ps : List ℕ) (room : ℕ) → DeskAllotted  -- What is handed back.
allotted_by number H ps room =
    cond (ltb last_method number) (record { refusal = method_unknown; steps = 0 })
    (record { refusal = allot_refusal (method_at number) H ps room; steps = steps_after (method_at number) H ps room })

unfoldable pub seats_by : (number H : ℕ) (ps before : List ℕ) → List ℕ  -- The lent list afterwards.
seats_by number H ps before = cond (ltb last_method number) before (seats_after (method_at number) H ps before)

unfoldable pub part_of : List ℕ → (place : ℕ) → DeskPart  -- Where a name stands, at the start of its line; 0 and 0 where it is refused.
part_of s place =
    let r = name_refusal_of s place in
    let start = length s - length (lines_after place (rows_of s)) in
    cond (eqb r.number accepted)
    (record { refusal = accepted; line = 0; start = start; length = length (name_in_row (rows_of s) place) })
    (record { refusal = r.number; line = r.line; start = 0; length = 0 })

-- `Work::put_states` meets its contract. The loop's invariant: the lines of the states so far were written, and `row` starts at the next
-- one's line.
use Rattle.std.proofs.Common.{◌≡◌, length}
use Rattle.placing.specs.Placing.{people_of}
use Rattle.register.specs.Register.{lines_after}
use Rattle.showing.specs.Work.{state_lines, seats_in}
use Rattle.writing.specs.inner.Page.{Appended}
use Rattle.showing.proofs.Work.put_states.Given as goal

abbrev pub invariant-loop-population : goal.invariant-loop-population
invariant-loop-population l =
    let p = l.self.placing in
    let k = length l.yielded in
    record {
      next_row : l.row ≡ lines_after k l.self.rows.now;
      wrote : Appended l.initial.page (state_lines l.word l.self.rows.now (people_of p) (seats_in p) l.self.sum p.house k) l.page;
    }

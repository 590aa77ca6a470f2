-- `cleaning::put_states` meets its contract. The loop's invariant: the lines of the first k states were written.
use Rattle.std.proofs.Common.{take}
use Rattle.register.specs.Register.{name_in_row}
use Rattle.writing.specs.inner.Page.{Appended}
use Rattle.cleaning.specs.Clean.{state_lines, no_tail}
use Rattle.cleaning.proofs.put_states.Given as goal

abbrev pub invariant-loop-k : goal.invariant-loop-k
invariant-loop-k l = Appended l.initial.page (state_lines (name_in_row l.rows) no_tail 0 (take l.k l.populations)) l.page

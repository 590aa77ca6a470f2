-- What was read and opened is the start of a way that can be shown.
use Rattle.std.proofs.Common.{◌≡◌, List, ℕ, ◌≤◌, length, arith, refl, sym, length-take-le}
use Rattle.apportionment.specs.Refusals.{accepted}
use Rattle.register.specs.Register.{ReadingOutcome, reading_of}
use Rattle.register.specs.inner.Sound.{reading_sound}
use Rattle.work.specs.inner.Way.{read_begins}
use Rattle.work.proofs.show.Goals as goal

-- What was read has a population for each state.
each_read : (s : List ℕ) (r : ReadingOutcome) → r ≡ reading_of s → r.refusal ≡ accepted → r.states ≤ length r.populations
each_read s r read good =
    let sound = reading_sound s (rw read at good) in
    rw read (omega (arith, sound.states, sound.populations.room))

pub slice_bounds-populations-end : goal.slice_bounds-populations-end
slice_bounds-populations-end g c = each_read _ _ c.in-Ok.ensures refl

pub slice_bounds-open-end : goal.slice_bounds-open-end
slice_bounds-open-end g c = sym (length-take-le _ _ (each_read _ _ c.in-Ok.ensures refl))

pub show_way-requires : goal.show_way-requires
show_way-requires g c =
    rw c.of.ensures (read_begins _ _ _ c.in-Ok.ensures refl c.open-opened.ensures c.if-opened-ne-ACCEPTED.false)

-- `remainders::serve_above` meets its contract. The loop's invariant: the states passed are served, and those to come have the seats they
-- had.
use Rattle.apportionment.specs.inner.Filling.{FilledTo}
use mathlib.Core.Path.{◌≡◌}
use Prim.Native.Nat.{ℕ, ◌≤◌}
use lib.ListN.{length, get_or}
use Rattle.remainders.specs.inner.Seats.{served_from_at}
use Rattle.remainders.proofs.serve_above.Given as goal

abbrev pub invariant-loop-i : goal.invariant-loop-i
invariant-loop-i l =
    FilledTo (served_from_at l.precedences l.bar l.from l.initial.seats) (length l.initial.seats) l.i l.seats
    × ((k : ℕ) → l.i ≤ k → get_or l.seats k 0 ≡ get_or l.initial.seats k 0)
    × (l.from ≤ l.i)

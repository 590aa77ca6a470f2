-- `remainders::serve_spare` meets its contract. The loop's invariant: the states passed are served, those to come have the seats they had,
-- and `rest` is what is to spare.
use Rattle.apportionment.specs.inner.Filling.{FilledTo}
use mathlib.Core.Path.{◌≡◌}
use Prim.Native.Nat.{ℕ, ◌≤◌}
use lib.ListN.{length, get_or}
use Rattle.remainders.specs.inner.Serving.{spare_at}
use Rattle.remainders.specs.inner.Seats.{served_at}
use Rattle.remainders.proofs.serve_spare.Given as goal

abbrev pub invariant-loop-i : goal.invariant-loop-i
invariant-loop-i l =
    FilledTo (served_at l.precedences l.bar l.spare l.initial.seats) (length l.initial.seats) l.i l.seats
    × ((k : ℕ) → l.i ≤ k → get_or l.seats k 0 ≡ get_or l.initial.seats k 0)
    × (l.rest ≡ spare_at l.precedences l.bar l.spare l.i)

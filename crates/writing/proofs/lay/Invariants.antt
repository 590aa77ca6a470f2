-- `writing::lay` meets its contract: every place passed holds what the part has there.
use Prim.Native.Nat.{ℕ}
use lib.ListN.{length, get_or}
use Rattle.apportionment.specs.inner.Filling.{FilledTo}
use Rattle.writing.proofs.lay.Given as goal

abbrev pub invariant-loop-i : goal.invariant-loop-i
invariant-loop-i l = FilledTo (λ (k : ℕ). get_or l.part k 0) (length l.part) l.i l.over

-- It ends: what is left of the line grows shorter.
use Rattle.std.proofs.Common.{length}
use Rattle.test_cases.proofs.signs.put_line.Given as goal

abbrev pub decreases-loop-left : goal.decreases-loop-left
decreases-loop-left g l = length l.left

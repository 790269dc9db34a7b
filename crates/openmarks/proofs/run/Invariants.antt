use Rattle.std.proofs.Common.{length}
use Rattle.openmarks.proofs.run.Given as goal

abbrev pub decreases-loop-side : goal.decreases-loop-side
decreases-loop-side l = length l.rest

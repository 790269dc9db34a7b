use Rattle.std.proofs.Common.{◌≡◌, ◌≤◌, take}
use Rattle.measures.specs.Counts.{code_points}
use Rattle.measures.proofs.code_points.CodePointsMeasure.width.Given as goal

-- the code points before the index are counted, and they are no more than the bytes there
abbrev pub invariant-loop-b : goal.invariant-loop-b
invariant-loop-b l = (l.points ≡ code_points (take l.b-index l.text)) × (l.points ≤ l.b-index)

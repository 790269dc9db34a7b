use Rattle.std.proofs.Common.{◌≡◌, ◌≤◌, take}
use Rattle.measures.specs.Counts.{summed, fours, code_points}
use Rattle.measures.proofs.utf16.Utf16Measure.width.Given as goal

-- both counts stand for the bytes before the index, and neither is more than these are
abbrev pub invariant-loop-b : goal.invariant-loop-b
invariant-loop-b l =
    (l.points ≡ code_points (take l.b-index l.text))
    × (l.points ≤ l.b-index)
    × (l.pairs ≡ summed fours (take l.b-index l.text))
    × (l.pairs ≤ l.b-index)

use Rattle.std.proofs.Common.{take}
use Rattle.measures.specs.Judged.{Read}
use Rattle.measures.proofs.judge.well_formed.Given as goal

-- the judge has read the bytes before the index
abbrev pub invariant-loop-b : goal.invariant-loop-b
invariant-loop-b l = Read l.judge (take l.b-index l.bytes)

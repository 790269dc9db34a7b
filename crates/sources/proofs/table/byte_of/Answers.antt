use Rattle.std.proofs.Common.{arith}
use Rattle.sources.proofs.Tables.{byte_in, byte_past}
use Rattle.sources.proofs.table.byte_of.Goals as goal
use Rattle.sources.proofs.table.byte_of.Goals.{else-at-place-via-then-at-place+then-place-memory+else-at-memory, else-at-place-via-then-at-place+else-place-memory, else-at-place-via-else-at-place}

pub returns-then-at-memory : goal.returns-then-at-memory
returns-then-at-memory c =
    byte_in c.args.memory.now c.in_ok-place.place c.args.at c.in_ok-place.was c.if-at-place.true c.if-at-memory.true

pub returns-else-at-place : goal.returns-else-at-place
returns-else-at-place c =
    byte_past c.args.memory.now c.in_ok-place.place c.args.at c.in_ok-place.was
    (elim c.else-at-place.branch [
      | else-at-place-via-then-at-place+then-place-memory+else-at-memory w ↦ omega arith
      | else-at-place-via-then-at-place+else-place-memory w ↦ omega arith
      | else-at-place-via-else-at-place w ↦ omega arith
    ])

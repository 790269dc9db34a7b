use Rattle.std.proofs.Common.{◌+◌, ◌*◌, ◌≤◌, length}
use Rattle.house.specs.Fields.{AllGood, each}
use Rattle.house.specs.Records.{record_row}
use Rattle.file.proofs.records.records.Given as goal

-- the file reaches the record to come, and those before it are good
abbrev pub invariant-loop-i : goal.invariant-loop-i
invariant-loop-i l =
    let d = l.fn.values.end.bytes.now in
    (l.first + 24 * l.i ≤ length d) × AllGood d (each (record_row d) l.i)

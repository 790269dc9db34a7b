use Rattle.std.proofs.Common.{◌≡◌, Some}
use Rattle.std.specs.List.{slice_get}
use Rattle.marks.specs.Set.{entries}
use Rattle.marks.proofs.set.MarkSet.entry.Given as goal

abbrev pub invariant-loop : goal.invariant-loop
invariant-loop g l = slice_get (entries g.N.Name.below l.self.marks.now) l.counter ≡ Some l.found

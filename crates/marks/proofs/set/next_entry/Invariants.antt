use Rattle.marks.proofs.Sets.{Seen}
use Rattle.marks.proofs.set.next_entry.Given as goal

abbrev pub invariant-loop-mark : goal.invariant-loop-mark
invariant-loop-mark g l = Seen g.met.I.Id.ordered g.met.N.Name.ordered l.last l.marks l.mark-iterator.iter.rest.now l.best

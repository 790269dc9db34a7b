use Rattle.marks.proofs.Sets.{entry_past}
use Rattle.marks.proofs.set.MarkSet.entry_past.Goals as goal

pub returns-clause-entry : goal.returns-clause-entry
returns-clause-entry g c = λ sorted. rw c.next_entry.ensures (entry_past g.met.I.Id.ordered g.met.N.Name.ordered c.args.last c.args.self.now.marks.now sorted)

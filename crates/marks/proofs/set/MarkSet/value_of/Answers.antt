use Rattle.marks.proofs.Sets.{value_is}
use Rattle.marks.proofs.set.MarkSet.value_of.Goals as goal

pub returns-clause-greatest : goal.returns-clause-greatest
returns-clause-greatest g c = λ sorted. rw c.last_value.ensures (value_is g.met.I.Id.ordered g.met.N.Name.ordered c.args.self.now.marks.now c.args.name sorted)

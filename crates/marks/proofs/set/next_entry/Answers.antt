use Rattle.std.proofs.Common.{[], refl, rules}
use Rattle.marks.proofs.Sets.{seen_more}
use Rattle.marks.proofs.set.next_entry.Goals as goal

pub loop-mark-init : goal.loop-mark-init
loop-mark-init g c = ([], search rules, refl)

pub loop-mark-preserved-then-improves : goal.loop-mark-preserved-then-improves
loop-mark-preserved-then-improves g c = seen_more g.met.I.Id.ordered g.met.N.Name.ordered c.args.last c.args.marks.now _ _ c.in-Some.mark.now c.loop-mark.best _ c.loop-mark.invariant c.in-Some.ensures.steps c.if-improves.ensures

pub loop-mark-preserved : goal.loop-mark-preserved
loop-mark-preserved g c = seen_more g.met.I.Id.ordered g.met.N.Name.ordered c.args.last c.args.marks.now _ _ c.in-Some.mark.now c.loop-mark.best _ c.loop-mark.invariant c.in-Some.ensures.steps c.if-improves.ensures

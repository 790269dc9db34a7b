use Rattle.std.proofs.Common.{◌≡◌, Some, rules}
use Rattle.places.specs.Held.{held}
use Rattle.marks.specs.Side.{opened}
use Rattle.marks.proofs.Taken.{ended_here, ended_none, removes_ascends}
use Rattle.marks.proofs.machine.MarkStateMachine.mark_end.Goals as goal

pub returns-in_default-clause-ends : goal.returns-in_default-clause-ends
returns-in_default-clause-ends g c =
    let begun : g.I.Id.previous c.args.id ≡ Some c.in_ok-begun.begun = search rules in
    rw begun (ended_none g.met.I.Id.ordered g.met.N.Name.ordered g.met.V.Value.equality (opened c.args.self.now) c.in_default.field-0 c.in_ok-begun.begun c.args.self.now.in_order c.in_default.ensures.found)

pub invariant_of-self : goal.invariant_of-self
invariant_of-self g c = record { in_order = removes_ascends g.met.I.Id.ordered (opened c.args.self.now) _ c.in-Ok.at c.in_ok-begun.begun c.remove.result c.args.self.now.in_order c.in-Ok.ensures.found c.remove.ensures.removes }

pub returns-clause-ends : goal.returns-clause-ends
returns-clause-ends g c =
    let begun : g.I.Id.previous c.args.id ≡ Some c.in_ok-begun.begun = search rules in
    let out = c.in-Some.ensures.removes in
    rw begun (ended_here g.met.I.Id.ordered g.met.N.Name.ordered g.met.V.Value.equality (opened c.args.self.now) (held c.remove.new.self) c.in-Ok.at c.in_ok-begun.begun c.in-Some.mark c.altered_by.result c.args.self.now.in_order c.in-Ok.ensures.found out.0 out.1 out.2 c.altered_by.ensures)

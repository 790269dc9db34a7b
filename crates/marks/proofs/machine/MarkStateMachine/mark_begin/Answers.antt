use Rattle.std.proofs.Common.{◌≡◌, true, false, Err, rules}
use Rattle.std.specs.Result.{is_ok}
use Rattle.kinds.specs.declared.refusal.Refusal.TheVariants.{NoOpenPlace}
use Rattle.marks.specs.Side.{opened}
use Rattle.marks.proofs.Taken.{began_new, began_open, no_place, full_only, put_in, inserts_ascends}
use Rattle.marks.proofs.machine.MarkStateMachine.mark_begin.Goals as goal

pub returns-in_default-clause-begins : goal.returns-in_default-clause-begins
returns-in_default-clause-begins g c = began_open g.met.I.Id.ordered g.met.N.Name.ordered g.met.V.Value.equality (opened c.args.self.now) c.in_default.field-0 _ c.args.self.now.in_order c.in_default.ensures.found

pub invariant_of-self : goal.invariant_of-self
invariant_of-self g c = record { in_order = inserts_ascends g.met.I.Id.ordered (opened c.args.self.now) _ _ c.in-Err.at (record { id = c.args.id; name = c.args.name; value = c.args.value }) c.insert.result c.args.self.now.in_order c.in-Err.ensures.found c.insert.ensures.inserts }

pub returns-in_err-map_err-clause-begins : goal.returns-in_err-map_err-clause-begins
returns-in_err-map_err-clause-begins g c =
    let bad : is_ok c.insert.result ≡ false = search rules in
    let cause : c.from_residual.result ≡ Err NoOpenPlace = search rules in
    let refused = full_only _ _ _ c.in-Err.at (record { id = c.args.id; name = c.args.name; value = c.args.value }) c.insert.result bad c.in-Err.ensures.within c.insert.ensures.inserts in
    rw cause (no_place g.met.I.Id.ordered g.met.N.Name.ordered g.met.V.Value.equality (opened c.args.self.now) _ c.in-Err.at _ _ c.in-Err.ensures.found refused.0 refused.1)

pub returns-clause-begins : goal.returns-clause-begins
returns-clause-begins g c =
    let good : is_ok c.insert.result ≡ true = search rules in
    began_new g.met.I.Id.ordered g.met.N.Name.ordered g.met.V.Value.equality (opened c.args.self.now) _ c.in-Err.at _ c.altered_by-changed.result c.args.self.now.in_order c.in-Err.ensures.found (put_in _ _ _ _ _ c.insert.result good c.insert.ensures.inserts) c.altered_by-changed.ensures

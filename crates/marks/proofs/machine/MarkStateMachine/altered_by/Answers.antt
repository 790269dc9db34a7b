use Rattle.std.proofs.Common.{◌≡◌, sym, rules, refl}
use Rattle.marks.specs.Side.{opened}
use Rattle.marks.proofs.Alters.{inserted_alters, altered}
use Rattle.marks.proofs.machine.MarkStateMachine.altered_by.Goals as goal

pub returns-then-is_none : goal.returns-then-is_none
returns-then-is_none g c =
    let told : c.is_none_or.result ≡ altered g.V.Value.equal c.last_value.result c.last_value-then-is_none.result c.args.mark.now.value = search rules in
    rw told (inserted_alters g.met.N.Name.ordered g.met.V.Value.equality (opened c.args.self.now) c.args.at c.args.mark.now _ _ (sym (simp c.all-marks.ensures at c.last_value.ensures)) (sym (simp c.all-marks.ensures at c.last_value-then-is_none.ensures)))

pub returns-else-is_none : goal.returns-else-is_none
returns-else-is_none g c =
    let told : c.is_none.result ≡ altered g.V.Value.equal c.last_value.result _ c.args.mark.now.value = search rules in
    rw told (inserted_alters g.met.N.Name.ordered g.met.V.Value.equality (opened c.args.self.now) c.args.at c.args.mark.now _ _ (sym (simp c.all-marks.ensures at c.last_value.ensures)) refl)

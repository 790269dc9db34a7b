use Rattle.std.proofs.Common.{◌<◌, slice_index_or, sym, ap, ◌∙◌, arith}
use Rattle.std.proofs.lemmas.List.{length-take-le, get_or-take}
use Rattle.places.proofs.Moves.{removed}
use Rattle.places.proofs.places.Places.remove.Goals as goal

pub returns-clause-removes : goal.returns-clause-removes
returns-clause-removes g c =
    let old = c.args.self.now.slots.now in
    let used = c.args.self.now.used in
    let inside : c.args.at < used = omega (arith, c.if-at-self.false) in
    let item = ap (λ d. slice_index_or old c.args.at d) c.index-self-at.is ∙ sym (get_or-take used old c.args.at _ inside) in
    (omega (arith, inside, length-take-le used old (omega arith)), item, rw c.copy_within.ensures.after (removed old c.args.at used inside (omega arith)))

use Rattle.std.proofs.Common.{◌≡◌, length, take, arith}
use Rattle.std.proofs.lemmas.List.{length-take-le}
use Rattle.places.proofs.Moves.{inserted}
use Rattle.places.proofs.places.Places.insert.Goals as goal

pub returns-clause-inserts : goal.returns-clause-inserts
returns-clause-inserts g c =
    let old = c.args.self.now.slots.now in
    let used = c.args.self.now.used in
    let within : length (take used old) ≡ used = length-take-le used old (omega arith) in
    (omega arith, omega arith, rw c.copy_within.ensures.after (inserted old c.args.at used c.args.item (omega arith) (omega arith)))

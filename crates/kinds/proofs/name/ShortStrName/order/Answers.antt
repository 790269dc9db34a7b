-- What comparing the bytes answers, said of the names.
use Rattle.std.proofs.Common.{refl}
use Rattle.kinds.specs.Spellings.{ranked_names}
use Rattle.kinds.proofs.name.ShortStrName.order.Goals as goal

pub returns : goal.returns
returns c = rw c.cmp.ensures (ranked_names c.args.self.now c.args.other.now _ _ _ refl refl refl)

-- The bytes of a text are well-formed.
use Rattle.std.proofs.Common.{sym, subst}
use Rattle.measures.specs.Rfc3629.{Utf8Octets}
use Rattle.kinds.proofs.WellFormed.{name_well_formed}
use Rattle.kinds.proofs.text.ShortStr.bytes.Goals as goal

pub returns : goal.returns
returns c = record {
  spells = c.bytes.ensures;
  well = subst Utf8Octets (sym c.bytes.ensures) (name_well_formed c.args.self.now);
}

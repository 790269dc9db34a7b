-- Well-formed bytes are what a `&str` holds.
use Rattle.std.proofs.Common.{IsUtf8, sym, subst}
use Rattle.kinds.proofs.WellFormed.{name_is_text}
use Rattle.kinds.proofs.text.ShortStr.as_str.Goals as goal

pub from_utf8_unchecked-requires : goal.from_utf8_unchecked-requires
from_utf8_unchecked-requires c = subst IsUtf8 (sym c.bytes.ensures.spells) (name_is_text c.args.self.now)

use Rattle.measures.proofs.Agreement.{agrees}
use Rattle.measures.proofs.strings.bytes_of.Goals as goal

pub returns : goal.returns
returns c = (c.as_bytes.ensures.value, (agrees _).1 c.as_bytes.ensures.utf8)

use Rattle.measures.proofs.Sums.{counts_characters, counts_units}
use Rattle.measures.proofs.counts.counts_stand.Goals as goal

pub returns : goal.returns
returns c = record { characters = counts_characters; units = counts_units }

use Rattle.piles.proofs.Parts.{windows_join}
use Rattle.piles.proofs.windows.windows_join.Goals as goal

pub returns : goal.returns
returns g c = windows_join

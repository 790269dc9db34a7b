use Rattle.house.proofs.Holding.{good_holds}
use Rattle.house.proofs.theorem.contents_stand.Goals as goal

pub returns : goal.returns
returns c = good_holds

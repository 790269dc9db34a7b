use Rattle.piles.proofs.Sifts.{clocks_join}
use Rattle.piles.proofs.clocks.clocks_join.Goals as goal

pub returns : goal.returns
returns g c = let id = g.I.Id in clocks_join id.actor id.counter

use Rattle.piles.proofs.Turns.{covered_exchange, unfilled_exchange}
use Rattle.piles.proofs.exchanged.window_and_clock_exchange.Goals as goal

pub returns : goal.returns
returns g c =
    let id = g.I.Id in
    record {
      covered = covered_exchange id.actor id.counter;
      unfilled = unfilled_exchange id.actor id.counter;
    }

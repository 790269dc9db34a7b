use Rattle.std.proofs.Common.{◌≡◌, length}
use Rattle.sources.specs.Sifted.{clocked_means}
use Rattle.sources.proofs.clocked.Clocked.settle.Given as goal

abbrev pub invariant-loop-record : goal.invariant-loop-record
invariant-loop-record g l =
    let id = g.S.I.Id in
    let m = g.S.Source.means in
    clocked_means id.actor id.counter m l.self ≡ clocked_means id.actor id.counter m l.initial.self

abbrev pub decreases-loop-record : goal.decreases-loop-record
decreases-loop-record g l = length (g.S.Source.means l.self.below).records

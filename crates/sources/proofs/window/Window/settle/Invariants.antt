use Rattle.std.proofs.Common.{◌≡◌}
use Rattle.sources.specs.Window.{window_means}
use Rattle.sources.proofs.window.Window.settle.Given as goal

abbrev pub invariant-loop-self : goal.invariant-loop-self
invariant-loop-self g l = window_means g.S.Source.means l.self ≡ window_means g.S.Source.means l.initial.self

abbrev pub decreases-loop-self : goal.decreases-loop-self
decreases-loop-self g l = l.self.skip

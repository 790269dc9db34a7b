use Rattle.std.proofs.Common.{ap, ◌∙◌}
use Rattle.sources.specs.Meaning.{stepped}
use Rattle.sources.specs.Window.{opened}
use Rattle.sources.proofs.Windows.{steps}
use Rattle.sources.proofs.window.WindowSource.step.Goals as goal

pub returns-then-more : goal.returns-then-more
returns-then-more g c =
    let w = c.settle.new.self in
    ap (opened w.skip _) (c.step.ensures ∙ ap stepped c.more.ensures.same)
    ∙ steps w.skip w.left (g.S.Source.means w.below) c.settle.ensures.settled c.if-self-gt0.true c.if-more.ensures.answer
    ∙ ap stepped c.settle.ensures.same

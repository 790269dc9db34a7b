use Rattle.std.proofs.Common.{◌+◌, ◌<◌, ap, ◌∙◌, arith}
use Rattle.sources.specs.Meaning.{Meaning, first}
use Rattle.sources.specs.Window.{opened}
use Rattle.sources.proofs.Windows.{shows}
use Rattle.sources.proofs.window.WindowSource.look.Goals as goal
use Rattle.sources.proofs.window.WindowSource.look.Goals.{else-self-eq0-via-then-self-eq0+else-self-eq0-2, else-self-eq0-via-else-self-eq0}

pub returns-else-self-eq0 : goal.returns-else-self-eq0
returns-else-self-eq0 g c =
    let w = c.settle.new.self in
    let open-still : 0 < w.skip + w.left = elim c.else-self-eq0.branch [
      | else-self-eq0-via-then-self-eq0+else-self-eq0-2 w ↦ omega arith
      | else-self-eq0-via-else-self-eq0 w ↦ omega arith
    ] in
    record {
      answer =
          c.look.ensures.answer
          ∙ shows w.skip w.left (g.S.Source.means w.below) c.settle.ensures.settled open-still
          ∙ ap (λ (m : Meaning g.row.S-I.Denot g.row.S-N.Denot g.row.S-V.Denot). first m.records m.ending) c.settle.ensures.same;
      same = ap (opened w.skip w.left) c.look.ensures.same ∙ c.settle.ensures.same;
    }

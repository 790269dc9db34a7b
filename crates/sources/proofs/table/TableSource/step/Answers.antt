use Rattle.std.proofs.Common.{Ok, sym, ap, ◌∙◌}
use Rattle.sources.proofs.Tables.{step_in}
use Rattle.sources.proofs.table.TableSource.step.Goals as goal

pub returns-in-Ok-Some : goal.returns-in-Ok-Some
returns-in-Ok-Some g c =
    let t = c.args.self.now in
    step_in t.text.now t.at t.rows.now (ap Ok (sym c.in-Ok-Some.field-0-is) ∙ (sym c.in-Ok-Some.is ∙ c.head.ensures))

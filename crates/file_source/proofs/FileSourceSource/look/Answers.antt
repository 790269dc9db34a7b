use Rattle.std.proofs.Common.{sym, ◌∙◌}
use Rattle.file_source.proofs.Filing.{shows}
use Rattle.file_source.proofs.FileSourceSource.look.Goals as goal

pub returns-clause-answer : goal.returns-clause-answer
returns-clause-answer c =
    let s = c.args.self.now in
    shows s.file.bytes.now s.at c.in-Some.first c.from.result c.name.result c.value.result c.is_some.result (sym c.record.ensures ∙ c.in-Some.is) (c.from.ensures, c.name.ensures, c.value.ensures, c.is_some.ensures)

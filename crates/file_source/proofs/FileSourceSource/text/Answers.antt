use Rattle.std.proofs.Common.{sym, ap, ◌∙◌}
use Rattle.sources.specs.Meaning.{byte_at}
use Rattle.sources.specs.Table.{text_of}
use Rattle.file_source.proofs.Filing.{shows_text}
use Rattle.file_source.proofs.FileSourceSource.text.Goals as goal

pub returns-clause-answer : goal.returns-clause-answer
returns-clause-answer c =
    let s = c.args.self.now in
    c.byte_of.ensures
    ∙ ap (λ t. byte_at (text_of t c.in_ok-first.first.text) c.args.place) c.text.ensures
    ∙ shows_text s.file.bytes.now s.at c.in_ok-first.first c.args.place (sym c.record.ensures ∙ c.in_ok-first.was)

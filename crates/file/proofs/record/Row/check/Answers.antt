use Rattle.std.proofs.Common.{◌++◌, ◌+◌, ◌≤◌, length}
use Rattle.house.specs.Records.{link_fields, id_fields, text_fields, record_fields}
use Rattle.house.proofs.Rows.{bad_front, bad_behind}
use Rattle.file.proofs.Judging.{judged_behind, judged_err}
use Rattle.file.proofs.record.Row.check.Goals as goal

pub returns-in_err-id : goal.returns-in_err-id
returns-in_err-id c =
    let d = c.args.self.now.frame.now.bytes.now in
    let at = c.args.self.now.at in
    let e = c.in_err-id.field-0.0 in
    let later = bad_front d (id_fields d at) (text_fields d at) e c.in_err-id.ensures in
    judged_err d (record_fields d at) c.from_residual-in_err-id.result _ e c.from_residual-in_err-id.ensures.1 (bad_behind d (link_fields d at) (id_fields d at ++ text_fields d at) e c.in_ok-has_text.ensures.0 later)

pub returns : goal.returns
returns c =
    let d = c.args.self.now.frame.now.bytes.now in
    let at = c.args.self.now.at in
    let later = judged_behind d (id_fields d at) (text_fields d at) c.text.result (λ _. at + 24 ≤ length d) c.in_ok-id.ensures.0 c.text.ensures in
    judged_behind d (link_fields d at) (id_fields d at ++ text_fields d at) c.text.result (λ _. at + 24 ≤ length d) c.in_ok-has_text.ensures.0 later

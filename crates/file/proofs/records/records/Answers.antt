use Rattle.std.proofs.Common.{◌≡◌, ◌+◌, ◌*◌, ◌<◌, ◌≤◌, length, refl, ap, subst, inr, arith, rules}
use Rattle.house.specs.Fields.{AllGood, FirstBad}
use Rattle.house.specs.Records.{records_fields, record_row, record_fields, records_count, records_head}
use Rattle.house.proofs.Rows.{each_more, each_bad}
use Rattle.file.proofs.Places.{values_end}
use Rattle.file.proofs.Judging.{judged_err}
use Rattle.file.proofs.records.records.Goals as goal

pub returns-in_err-check : goal.returns-in_err-check
returns-in_err-check c =
    let s = c.args.values.now in
    let d = s.end.bytes.now in
    let i = c.loop-i.i in
    let e = c.in_err-check.field-0.0 in
    let head = values_end d d s.end.at s.count refl s.counted s.ended in
    let here = subst (λ h. FirstBad d (record_fields d (h + 4 + 24 * i)) e) head c.in_err-check.ensures in
    let whole : records_head d + 4 ≤ length d = omega (arith, head, c.in_ok-count.ensures.0, c.field.ensures.at, ap length c.field.ensures.bytes) in
    let count : c.in_ok-count.count ≡ records_count d = search rules in
    let below = subst (λ n. i < n) count c.loop-i-test.true in
    judged_err d (records_fields d) c.from_residual-in_err-check.result _ e c.from_residual-in_err-check.ensures.1 (inr ((whole, tt), each_bad d (record_row d) i (records_count d) e below c.loop-i.invariant.1 here))

pub loop-i-preserved : goal.loop-i-preserved
loop-i-preserved c =
    let s = c.args.values.now in
    let d = s.end.bytes.now in
    let i = c.loop-i.i in
    let head = values_end d d s.end.at s.count refl s.counted s.ended in
    let here = subst (λ h. AllGood d (record_fields d (h + 4 + 24 * i))) head c.in_ok-check.ensures.0 in
    (omega (arith, c.in_ok-check.ensures.1), each_more d (record_row d) i c.loop-i.invariant.1 here)

use Rattle.std.proofs.Common.{◌≡◌, ◌+◌, length, refl, ap, ◌∙◌, subst}
use Rattle.house.specs.Fields.{AllGood, FirstBad, le32}
use Rattle.house.specs.Values.{values_fields}
use Rattle.house.specs.Records.{records_fields, records_count}
use Rattle.house.specs.House.{fields, end_fields}
use Rattle.house.proofs.Whole.{bad_names, bad_values, bad_records, bad_end, all_good}
use Rattle.file.proofs.Places.{read_good}
use Rattle.file.proofs.Judging.{judged_err}
use Rattle.file.proofs.check.check.Goals as goal

pub returns-in_err-names : goal.returns-in_err-names
returns-in_err-names c =
    let d = c.args.bytes.now in
    judged_err d (fields d) c.from_residual.result _ c.in_err-names.field-0.0 c.from_residual.ensures.1 (bad_names d c.in_err-names.field-0.0 c.in_err-names.ensures)

pub returns-in_err-values : goal.returns-in_err-values
returns-in_err-values c =
    let d = c.args.bytes.now in
    let e = c.in_err-values.field-0.0 in
    let names = c.in_ok-names.ensures in
    let bad = subst (λ b. FirstBad b (values_fields b) e) names.1 c.in_err-values.ensures in
    judged_err d (fields d) c.from_residual-in_err-values.result _ e c.from_residual-in_err-values.ensures.1 (bad_values d e names.0 bad)

pub returns-in_err-records : goal.returns-in_err-records
returns-in_err-records c =
    let d = c.args.bytes.now in
    let e = c.in_err-records.field-0.0 in
    let names = c.in_ok-names.ensures in
    let values = subst (λ b. AllGood b (values_fields b)) names.1 c.in_ok-values.ensures.0 in
    let bad = subst (λ b. FirstBad b (records_fields b) e) (c.in_ok-values.ensures.1 ∙ names.1) c.in_err-records.ensures in
    judged_err d (fields d) c.from_residual-in_err-records.result _ e c.from_residual-in_err-records.ensures.1 (bad_records d e names.0 values bad)

pub returns-in_err-text : goal.returns-in_err-text
returns-in_err-text c =
    let d = c.args.bytes.now in
    let e = c.in_err-text.field-0.0 in
    let names = c.in_ok-names.ensures in
    let s = c.in_ok-values.values in
    let read = read_good d c.in_ok-names.names.end.bytes.now s.end.bytes.now s.end.at s.count c.in_ok-records.records c.ahead-head.result.at names.1 c.in_ok-values.ensures.1 c.in_ok-values.ensures.0 c.in_ok-records.ensures.0 s.counted s.ended c.in_ok-records.ensures.1.0 c.ahead-head.ensures.at in
    let bytes = c.ahead-head.ensures.bytes ∙ c.in_ok-values.ensures.1 ∙ names.1 in
    let here = subst (λ b. FirstBad b (end_fields b c.ahead-head.result.at) e) bytes c.in_err-text.ensures in
    judged_err d (fields d) c.from_residual-in_err-text.result _ e c.from_residual-in_err-text.ensures.1 (bad_end d e names.0 read.0 read.1 (subst (λ h. FirstBad d (end_fields d h) e) read.2 here))

pub invariant_of-result : goal.invariant_of-result
invariant_of-result c =
    let d = c.args.bytes.now in
    let names = c.in_ok-names.ensures in
    let s = c.in_ok-values.values in
    let read = read_good d c.in_ok-names.names.end.bytes.now s.end.bytes.now s.end.at s.count c.in_ok-records.records c.ahead-head.result.at names.1 c.in_ok-values.ensures.1 c.in_ok-values.ensures.0 c.in_ok-records.ensures.0 s.counted s.ended c.in_ok-records.ensures.1.0 c.ahead-head.ensures.at in
    let bytes = c.ahead-head.ensures.bytes ∙ c.in_ok-values.ensures.1 ∙ names.1 in
    let here = subst (λ b. AllGood b (end_fields b c.ahead-head.result.at)) bytes c.in_ok-text.ensures.0 in
    let ends = subst (λ b. c.ahead-head.result.at + 4 + le32 b c.ahead-head.result.at ≡ length b) bytes c.in_ok-text.ensures.1 in
    let same = c.in_ok-values.ensures.1 ∙ names.1 in
    record {
      good = ∣ all_good d names.0 read.0 read.1 (subst (λ h. AllGood d (end_fields d h)) read.2 here) ∣₁;
      named = names.1;
      valued = same;
      counted = c.in_ok-records.ensures.1.0 ∙ ap records_count same;
      placed = read.2;
      whole = subst (λ h. h + 4 + le32 d h ≡ length d) read.2 ends;
    }

pub returns : goal.returns
returns c =
    let d = c.args.bytes.now in
    let names = c.in_ok-names.ensures in
    let s = c.in_ok-values.values in
    let read = read_good d c.in_ok-names.names.end.bytes.now s.end.bytes.now s.end.at s.count c.in_ok-records.records c.ahead-head.result.at names.1 c.in_ok-values.ensures.1 c.in_ok-values.ensures.0 c.in_ok-records.ensures.0 s.counted s.ended c.in_ok-records.ensures.1.0 c.ahead-head.ensures.at in
    let bytes = c.ahead-head.ensures.bytes ∙ c.in_ok-values.ensures.1 ∙ names.1 in
    let here = subst (λ b. AllGood b (end_fields b c.ahead-head.result.at)) bytes c.in_ok-text.ensures.0 in
    (all_good d names.0 read.0 read.1 (subst (λ h. AllGood d (end_fields d h)) read.2 here), refl)

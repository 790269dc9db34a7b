use Rattle.std.proofs.Common.{◌≡◌, ◌<◌, Some, ap, ◌∙◌, arith, lt-ltb}
use Rattle.house.specs.Records.{records_count, record_place}
use Rattle.file.specs.Given.{record_standing}
use Rattle.file.proofs.Places.{values_end}
use Rattle.file.proofs.house_file.HouseFile.record.Goals as goal

pub returns-then-i-self : goal.returns-then-i-self
returns-then-i-self c =
    let f = c.args.self.now in
    let d = f.bytes.now in
    let i = c.args.i in
    let below : i < records_count d = omega (arith, c.if-i-self.true, f.counted) in
    let head = values_end f.values.end.bytes.now d f.values.end.at f.values.count f.valued f.values.counted f.values.ended in
    let at : c.ahead-place.result.at ≡ record_place d i = omega (arith, c.ahead-place.ensures.at, head) in
    let bytes = c.ahead-place.ensures.bytes ∙ f.valued in
    ap Some (c.record_of.ensures ∙ ap (λ b. record_standing b c.ahead-place.result.at) bytes ∙ ap (record_standing d) at) ∙ rw (lt-ltb _ _ below)

use Rattle.std.proofs.Common.{◌≡◌, length, ap, ◌∙◌, arith, rules}
use Rattle.kinds.specs.Kinds.{kind_of}
use Rattle.house.specs.Fields.{byte}
use Rattle.house.specs.Values.{value_width, values_head, values_count, value_place}
use Rattle.file.proofs.Places.{item_reached}
use Rattle.file.proofs.frame.Frame.kind_at.Goals as goal

pub number-requires : goal.number-requires
number-requires c =
    let s = c.args.self.now.values.now in
    let e = s.end.bytes.now in
    let count : s.count ≡ values_count c.args.self.now.bytes.now = s.counted ∙ ap values_count c.args.self.now.valued in
    let reached = item_reached value_width (values_head e) e s.count s.end.at s.ended s.end.within c.args.i (omega (arith, c.requires, count)) in
    omega (arith, c.place.ensures.at, ap length c.place.ensures.bytes, reached)

pub returns : goal.returns
returns c =
    let d = c.args.self.now.bytes.now in
    let bytes = c.place.ensures.bytes ∙ c.args.self.now.valued in
    let at : c.place.result.at ≡ value_place d c.args.i = c.place.ensures.at ∙ ap (λ b. value_place b c.args.i) c.args.self.now.valued in
    let here : c.number.result ≡ byte d (value_place d c.args.i) = search rules in
    c.kind_of.ensures ∙ ap kind_of here

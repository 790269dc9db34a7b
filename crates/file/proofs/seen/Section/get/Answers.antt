use Rattle.std.proofs.Common.{◌<◌, sym, subst, arith}
use Rattle.house.specs.Fields.{AllGood, le32}
use Rattle.house.specs.Items.{item_row}
use Rattle.house.proofs.Rows.{each_at}
use mathlib.Core.Logic.{∥∥₁_map}
use Rattle.file.proofs.seen.Section.get.Goals as goal

pub held-requires : goal.held-requires
held-requires g c =
    let s = c.args.self.now in
    let d = s.end.bytes.now in
    let width = g.T.Item.width in
    let fields = g.T.Item.fields in
    let head = g.T.Item.head d in
    let below : c.args.i < le32 d head = omega (arith, c.if-from-self.true, c.from.ensures, s.counted) in
    let good = ∥∥₁_map s.good (λ x. each_at d (item_row fields width head d) _ c.args.i x.1 below) in
    let here = subst (λ p. ∥ AllGood d (fields d p) ∥₁) (sym c.place.ensures.at) good in
    subst (λ b. ∥ AllGood b (fields b c.place.result.at) ∥₁) (sym c.place.ensures.bytes) here

use Rattle.std.proofs.Common.{◌≡◌, ◌+◌, ◌<◌, ◌≤◌, length, sym, refl, ap, ◌∙◌, subst, inr, add-one, arith}
use Rattle.house.specs.Fields.{AllGood, FirstBad, each, le32}
use Rattle.house.specs.Items.{item_place, item_row, items_fields}
use Rattle.file.specs.Indexed.{Indexed}
use Rattle.house.proofs.Rows.{each_more, each_bad}
use Rattle.file.proofs.Judging.{judged_err}
use Rattle.file.proofs.section.section.Goals as goal

pub returns-in_err-place : goal.returns-in_err-place
returns-in_err-place g c =
    let d = c.args.head.now.bytes.now in
    let width = g.T.Item.width in
    let fields = g.T.Item.fields in
    let head = g.T.Item.head d in
    let i = c.loop-i.i in
    let e = c.in_err-place.field-0.0 in
    let same = subst (λ b. FirstBad b (fields b c.loop-i.place.at) e) c.loop-i.invariant.0 c.in_err-place.ensures in
    let here = subst (λ p. FirstBad d (fields d p) e) c.loop-i.invariant.1 same in
    let below = subst (λ n. i < n) c.loop-i.invariant.2 c.loop-i-test.true in
    let whole : head + 4 ≤ length d = omega (arith, c.requires, c.in_ok-count.ensures.0, c.field.ensures.at, ap length c.field.ensures.bytes) in
    judged_err d (items_fields g.T.Item.count fields width head d) c.from_residual-in_err-place.result _ e c.from_residual-in_err-place.ensures.1 (inr ((whole, tt), each_bad d (item_row fields width head d) i (le32 d head) e below c.loop-i.invariant.3 here))

pub loop-i-preserved : goal.loop-i-preserved
loop-i-preserved g c =
    let d = c.args.head.now.bytes.now in
    let width = g.T.Item.width in
    let fields = g.T.Item.fields in
    let head = g.T.Item.head d in
    let i = c.loop-i.i in
    let bytes = c.loop-i.invariant.0 in
    let at = c.loop-i.invariant.1 in
    let checked = c.in_ok-place.ensures in
    let good = subst (λ b. AllGood b (fields b c.loop-i.place.at)) bytes checked.0 in
    let here = subst (λ p. AllGood d (fields d p)) at good in
    let next : item_place width head d (i + 1) ≡ item_place width head d i + width d (item_place width head d i) = rw (add-one i) refl in (
      checked.1.0 ∙ bytes,
      checked.1.1 ∙ ap (λ b. c.loop-i.place.at + width b c.loop-i.place.at) bytes ∙ ap (λ p. p + width d p) at ∙ sym next,
      c.loop-i.invariant.2,
      each_more d (item_row fields width head d) i c.loop-i.invariant.3 here,
      c.note.ensures (item_place width head d) c.loop-i.invariant.4 at,
    )

pub invariant_of-result-clause-ended : goal.invariant_of-result-clause-ended
invariant_of-result-clause-ended g c =
    let d = c.args.head.now.bytes.now in
    let width = g.T.Item.width in
    let all : c.loop-i.i ≡ c.in_ok-count.count = omega (arith, c.loop-i-test.false, c.loop-i.auto.i-end) in
    let at = c.loop-i.place.at in
    let here = subst (λ k. at ≡ item_place width (g.T.Item.head d) d k) all c.loop-i.invariant.1 in
    subst (λ b. at ≡ item_place width (g.T.Item.head b) b c.in_ok-count.count) (sym c.loop-i.invariant.0) here

pub invariant_of-result-clause-indexed : goal.invariant_of-result-clause-indexed
invariant_of-result-clause-indexed g c =
    let d = c.args.head.now.bytes.now in
    let width = g.T.Item.width in
    let all : c.loop-i.i ≡ c.in_ok-count.count = omega (arith, c.loop-i-test.false, c.loop-i.auto.i-end) in
    let here = subst (λ k. Indexed (item_place width (g.T.Item.head d) d) k c.loop-i.index) all c.loop-i.invariant.4 in
    subst (λ b. ∥ Indexed (item_place width (g.T.Item.head b) b) c.in_ok-count.count c.loop-i.index ∥₁) (sym c.loop-i.invariant.0) ∣ here ∣₁

pub invariant_of-result-clause-good : goal.invariant_of-result-clause-good
invariant_of-result-clause-good g c =
    let d = c.args.head.now.bytes.now in
    let width = g.T.Item.width in
    let fields = g.T.Item.fields in
    let head = g.T.Item.head d in
    let whole : head + 4 ≤ length d = omega (arith, c.requires, c.in_ok-count.ensures.0, c.field.ensures.at, ap length c.field.ensures.bytes) in
    let all : c.loop-i.i ≡ le32 d head = omega (arith, c.loop-i-test.false, c.loop-i.auto.i-end, c.loop-i.invariant.2) in
    let rows = subst (λ k. AllGood d (each (item_row fields width head d) k)) all c.loop-i.invariant.3 in
    subst (λ b. ∥ AllGood b (items_fields g.T.Item.count fields width (g.T.Item.head b) b) ∥₁) (sym c.loop-i.invariant.0) ∣ ((whole, tt), rows) ∣₁

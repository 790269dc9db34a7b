use Rattle.std.proofs.Common.{◌≡◌, suc, ◌+◌, ◌*◌, ◌/◌, ◌%◌, ◌<◌, ◌≤◌, length, sym, ap, ◌∙◌, subst, add-zero, arith}
use Rattle.house.specs.Items.{item_place}
use Rattle.file.proofs.Had.{equal_had}
use Rattle.file.proofs.Places.{item_reached, item_begun}
use Rattle.file.proofs.seen.Section.place.Goals as goal

pub to-requires : goal.to-requires
to-requires g c =
    let s = c.args.self.now in
    let d = s.end.bytes.now in
    let place = item_place g.T.Item.width (g.T.Item.head d) d in
    let at = equal_had s.indexed c.near.result (place c.args.i) (λ x. c.near.ensures place s.count x c.requires) in
    item_begun g.T.Item.width (g.T.Item.head d) d s.count s.end.at s.ended s.end.within c.args.i c.near.result c.requires at

pub returns-then-i-lt256-clause-at : goal.returns-then-i-lt256-clause-at
returns-then-i-lt256-clause-at g c =
    let s = c.args.self.now in
    let d = s.end.bytes.now in
    let place = item_place g.T.Item.width (g.T.Item.head d) d in
    c.to.ensures.at ∙ equal_had s.indexed c.near.result (place c.args.i) (λ x. c.near.ensures place s.count x c.requires)

pub to-place-requires : goal.to-place-requires
to-place-requires g c =
    let s = c.args.self.now in
    let d = s.end.bytes.now in
    let place = item_place g.T.Item.width (g.T.Item.head d) d in
    let first = c.args.i / 256 * 256 in
    let at = equal_had s.indexed c.far.result (place first) (λ x. c.far.ensures place s.count x c.requires) in
    item_begun g.T.Item.width (g.T.Item.head d) d s.count s.end.at s.ended s.end.within first c.far.result (omega (arith, c.requires)) at

pub loop-init : goal.loop-init
loop-init g c =
    let s = c.args.self.now in
    let d = s.end.bytes.now in
    let place = item_place g.T.Item.width (g.T.Item.head d) d in
    let first = c.args.i / 256 * 256 in
    (c.to-place.ensures.bytes, c.to-place.ensures.at ∙ equal_had s.indexed c.far.result (place first) (λ x. c.far.ensures place s.count x c.requires) ∙ ap place (sym (add-zero first)))

pub behind-place-requires : goal.behind-place-requires
behind-place-requires g c =
    let s = c.args.self.now in
    let d = s.end.bytes.now in
    let width = g.T.Item.width in
    let at = c.loop.place.at in
    let i = c.args.i in
    let short : c.loop.counter < i % 256 = c.loop-test.true in
    let reached = item_reached width (g.T.Item.head d) d s.count s.end.at s.ended s.end.within (i / 256 * 256 + c.loop.counter) (omega (arith, c.requires, short)) in
    let here = subst (λ p. p + width d p ≤ length d) (sym c.loop.invariant.1) reached in
    subst (λ b. at + width b at ≤ length b) (sym c.loop.invariant.0) here

pub loop-preserved : goal.loop-preserved
loop-preserved g c =
    let d = c.args.self.now.end.bytes.now in
    let width = g.T.Item.width in
    let place = item_place width (g.T.Item.head d) d in
    let k = c.args.i / 256 * 256 + c.loop.counter in
    let one : suc k ≡ c.args.i / 256 * 256 + (c.loop.counter + 1) = omega arith in (
      c.behind-place.ensures.bytes ∙ c.loop.invariant.0,
      c.behind-place.ensures.at ∙ ap (λ b. c.loop.place.at + width b c.loop.place.at) c.loop.invariant.0 ∙ ap (λ p. p + width d p) c.loop.invariant.1 ∙ ap place one,
    )

use Rattle.std.proofs.Common.{◌≡◌, ◌+◌, subst, arith}
use Rattle.measures.specs.Counts.{points, fours, utf16_units}
use Rattle.measures.specs.Widths.{Says}
use Rattle.measures.proofs.Sums.{summed_more, summed_all, utf16_parts}
use Rattle.measures.proofs.utf16.Utf16Measure.width.Goals as goal

pub loop-b-preserved : goal.loop-b-preserved
loop-b-preserved c =
    let p = summed_more points c.args.text.now c.loop-b.b-index c.loop-b-test.true in
    let f = summed_more fours c.args.text.now c.loop-b.b-index c.loop-b-test.true in
    (omega arith, omega arith, omega arith, omega arith)

pub returns : goal.returns
returns c =
    let p = summed_all points c.args.text.now c.loop-b.b-index c.loop-b-test.false in
    let f = summed_all fours c.args.text.now c.loop-b.b-index c.loop-b-test.false in
    let parts = utf16_parts c.args.text.now in
    let e : c.loop-b.points + c.loop-b.pairs ≡ utf16_units c.args.text.now = omega arith in
    subst (Says c.joined_width.result) e (c.joined_width.ensures _ _ c.width_of.ensures c.width_of-2.ensures)

use Rattle.std.proofs.Common.{arith}
use Rattle.measures.specs.Counts.{points}
use Rattle.measures.proofs.Sums.{summed_more}
use Rattle.measures.proofs.code_points.CodePointsMeasure.width.Goals as goal

pub loop-b-preserved : goal.loop-b-preserved
loop-b-preserved c =
    let e = summed_more points c.args.text.now c.loop-b.b-index c.loop-b-test.true in
    (omega arith, omega arith)

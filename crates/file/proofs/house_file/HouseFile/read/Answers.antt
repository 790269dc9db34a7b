use Rattle.house.proofs.Holding.{good_holds}
use Rattle.file.proofs.house_file.HouseFile.read.Goals as goal

pub returns-clause-judged : goal.returns-clause-judged
returns-clause-judged c =
    let good = c.in_ok-file.ensures.0 in
    (good, (c.in_ok-file.ensures.1, good_holds c.args.bytes.now good))

use Rattle.std.proofs.Common.{refl}
use Rattle.measures.proofs.Agreement.{agrees}
use Rattle.measures.proofs.Reading.{read_at, refused_at, decided_at}
use Rattle.measures.proofs.judge.well_formed.Goals as goal

pub returns-then-not-take : goal.returns-then-not-take
returns-then-not-take c = record {
  grammar = refused_at c.args.bytes.now c.loop-b.b-index _ c.loop-b-test.true refl (c.if-not-take.ensures.taken _ c.loop-b.invariant);
  agrees = agrees;
}

pub loop-b-preserved : goal.loop-b-preserved
loop-b-preserved c = read_at _ _ _ _ c.loop-b-test.true refl (c.if-not-take.ensures.taken _ c.loop-b.invariant).0

pub returns : goal.returns
returns c = record {
  grammar = decided_at _ c.args.bytes.now c.loop-b.b-index c.loop-b-test.false (c.done.ensures _ c.loop-b.invariant);
  agrees = agrees;
}

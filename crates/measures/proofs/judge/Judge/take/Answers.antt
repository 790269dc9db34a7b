use Rattle.std.proofs.Common.{sym, refl}
use Rattle.measures.proofs.Reading.{read_more, begins_read, hopeless_more, false_true}
use Rattle.measures.proofs.judge.Judge.take.Goals as goal

pub returns-in-Some : goal.returns-in-Some
returns-in-Some c = record {
  taken = λ bytes h.
      let m = read_more _ _ c.args.b bytes (sym c.in-Some.ensures) h in
      (m, begins_read _ _ m);
  kept = λ e. false_true (sym e);
}

pub returns-in-None : goal.returns-in-None
returns-in-None c = record {
  taken = λ bytes h. hopeless_more _ c.args.b bytes (sym c.in-None.ensures) h;
  kept = λ _. refl;
}

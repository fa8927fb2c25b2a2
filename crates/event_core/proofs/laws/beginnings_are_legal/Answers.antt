use Rattle.event_core.specs.Lemmas.Ended.{beginnings_legal}
use Rattle.event_core.proofs.laws.beginnings_are_legal.Goals as goal

pub returns : goal.returns
returns c = beginnings_legal c.args._problem.now

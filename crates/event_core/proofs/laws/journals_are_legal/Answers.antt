use Rattle.event_core.proofs.Journals.{journals_legal}
use Rattle.event_core.proofs.laws.journals_are_legal.Goals as goal

pub returns : goal.returns
returns c = journals_legal c.args._problem.now

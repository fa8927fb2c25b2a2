use Rattle.event_core.specs.Lemmas.Reasons.{decides-reason}
use Rattle.event_core.proofs.laws.reasons_are_decided.Goals as goal

pub returns : goal.returns
returns c = decides-reason c.args._problem.now

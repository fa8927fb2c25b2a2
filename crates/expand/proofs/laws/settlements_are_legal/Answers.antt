use Rattle.expand.specs.Lemmas.Events.{settlement_legal}
use Rattle.expand.proofs.laws.settlements_are_legal.Goals as goal

pub returns : goal.returns
returns c = settlement_legal

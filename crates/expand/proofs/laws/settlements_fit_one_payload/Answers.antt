use Rattle.expand.specs.Lemmas.Events.{settlement_fits}
use Rattle.expand.proofs.laws.settlements_fit_one_payload.Goals as goal

pub returns : goal.returns
returns c = settlement_fits

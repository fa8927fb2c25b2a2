use Rattle.worker_gate.specs.Lemmas.Staying.{conditions_stay}
use Rattle.worker_gate.proofs.laws.conditions_stay.Goals as goal

pub returns : goal.returns
returns c = conditions_stay

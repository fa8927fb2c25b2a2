use Rattle.event_core.specs.Lemmas.Sounding.{legal_sound}
use Rattle.event_core.proofs.laws.legal_states_are_sound.Goals as goal

pub returns : goal.returns
returns c = legal_sound c.args._problem.now

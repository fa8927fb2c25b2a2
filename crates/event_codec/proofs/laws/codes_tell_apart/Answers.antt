use Rattle.event_codec.proofs.Events.{told_apart}
use Rattle.event_codec.proofs.laws.codes_tell_apart.Goals as goal

pub returns : goal.returns
returns c = told_apart

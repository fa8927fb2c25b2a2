use Rattle.event_codec.proofs.Events.{no_prefix}
use Rattle.event_codec.proofs.laws.no_code_is_a_prefix.Goals as goal

pub returns : goal.returns
returns c = no_prefix

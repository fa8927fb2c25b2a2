use Rattle.event_codec.proofs.Records.{records_apart}
use Rattle.event_codec.proofs.laws.records_tell_apart.Goals as goal

pub returns : goal.returns
returns c = records_apart

use Rattle.event_codec.proofs.Groups.{groups_apart}
use Rattle.event_codec.proofs.laws.groups_tell_apart.Goals as goal

pub returns : goal.returns
returns c = groups_apart

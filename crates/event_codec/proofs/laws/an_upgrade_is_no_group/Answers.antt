use Rattle.event_codec.proofs.Groups.{upgrade_is_none}
use Rattle.event_codec.proofs.laws.an_upgrade_is_no_group.Goals as goal

pub returns : goal.returns
returns c = upgrade_is_none

use Rattle.event_codec.proofs.Groups.{group_reads_back}
use Rattle.event_codec.proofs.group_encoding.encode_group.Goals as goal

pub returns-clause-read : goal.returns-clause-read
returns-clause-read c = group_reads_back c.args.enc c.args.events.now c.group_code.result c.requires.some c.requires.few c.requires.codable c.group_code.ensures.spelled c.group_code.ensures.typed

use Rattle.expand.proofs.Choosing.{some_free}
use Rattle.expand.proofs.branching.first_free.Goals as goal

pub unreachable-requires : goal.unreachable-requires
unreachable-requires c = some_free c.args.area.now c.requires c.in-None.ensures.none

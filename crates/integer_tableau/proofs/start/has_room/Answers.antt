use Rattle.integer_tableau.proofs.Lists.{total_bound_size_more}
use Rattle.integer_tableau.proofs.start.has_room.Goals as goal

pub loop-own-preserved : goal.loop-own-preserved
loop-own-preserved c = total_bound_size_more c.args.bounds.now c.loop-own.own-index c.loop-own.total c.in-Some.more c.size.result c.loop-own-test.true c.loop-own.invariant c.size.ensures c.in-Some.ensures.1

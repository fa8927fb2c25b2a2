use Rattle.cert_merge.proofs.Ordered.{merged_ordered}
use Rattle.cert_merge.proofs.laws.multipliers_are_ordered.Goals as goal

pub returns : goal.returns
returns c = merged_ordered c.args._problem.now

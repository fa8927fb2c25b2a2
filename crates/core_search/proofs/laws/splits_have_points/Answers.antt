use Rattle.core_search.proofs.Weighing.{splits_points}
use Rattle.core_search.proofs.laws.splits_have_points.Goals as goal

pub returns : goal.returns
returns c = splits_points c.args._problem.now

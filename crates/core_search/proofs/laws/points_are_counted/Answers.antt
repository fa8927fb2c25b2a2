use Rattle.problem_box.specs.Lemmas.PointCount.{points_counted}
use Rattle.core_search.proofs.laws.points_are_counted.Goals as goal

pub returns : goal.returns
returns c = points_counted _

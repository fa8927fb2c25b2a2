use Rattle.vipr_print.proofs.ListedPoints.{valid_points}
use Rattle.vipr_print.proofs.laws.valid_points_are_whole.Goals as goal

pub returns : goal.returns
returns c = valid_points _ c.limits_hold.ensures

use Rattle.dual_simplex.specs.Lemmas.RationalValues.{rational_value-whole}
use Rattle.dual_simplex.specs.Lemmas.WholePoints.{whole_point_relaxed}
use Rattle.dual_simplex.proofs.laws.whole_points_are_relaxed.Goals as goal

pub returns : goal.returns
returns c = record { points = whole_point_relaxed; values = rational_value-whole }

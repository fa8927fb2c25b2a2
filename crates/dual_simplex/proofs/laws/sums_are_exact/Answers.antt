use Rattle.dual_simplex.specs.Lemmas.RationalValues.{sum_exact}
use Rattle.dual_simplex.proofs.laws.sums_are_exact.Goals as goal

pub returns : goal.returns
returns c = sum_exact

use Rattle.dual_simplex.specs.Lemmas.ReadOff.{optimal_is_read_off}
use Rattle.dual_simplex.proofs.laws.optima_are_read_off.Goals as goal

pub returns : goal.returns
returns c = optimal_is_read_off

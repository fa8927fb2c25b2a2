use Rattle.dual_simplex.specs.Lemmas.Closing.{infeasible_closes, optimal_closes}
use Rattle.dual_simplex.proofs.laws.answers_close.Goals as goal

pub returns : goal.returns
returns c = record { infeasible = infeasible_closes; optimal = optimal_closes }

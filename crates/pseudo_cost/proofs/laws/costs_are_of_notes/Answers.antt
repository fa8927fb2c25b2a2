use Rattle.pseudo_cost.proofs.Runs.{run_from_nothing}
use Rattle.pseudo_cost.proofs.laws.costs_are_of_notes.Goals as goal

pub returns : goal.returns
returns c = run_from_nothing

use Rattle.tableau.specs.Lemmas.RunKeeps.{run_keeps}
use Rattle.tableau.proofs.laws.runs_keep_tableaus.Goals as goal

pub returns : goal.returns
returns c = run_keeps

use Rattle.tableau.specs.Lemmas.Places.{pivot_there}
use Rattle.tableau.proofs.laws.pivots_are_there.Goals as goal

pub returns : goal.returns
returns c = pivot_there

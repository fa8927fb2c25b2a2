use Rattle.std.specs.Prelude.{is_some}
use Rattle.std.proofs.Common.{ap}
use Rattle.tableau.specs.Lemmas.StartFits.{relaxation_starts}
use Rattle.tableau.proofs.laws.starts_are_there.Goals as goal

pub returns : goal.returns
returns c p cuts spans limited are_cuts few columns modest = ap is_some (relaxation_starts p cuts spans limited are_cuts few columns modest).is

use Rattle.tableau.specs.Lemmas.Started.{started_keeps, relaxation_is_well_formed}
use Rattle.tableau.proofs.laws.starts_are_tableaus.Goals as goal

pub returns : goal.returns
returns c = record { tableau = started_keeps; formed = relaxation_is_well_formed }

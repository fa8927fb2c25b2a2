use Rattle.integer_tableau.proofs.StoredSteps.{step_is}
use Rattle.integer_tableau.proofs.dictionary_laws.steps_by_dictionaries_are_pivots.Goals as goal

pub returns : goal.returns
returns f = step_is

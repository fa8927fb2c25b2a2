use Rattle.integer_tableau.proofs.StoredSteps.{pivot_stored}
use Rattle.integer_tableau.proofs.dictionary_laws.pivots_leave_dictionaries.Goals as goal

pub returns : goal.returns
returns f = pivot_stored

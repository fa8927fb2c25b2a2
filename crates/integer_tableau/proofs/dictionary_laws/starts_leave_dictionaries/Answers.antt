use Rattle.integer_tableau.proofs.StartStored.{start_stored}
use Rattle.integer_tableau.proofs.dictionary_laws.starts_leave_dictionaries.Goals as goal

pub returns : goal.returns
returns f = start_stored

use Rattle.integer_tableau.proofs.Unique.{same_dictionary}
use Rattle.integer_tableau.proofs.dictionary_laws.bases_fix_dictionaries.Goals as goal

pub returns : goal.returns
returns c = same_dictionary

use Rattle.resume.proofs.OneRefusal.{stands_for_one}
use Rattle.resume.proofs.laws.a_journal_stands_for_one_search.Goals as goal

pub returns : goal.returns
returns c = stands_for_one c.records_tell_apart.ensures

use Rattle.resume.proofs.Unrefused.{not_refused}
use Rattle.resume.proofs.laws.what_stands_is_not_refused.Goals as goal

pub returns : goal.returns
returns c = not_refused c.records_tell_apart.ensures

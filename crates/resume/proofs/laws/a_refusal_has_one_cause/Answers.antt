use Rattle.resume.proofs.OneRefusal.{one_refusal}
use Rattle.resume.proofs.laws.a_refusal_has_one_cause.Goals as goal

pub returns : goal.returns
returns c = one_refusal c.records_tell_apart.ensures

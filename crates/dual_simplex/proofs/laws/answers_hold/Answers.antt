use Rattle.dual_simplex.specs.Lemmas.TrueAnswers.{answers_hold}
use Rattle.dual_simplex.proofs.laws.answers_hold.Goals as goal

pub returns : goal.returns
returns c = answers_hold

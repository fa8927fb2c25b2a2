use Rattle.derivation_book.specs.Lemmas.Cutting.{legal_closes}
use Rattle.derivation_book.proofs.laws.legal_proofs_close.Goals as goal

pub returns : goal.returns
returns c = legal_closes c.args.problem.now c.args._book.now.cuts c.limits_hold.ensures

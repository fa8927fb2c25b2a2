use Rattle.derivation_book.specs.Lemmas.Staying.{still_rounded, still_legal}
use Rattle.derivation_book.proofs.laws.proofs_stay.Goals as goal

pub returns-clause-rows : goal.returns-clause-rows
returns-clause-rows c = λ more mult r e. still_rounded c.args._problem.now c.args._book.now.cuts more mult r e

pub returns-clause-proofs : goal.returns-clause-proofs
returns-clause-proofs c = λ more box cutoff lower proof f h. still_legal c.args._problem.now c.args._book.now.cuts more box cutoff lower proof f h

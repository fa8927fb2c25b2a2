use Rattle.derivation_book.specs.Lemmas.Deciding.{decides-legal}
use Rattle.derivation_book.proofs.laws.proofs_are_decided.Goals as goal

pub returns : goal.returns
returns c = decides-legal c.args._problem.now c.args._book.now.cuts

use Rattle.derivation_book.specs.Lemmas.Exact.{price_exact}
use Rattle.derivation_book.specs.Lemmas.Bounding.{price_below}
use Rattle.derivation_book.proofs.laws.prices_bound.Goals as goal

pub returns-clause-exact : goal.returns-clause-exact
returns-clause-exact c = price_exact c.args._problem.now c.args._book.now.cuts

pub returns-clause-bound : goal.returns-clause-bound
returns-clause-bound c = price_below c.args._problem.now c.args._book.now.cuts

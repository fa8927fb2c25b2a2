use Rattle.derivation_book.specs.Lemmas.Cutting.{cuts_hold}
use Rattle.derivation_book.proofs.laws.cuts_hold.Goals as goal

pub returns : goal.returns
returns c = cuts_hold c.args.problem.now c.args._book.now.cuts c.limits_hold.ensures

use Rattle.derivation_book.specs.Lemmas.Cutting.{rows_follow}
use Rattle.derivation_book.proofs.laws.rounded_rows_follow.Goals as goal

pub returns : goal.returns
returns c = rows_follow c.args.problem.now c.args._book.now.cuts c.limits_hold.ensures

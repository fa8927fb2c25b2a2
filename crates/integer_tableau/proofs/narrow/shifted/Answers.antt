use Rattle.integer_tableau.proofs.LowProducts.{shifted_back}
use Rattle.integer_tableau.proofs.narrow.shifted.Goals as goal

pub returns : goal.returns
returns c = λ e. shifted_back c.args.number c.args.zeros c.ranges.number e

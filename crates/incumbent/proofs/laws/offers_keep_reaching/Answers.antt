use Rattle.incumbent.proofs.Falling.{offers_keep}
use Rattle.incumbent.proofs.laws.offers_keep_reaching.Goals as goal

pub returns : goal.returns
returns c = offers_keep

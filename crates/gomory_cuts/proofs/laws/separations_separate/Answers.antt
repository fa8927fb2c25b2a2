use Rattle.gomory_cuts.proofs.Separating.{all_separate, separate_different, at_most_four}
use Rattle.gomory_cuts.proofs.laws.separations_separate.Goals as goal

pub returns : goal.returns
returns c = λ p cuts t x. record { each = all_separate p cuts t x; different = separate_different p cuts t x; few = at_most_four p cuts t x }

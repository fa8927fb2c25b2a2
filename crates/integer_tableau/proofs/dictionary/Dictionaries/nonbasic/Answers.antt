use Rattle.integer_tableau.proofs.KeptViews.{are_viewed}
use Rattle.integer_tableau.proofs.dictionary.Dictionaries.nonbasic.Goals as goal

pub returns-clause-positions : goal.returns-clause-positions
returns-clause-positions c = λ p l. (are_viewed _ _ _ _ _ _ _ _ c.args.self.now c.self.view_is p l).variables_many

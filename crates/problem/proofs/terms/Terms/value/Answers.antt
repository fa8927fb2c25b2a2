use Rattle.problem.specs.Lemmas.Modest.{some_value, none_value}
use Rattle.problem.proofs.terms.Terms.value.Goals as goal

pub returns-in-Some : goal.returns-in-Some
returns-in-Some c = some_value _ _ _ c.requires.columns c.requires.modest c.requires.modest_point c.in-Some.ensures

pub returns-in-None : goal.returns-in-None
returns-in-None c = absurd (none_value _ _ c.requires.columns c.requires.modest c.requires.modest_point c.in-None.ensures)
